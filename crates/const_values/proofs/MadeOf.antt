-- What is answered for a cast or constructor, from what is answered for its parts.
use Rattle.std.specs.Prelude.{◌≡◌, refl, ℕ, true, List, [], ◌∷◌, ◌++◌, map, flat_map, Option, Some, None, is_some, option_map, option_and_then, Result, Ok, Err, IsErr, IsErrAnd}
use Rattle.std.specs.List.{list_all}
use Rattle.std.proofs.Common.{ap, sym, ◌∙◌, subst}
use Rattle.cm_base.specs.declared.cause.Cause.TheVariants as cause
use Rattle.cm_base.specs.declared.place.Place.{Place}
use Rattle.cm_base.specs.declared.failure.Fail.{Fail}
use Rattle.cm_base.specs.declared.failure.Fail.TheVariants as fail
use Rattle.cm_tree.specs.declared.path.Path.{Path}
use Rattle.cm_tree.specs.declared.path.Word.{Word}
use Rattle.cm_tree.specs.declared.expr.Expr.{Expr}
use Rattle.cm_tree.specs.declared.expr.Base.{Base}
use Rattle.cm_tree.specs.declared.expr.Expr.TheVariants as e
use Rattle.cm_tree.specs.Levels.{base_place}
use Rattle.cm_types.specs.declared.cm_type.CmType.{CmType as CodeType}
use Rattle.cm_types.specs.declared.valued.Valued.{Valued as CodeValued}
use Rattle.cm_types.specs.Meant.{meant_type}
use Rattle.cm_meaning.specs.Declared.{Named, Namespace, Processor, Graph, Struct, Using, Constant, Function, State, Endpoint, Node, TypeParameter, ValueParameter, Parameter, LocalConstant, LocalVariable, Counter, Home, Declared, is_type}
use Rattle.cm_meaning.specs.Scopes.{Around, find}
use Rattle.cm_meaning.specs.Faults.{Fault}
use Rattle.cm_meaning.specs.Types.{CmType}
use Rattle.cm_meaning.specs.Conversions.{with_type}
use Rattle.cm_meaning.specs.Constants.{type_in, meant_by, arrays, eval, base_type, made, constructed}
use Rattle.cm_meaning.specs.TypeOf.{Knowledge, type_of, is_constant, is_type_name, called_type}
use Rattle.cm_meaning.specs.TypeEquations.{eval-Call, eval-Construct, type_of-Call, type_of-Construct}
use Rattle.cm_meaning.specs.Demands.{UsesCall, Makes}
use Rattle.cm_meaning.specs.DemandEquations.{is_constant-Call, is_constant-Construct}
use Rattle.cm_meaning.specs.TypeRows.{rows_of, call_rows, made_rows, if_typed, is_small}
use Rattle.const_values.specs.declared.names.Argument.{Argument}
use Rattle.const_values.specs.declared.construct.Given.{Given as CodeGiven}
use Rattle.const_values.specs.Names.{Known, means}
use Rattle.const_values.specs.Answers.{Gives, own_faults, Tells}
use Rattle.const_values.specs.Arguments.{AreGiven, TellsAll, GivesCall, GivesMade, GivesComposed, small_faults}
use Rattle.const_values.specs.Construct.{Given, meant_givens, values_of, made_faults}
use Rattle.const_values.specs.Sizes.{TellsBase, TellsCounts, AreCounts, array_of, base_faults, count_faults}
use Rattle.const_values.proofs.Operands.{no}
use Rattle.const_values.proofs.Constructs.{passed, passed_on, behind}
use Rattle.const_values.proofs.Forms.{called_name}
use Rattle.const_values.proofs.Numbers.{sizes_right, arrays_are}
use Rattle.const_values.proofs.Parts.{and_left, and_right, in_call, in_base, in_sizes, in_values, faults-Call, faults-Construct}
use Rattle.const_values.proofs.Rows.{made_is, value_is}

-- ---- a name that is a type

abbrev declared_as : Word → Home → Named → Declared
declared_as w h n = record { word = w; home = h; named = n }

rows_by_kind : (r : Around) (k : Knowledge) (q : Path) (all : List Expr) (w : Word) (h : Home) (n : Named) → find r q ≡ Some (declared_as w h n) → is_type n ≡ true
    → call_rows r k true q all ≡ made_rows r k q.place (type_in (meant_by r k.look q)) all
rows_by_kind r k q all w h (Struct p fields) e is = rw e (ap (λ (o : Option Declared). made_rows r k q.place (type_in (option_map k.look o)) all) e)
rows_by_kind r k q all w h (Using ty) e is = rw e (ap (λ (o : Option Declared). made_rows r k q.place (type_in (option_map k.look o)) all) e)
rows_by_kind r k q all w h (TypeParameter i) e is = rw e (ap (λ (o : Option Declared). made_rows r k q.place (type_in (option_map k.look o)) all) e)
rows_by_kind r k q all w h (Constant value) e is = no is
rows_by_kind r k q all w h (ValueParameter i ty) e is = no is
rows_by_kind r k q all w h (Namespace path) e is = no is
rows_by_kind r k q all w h (Processor unit) e is = no is
rows_by_kind r k q all w h (Graph unit) e is = no is
rows_by_kind r k q all w h (Function f) e is = no is
rows_by_kind r k q all w h (State ty v) e is = no is
rows_by_kind r k q all w h (Endpoint a b ty keys) e is = no is
rows_by_kind r k q all w h (Node a) e is = no is
rows_by_kind r k q all w h (Parameter ty) e is = no is
rows_by_kind r k q all w h (LocalConstant v) e is = no is
rows_by_kind r k q all w h (LocalVariable ty v) e is = no is
rows_by_kind r k q all w h (Counter ty) e is = no is

rows_found : (r : Around) (k : Knowledge) (q : Path) (all : List Expr) (found : Option Declared) → find r q ≡ found → is_type_name found ≡ true
    → call_rows r k true q all ≡ made_rows r k q.place (type_in (meant_by r k.look q)) all
rows_found r k q all None e is = no is
rows_found r k q all (Some x) e is = rows_by_kind r k q all x.word x.home x.named e is

type_by_kind : (all : List Declared) (k : Knowledge) (w : Word) (h : Home) (n : Named) → is_type n ≡ true → called_type all k (declared_as w h n) ≡ type_in (Some (k.look (declared_as w h n)))
type_by_kind all k w h (Struct p fields) is = refl
type_by_kind all k w h (Using ty) is = refl
type_by_kind all k w h (TypeParameter i) is = refl
type_by_kind all k w h (Constant value) is = no is
type_by_kind all k w h (ValueParameter i ty) is = no is
type_by_kind all k w h (Namespace path) is = no is
type_by_kind all k w h (Processor unit) is = no is
type_by_kind all k w h (Graph unit) is = no is
type_by_kind all k w h (Function f) is = no is
type_by_kind all k w h (State ty v) is = no is
type_by_kind all k w h (Endpoint a b ty keys) is = no is
type_by_kind all k w h (Node a) is = no is
type_by_kind all k w h (Parameter ty) is = no is
type_by_kind all k w h (LocalConstant v) is = no is
type_by_kind all k w h (LocalVariable ty v) is = no is
type_by_kind all k w h (Counter ty) is = no is

type_called : (all : List Declared) (k : Knowledge) (found : Option Declared) → is_type_name found ≡ true → option_and_then (called_type all k) found ≡ type_in (option_map k.look found)
type_called all k None is = no is
type_called all k (Some x) is = type_by_kind all k x.word x.home x.named is

given_right : (r : Around) (k : Knowledge) (all : List Expr) (gs : List Given) → AreGiven r k all gs → flat_map (own_faults r k) all ≡ []
given_right r k [] [] h = refl
given_right r k [] (g ∷ gs) h = absurd h
given_right r k (a ∷ all) [] h = absurd h
given_right r k (a ∷ all) (g ∷ gs) h = ap (λ (l : List Fault). l ++ flat_map (own_faults r k) all) h.0.right ∙ given_right r k all gs h.1

module _ (finds : Path → Known) (args : List Argument) where
  -- ---- calls

  is_type_there : (r : Around) (q : Path) (all : List Expr) → is_constant r (e.Call q all) ≡ true → is_type_name (find r q) ≡ true
  is_type_there r q all is = and_left (is_type_name (find r q)) (list_all (is_constant r) all) (sym (is_constant-Call r q all) ∙ is)

  arguments_are : (r : Around) (q : Path) (all : List Expr) → is_constant r (e.Call q all) ≡ true → list_all (is_constant r) all ≡ true
  arguments_are r q all is = and_right (is_type_name (find r q)) (list_all (is_constant r) all) (sym (is_constant-Call r q all) ∙ is)

  pub call_refused : (q : Path) (all : List Expr) (x : Fail) → TellsAll finds args all (Err x) → Tells finds args (e.Call q all) (Err x)
  call_refused q all x h = record {
    told = λ r k s is. passed (own_faults r k (e.Call q all)) (flat_map (own_faults r k) all) (rows_of r k (UsesCall q all)) x
        (faults-Call r k q all) (h.told r k (in_call finds args r k q all s) (arguments_are r q all is));
  }

  of_type : (r : Around) (k : Knowledge) (q : Path) (all : List Expr) (gs : List Given) (t : CmType) (x : Result CodeValued Fail) → AreGiven r k all gs → is_type_name (find r q) ≡ true
      → type_in (meant_by r k.look q) ≡ Some t → GivesMade q.place t gs x → Gives (own_faults r k (e.Call q all)) (eval r k.look (e.Call q all)) (type_of r k (e.Call q all)) x
  of_type r k q all gs t x given there ty h =
      behind (own_faults r k (e.Call q all)) (flat_map (own_faults r k) all) (made_faults q.place t gs) (with_type t (constructed t (values_of gs))) (eval r k.look (e.Call q all)) (Some t) (type_of r k (e.Call q all)) x
      (faults-Call r k q all
      ∙ ap (λ (l : List Fault). flat_map (own_faults r k) all ++ l)
      (rows_found r k q all (find r q) refl there ∙ ap (λ (o : Option CmType). made_rows r k q.place o all) ty ∙ made_is r k q.place t all gs given))
      (given_right r k all gs given)
      (eval-Call r k.look q all ∙ ap (λ (o : Option CmType). made o (map (eval r k.look) all)) ty ∙ value_is r k t all gs given)
      (type_of-Call r k q all ∙ type_called r.all k (find r q) there ∙ ty)
      h

  by_type : (r : Around) (k : Knowledge) (q : Path) (all : List Expr) (gs : List Given) (o : Option CmType) (x : Result CodeValued Fail) → AreGiven r k all gs → is_type_name (find r q) ≡ true
      → is_type_name (find r q) ≡ is_some o → type_in (meant_by r k.look q) ≡ o → GivesCall q.place o gs x → Gives (own_faults r k (e.Call q all)) (eval r k.look (e.Call q all)) (type_of r k (e.Call q all)) x
  by_type r k q all gs None x given there named ty h = no (sym named ∙ there)
  by_type r k q all gs (Some t) x given there named ty h = of_type r k q all gs t x given there ty h

  pub told_call : (q : Path) (all : List Expr) (gs : List CodeGiven) (x : Result CodeValued Fail) → TellsAll finds args all (Ok gs) → GivesCall q.place (type_in (means args (finds q))) (meant_givens gs) x
      → Tells finds args (e.Call q all) x
  told_call q all gs x h g = record {
    told = λ r k s is.
        let a = called_name finds args r k q all s in
        let there = is_type_there r q all is in
        by_type r k q all (meant_givens gs) (type_in (means args (finds q))) x (h.told r k (in_call finds args r k q all s) (arguments_are r q all is)) there a.named_type (a.ty there) g;
  }

  -- where memory runs out, nothing is told
  pub unmade : (a : Expr) (x : Result CodeValued Fail) → IsErr x × IsErrAnd x (λ y. y ≡ fail.NoMemory) → Tells finds args a x
  unmade a (Ok v) h = absurd h.1
  unmade a (Err y) h = subst (λ (z : Fail). Tells finds args a (Err z)) (sym h.1) (record { told = λ r k s is. tt })

  -- ---- constructors

  values_are : (r : Around) (t : Base) (sizes all : List Expr) → is_constant r (e.Construct t sizes all) ≡ true → list_all (is_constant r) all ≡ true
  values_are r t sizes all is = sym (is_constant-Construct r t sizes all) ∙ is

  abbrev behind_sizes : Around → Knowledge → Base → List Expr → List Expr → List Fault
  behind_sizes r k t sizes all = flat_map (own_faults r k) all ++ rows_of r k (Makes t sizes all)

  abbrev behind_base : Around → Knowledge → Base → List Expr → List Expr → List Fault
  behind_base r k t sizes all = flat_map (count_faults r k) sizes ++ behind_sizes r k t sizes all

  pub base_refused : (t : Base) (sizes all : List Expr) (x : Fail) → TellsBase finds args t (Err x) → Tells finds args (e.Construct t sizes all) (Err x)
  base_refused t sizes all x h = record {
    told = λ r k s is. passed (own_faults r k (e.Construct t sizes all)) (base_faults r k t) (behind_base r k t sizes all) x
        (faults-Construct r k t sizes all) (h.told r k (in_base finds args r k t sizes all s));
  }

  pub sizes_refused : (t : Base) (sizes all : List Expr) (x : Fail) → TellsCounts finds args sizes (Err x) → Tells finds args (e.Construct t sizes all) (Err x)
  sizes_refused t sizes all x h = record {
    told = λ r k s is. passed_on (own_faults r k (e.Construct t sizes all)) (base_faults r k t) (behind_base r k t sizes all) x (faults-Construct r k t sizes all)
        (passed (behind_base r k t sizes all) (flat_map (count_faults r k) sizes) (behind_sizes r k t sizes all) x refl (h.told r k (in_sizes finds args r k t sizes all s)));
  }

  pub values_refused : (t : Base) (sizes all : List Expr) (x : Fail) → TellsAll finds args all (Err x) → Tells finds args (e.Construct t sizes all) (Err x)
  values_refused t sizes all x h = record {
    told = λ r k s is. passed_on (own_faults r k (e.Construct t sizes all)) (base_faults r k t) (behind_base r k t sizes all) x (faults-Construct r k t sizes all)
        (passed_on (behind_base r k t sizes all) (flat_map (count_faults r k) sizes) (behind_sizes r k t sizes all) x refl
        (passed (behind_sizes r k t sizes all) (flat_map (own_faults r k) all) (rows_of r k (Makes t sizes all)) x refl
        (h.told r k (in_values finds args r k t sizes all s) (values_are r t sizes all is))));
  }

  makes_is : (r : Around) (k : Knowledge) (t : Base) (sizes all : List Expr) (gs : List Given) (w : CmType) → AreGiven r k all gs → arrays (base_type r k.look t) (map (eval r k.look) sizes) ≡ Some w
      → rows_of r k (Makes t sizes all) ≡ small_faults (base_place t) w ++ made_faults (base_place t) w gs
  makes_is r k t sizes all gs w given ty =
      ap (λ (o : Option CmType). if_typed o is_small cause.TooManyElements (base_place t) ++ made_rows r k (base_place t) o all) ty
      ∙ ap (λ (l : List Fault). small_faults (base_place t) w ++ l) (made_is r k (base_place t) w all gs given)

  composed_is : (r : Around) (k : Knowledge) (t : Base) (sizes all : List Expr) (u : CmType) (counts : List ℕ) (gs : List Given) (x : Result CodeValued Fail)
      → base_faults r k t ≡ [] → base_type r k.look t ≡ Some u → AreCounts r k sizes counts → AreGiven r k all gs → GivesComposed (base_place t) (array_of u counts) gs x
      → Gives (own_faults r k (e.Construct t sizes all)) (eval r k.look (e.Construct t sizes all)) (type_of r k (e.Construct t sizes all)) x
  composed_is r k t sizes all u counts gs x right first numbers given h =
      let w = array_of u counts in
      let ty : arrays (base_type r k.look t) (map (eval r k.look) sizes) ≡ Some w = arrays_are r k (base_type r k.look t) u sizes counts first numbers in
      let own = small_faults (base_place t) w ++ made_faults (base_place t) w gs in
      behind (own_faults r k (e.Construct t sizes all)) (base_faults r k t) (behind_base r k t sizes all) (with_type w (constructed w (values_of gs))) (eval r k.look (e.Construct t sizes all)) (Some w) (type_of r k (e.Construct t sizes all)) x
      (faults-Construct r k t sizes all) right
      (eval-Construct r k.look t sizes all ∙ ap (λ (o : Option CmType). made o (map (eval r k.look) all)) ty ∙ value_is r k w all gs given)
      (type_of-Construct r k t sizes all ∙ ty)
      (behind (behind_base r k t sizes all) (flat_map (count_faults r k) sizes) (behind_sizes r k t sizes all) _ _ _ _ x refl (sizes_right r k sizes counts numbers) refl refl
      (behind (behind_sizes r k t sizes all) (flat_map (own_faults r k) all) own _ _ _ _ x
      (ap (λ (l : List Fault). flat_map (own_faults r k) all ++ l) (makes_is r k t sizes all gs w given ty)) (given_right r k all gs given) refl refl h))

  told_composed : (t : Base) (sizes all : List Expr) (u : CodeType) (counts : List ℕ) (gs : List CodeGiven) (x : Result CodeValued Fail) → TellsBase finds args t (Ok u) → TellsCounts finds args sizes (Ok counts)
      → TellsAll finds args all (Ok gs) → GivesComposed (base_place t) (array_of (meant_type u) counts) (meant_givens gs) x → Tells finds args (e.Construct t sizes all) x
  told_composed t sizes all u counts gs x f g h own = record {
    told = λ r k s is.
        let first = f.told r k (in_base finds args r k t sizes all s) in
        composed_is r k t sizes all (meant_type u) counts (meant_givens gs) x first.0 first.1 (g.told r k (in_sizes finds args r k t sizes all s))
        (h.told r k (in_values finds args r k t sizes all s) (values_are r t sizes all is)) own;
  }

  -- the type is the array of these counts, and the place that of the base type
  pub told_construct : (t : Base) (sizes all : List Expr) (u w : CodeType) (counts : List ℕ) (gs : List CodeGiven) (p : Place) (x : Result CodeValued Fail) → TellsBase finds args t (Ok u)
      → TellsCounts finds args sizes (Ok counts) → TellsAll finds args all (Ok gs) → meant_type w ≡ array_of (meant_type u) counts → p ≡ base_place t
      → GivesComposed p (meant_type w) (meant_givens gs) x → Tells finds args (e.Construct t sizes all) x
  told_construct t sizes all u w counts gs p x f g h is at own =
      told_composed t sizes all u counts gs x f g h
      (subst (λ (c : CmType). GivesComposed (base_place t) c (meant_givens gs) x) is (subst (λ (q : Place). GivesComposed q (meant_type w) (meant_givens gs) x) at own))
