-- Whether an expression is a constant by its form, kind by kind.
use Rattle.std.specs.Prelude.{◌≡◌, refl, ℤ, Bool, true, false, not, ◌&&◌, List, [], ◌∷◌, Option, Some, None, is_some, option_map, Contains}
use Rattle.std.specs.List.{list_all}
use Rattle.std.proofs.Common.{ap, sym, ◌∙◌, subst, arith}
use Rattle.cm_base.specs.declared.place.Place.{Place}
use Rattle.cm_tree.specs.declared.path.Path.{Path}
use Rattle.cm_tree.specs.declared.path.Word.{Word}
use Rattle.cm_tree.specs.declared.operator.Unary.{Unary}
use Rattle.cm_tree.specs.declared.operator.Binary.{Binary}
use Rattle.cm_tree.specs.declared.expr.Expr.{Expr}
use Rattle.cm_tree.specs.declared.expr.Base.{Base}
use Rattle.cm_tree.specs.declared.expr.Expr.TheVariants as e
use Rattle.cm_meaning.specs.Scopes.{Around, find}
use Rattle.cm_meaning.specs.Sites.{Site, site, Reads, Calls, arguments_sites}
use Rattle.cm_meaning.specs.SiteEquations.{expr_sites-Name, expr_sites-Call}
use Rattle.cm_meaning.specs.Constants.{value_in, type_in}
use Rattle.cm_meaning.specs.TypeOf.{Knowledge, is_constant}
use Rattle.cm_meaning.specs.DemandEquations.{is_constant-Number, is_constant-Truth, is_constant-Name, is_constant-Call, is_constant-Construct, is_constant-Paren, is_constant-Field, is_constant-Index, is_constant-Unary, is_constant-Binary, is_constant-Choice}
use Rattle.const_values.specs.declared.names.Argument.{Argument}
use Rattle.const_values.specs.Names.{Known, means, Agrees}
use Rattle.const_values.specs.Answers.{Stands, Judges}
use Rattle.const_values.specs.Arguments.{JudgesAll}
use Rattle.const_values.proofs.Parts.{in_call, in_values, in_paren, in_unary, in_left, in_right, in_struct, in_array, in_index, in_test, in_one, in_other}

here : (s : Site) → Contains (s ∷ []) s
here s = (0, omega arith, refl)

-- what is answered for a name that is read
pub read_name : (finds : Path → Known) (args : List Argument) (r : Around) (k : Knowledge) (q : Path) → Stands finds args r k (e.Name q) → Agrees (means args (finds q)) (find r q) k.look
read_name finds args r k q h =
    h.agrees.at (site r (Reads q)) q (subst (λ (all : List Site). Contains all (site r (Reads q))) (sym (expr_sites-Name r q)) (here (site r (Reads q)))) refl

pub first_of : (s : Site) (all : List Site) → Contains (s ∷ all) s
first_of s all = (0, omega arith, refl)

-- and for one that is called
pub called_name : (finds : Path → Known) (args : List Argument) (r : Around) (k : Knowledge) (q : Path) (all : List Expr) → Stands finds args r k (e.Call q all) → Agrees (means args (finds q)) (find r q) k.look
called_name finds args r k q all h =
    h.agrees.at (site r (Calls q all)) q
    (subst (λ (sites : List Site). Contains sites (site r (Calls q all))) (sym (expr_sites-Call r q all)) (first_of (site r (Calls q all)) (arguments_sites r all))) refl

module _ (finds : Path → Known) (args : List Argument) where
  pub judges_number : (p : Place) (z : ℤ) (w : Bool) → Judges finds args (e.Number p z w) true
  judges_number p z w = record { told = λ r k h. is_constant-Number r p z w }

  pub judges_truth : (p : Place) (t : Bool) → Judges finds args (e.Truth p t) true
  judges_truth p t = record { told = λ r k h. is_constant-Truth r p t }

  pub judges_name : (q : Path) (there : Bool) → there ≡ is_some (value_in (means args (finds q))) → Judges finds args (e.Name q) there
  judges_name q there is = record { told = λ r k h. is_constant-Name r q ∙ (read_name finds args r k q h).named_value ∙ sym is }

  pub judges_paren : (p : Place) (a : Expr) (b : Bool) → Judges finds args a b → Judges finds args (e.Paren p a) b
  judges_paren p a b h = record { told = λ r k s. is_constant-Paren r p a ∙ h.told r k (in_paren finds args r k p a s) }

  pub judges_unary : (p : Place) (o : Unary) (a : Expr) (b : Bool) → Judges finds args a b → Judges finds args (e.Unary p o a) b
  judges_unary p o a b h = record { told = λ r k s. is_constant-Unary r p o a ∙ h.told r k (in_unary finds args r k p o a s) }

  -- `&&` stops at the first part that is none
  pub judges_binary : (p : Place) (o : Binary) (a c : Expr) (b d : Bool) → Judges finds args a b → b ≡ true → Judges finds args c d → Judges finds args (e.Binary p o a c) d
  judges_binary p o a c b d h t g = record {
    told = λ r k s. is_constant-Binary r p o a c ∙ ap (λ (x : Bool). x && is_constant r c) (h.told r k (in_left finds args r k p o a c s) ∙ t) ∙ g.told r k (in_right finds args r k p o a c s);
  }

  pub judges_left : (p : Place) (o : Binary) (a c : Expr) (b : Bool) → Judges finds args a b → b ≡ false → Judges finds args (e.Binary p o a c) false
  judges_left p o a c b h t = record {
    told = λ r k s. is_constant-Binary r p o a c ∙ ap (λ (x : Bool). x && is_constant r c) (h.told r k (in_left finds args r k p o a c s) ∙ t);
  }

  pub judges_test : (p : Place) (t a c : Expr) (b : Bool) → Judges finds args t b → b ≡ false → Judges finds args (e.Choice p t a c) false
  judges_test p t a c b h none = record {
    told = λ r k s. is_constant-Choice r p t a c ∙ ap (λ (x : Bool). x && (is_constant r a && is_constant r c)) (h.told r k (in_test finds args r k p t a c s) ∙ none);
  }

  pub judges_one : (p : Place) (t a c : Expr) (b d : Bool) → Judges finds args t b → b ≡ true → Judges finds args a d → d ≡ false → Judges finds args (e.Choice p t a c) false
  judges_one p t a c b d h all g none = record {
    told = λ r k s. is_constant-Choice r p t a c ∙ ap (λ (x : Bool). x && (is_constant r a && is_constant r c)) (h.told r k (in_test finds args r k p t a c s) ∙ all)
        ∙ ap (λ (x : Bool). x && is_constant r c) (g.told r k (in_one finds args r k p t a c s) ∙ none);
  }

  pub judges_choice : (p : Place) (t a c : Expr) (b d x : Bool) → Judges finds args t b → b ≡ true → Judges finds args a d → d ≡ true → Judges finds args c x
      → Judges finds args (e.Choice p t a c) x
  judges_choice p t a c b d x h all g also i = record {
    told = λ r k s. is_constant-Choice r p t a c ∙ ap (λ (x : Bool). x && (is_constant r a && is_constant r c)) (h.told r k (in_test finds args r k p t a c s) ∙ all)
        ∙ ap (λ (x : Bool). x && is_constant r c) (g.told r k (in_one finds args r k p t a c s) ∙ also) ∙ i.told r k (in_other finds args r k p t a c s);
  }

  -- a call of a type, and a call of anything else
  pub judges_call : (q : Path) (all : List Expr) (b : Bool) → is_some (type_in (means args (finds q))) ≡ true → JudgesAll finds args all b → Judges finds args (e.Call q all) b
  judges_call q all b is h = record {
    told = λ r k s. is_constant-Call r q all ∙ ap (λ (x : Bool). x && list_all (is_constant r) all) ((called_name finds args r k q all s).named_type ∙ is) ∙ h.told r k (in_call finds args r k q all s);
  }

  pub judges_no_type : (q : Path) (all : List Expr) → is_some (type_in (means args (finds q))) ≡ false → Judges finds args (e.Call q all) false
  judges_no_type q all none = record {
    told = λ r k s. is_constant-Call r q all ∙ ap (λ (x : Bool). x && list_all (is_constant r) all) ((called_name finds args r k q all s).named_type ∙ none);
  }

  pub judges_construct : (t : Base) (sizes all : List Expr) (b : Bool) → JudgesAll finds args all b → Judges finds args (e.Construct t sizes all) b
  judges_construct t sizes all b h = record { told = λ r k s. is_constant-Construct r t sizes all ∙ h.told r k (in_values finds args r k t sizes all s) }

  pub judges_field : (p : Place) (a : Expr) (w : Word) (b : Bool) → Judges finds args a b → Judges finds args (e.Field p a w) b
  judges_field p a w b h = record { told = λ r k s. is_constant-Field r p a w ∙ h.told r k (in_struct finds args r k p a w s) }

  pub judges_index : (p : Place) (a c : Expr) (b d : Bool) → Judges finds args a b → b ≡ true → Judges finds args c d → Judges finds args (e.Index p a c) d
  judges_index p a c b d h t g = record {
    told = λ r k s. is_constant-Index r p a c ∙ ap (λ (x : Bool). x && is_constant r c) (h.told r k (in_array finds args r k p a c s) ∙ t) ∙ g.told r k (in_index finds args r k p a c s);
  }

  pub judges_array : (p : Place) (a c : Expr) (b : Bool) → Judges finds args a b → b ≡ false → Judges finds args (e.Index p a c) false
  judges_array p a c b h t = record {
    told = λ r k s. is_constant-Index r p a c ∙ ap (λ (x : Bool). x && is_constant r c) (h.told r k (in_array finds args r k p a c s) ∙ t);
  }

  -- of the same expression, and of the same answer
  pub judged : (a c : Expr) (b d : Bool) → c ≡ a → d ≡ b → Judges finds args a b → Judges finds args c d
  judged a c b d e f h = subst (λ (x : Expr). Judges finds args x d) (sym e) (subst (λ (y : Bool). Judges finds args a y) (sym f) h)

pub some_map : {A B : Type 0} (f : A → B) (o : Option A) → is_some o ≡ is_some (option_map f o)
some_map f None = refl
some_map f (Some x) = refl

-- where there is no value there is no image of it, and where there is one there is
pub none_mapped : {A B : Type 0} (f : A → B) (o : Option A) (m : Option B) (b : Bool) → option_map f o ≡ m → is_some o ≡ not b → b ≡ true → is_some m ≡ false
none_mapped f o m b e is none = sym (ap is_some e) ∙ sym (some_map f o) ∙ is ∙ ap not none

pub some_mapped : {A B : Type 0} (f : A → B) (o : Option A) (m : Option B) (b : Bool) → option_map f o ≡ m → is_some o ≡ not b → b ≡ false → is_some m ≡ true
some_mapped f o m b e is some = sym (ap is_some e) ∙ sym (some_map f o) ∙ is ∙ ap not some
