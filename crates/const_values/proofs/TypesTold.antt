-- What is answered for a type that is written, from what is answered for its parts.
use Rattle.std.specs.Prelude.{◌≡◌, refl, ℕ, List, [], ◌∷◌, ◌++◌, flat_map, Option, Some, None, is_some, Result, Ok, Err, IsErr, IsErrAnd}
use Rattle.std.specs.List.{list_all}
use Rattle.std.proofs.Common.{ap, sym, ◌∙◌, subst}
use Rattle.cm_base.specs.declared.cause.Cause.TheVariants as cause
use Rattle.cm_base.specs.declared.place.Place.{Place}
use Rattle.cm_base.specs.declared.failure.Fail.{Fail}
use Rattle.cm_base.specs.declared.failure.Fail.TheVariants as fail
use Rattle.cm_tree.specs.declared.path.Path.{Path}
use Rattle.cm_tree.specs.declared.expr.Expr.{Expr}
use Rattle.cm_tree.specs.declared.expr.Base.{Base}
use Rattle.cm_tree.specs.declared.type_expr.TypeExpr.{TypeExpr}
use Rattle.cm_tree.specs.declared.type_expr.TypeExpr.TheVariants as y
use Rattle.cm_tree.specs.Levels.{base_place}
use Rattle.cm_types.specs.declared.cm_type.CmType.{CmType as CodeType}
use Rattle.cm_types.specs.Meant.{meant_type}
use Rattle.cm_meaning.specs.Scopes.{Around, find}
use Rattle.cm_meaning.specs.Sites.{site, NamesType as NamesTypeSite, expr_sites, base_sites}
use Rattle.cm_meaning.specs.Faults.{Fault}
use Rattle.cm_meaning.specs.Types.{CmType}
use Rattle.cm_meaning.specs.Constants.{type_in, meant_by, type_of_expr}
use Rattle.cm_meaning.specs.TypeOf.{Knowledge}
use Rattle.cm_meaning.specs.Demands.{HasSize}
use Rattle.cm_meaning.specs.TypeRows.{rows_of, type_place, if_typed, is_small}
use Rattle.const_values.specs.declared.names.Argument.{Argument}
use Rattle.const_values.specs.Names.{Known, means, Agrees}
use Rattle.const_values.specs.Literals.{literals_fit, base_fits}
use Rattle.const_values.specs.Arguments.{AllStand, small_faults}
use Rattle.const_values.specs.Sizes.{BaseStands, GivesType, TellsBase, TellsCounts, array_of, base_faults, count_faults}
use Rattle.const_values.specs.Written.{TypeStands, type_faults, TellsType, GivesSmall}
use Rattle.const_values.proofs.Operands.{no}
use Rattle.const_values.proofs.Constructs.{passed, passed_on}
use Rattle.const_values.proofs.Forms.{first_of}
use Rattle.const_values.proofs.Numbers.{sizes_right, arrays_are}
use Rattle.const_values.proofs.Parts.{and_left, and_right, agrees_left, agrees_right, sizes_stand, faults-BaseType, faults-NamedType}

-- what is behind a part that has no fault decides
behind_type : (all xs ys : List Fault) (t u : Option CmType) (x : Result CodeType Fail) → all ≡ xs ++ ys → xs ≡ [] → u ≡ t → GivesType ys t x → GivesType all u x
behind_type all xs ys t u (Ok a) e none f h = (e ∙ ap (λ (l : List Fault). l ++ ys) none ∙ h.0, f ∙ h.1)
behind_type all xs ys t u (Err x) e none f h = passed_on all xs ys x e h

size_is : (r : Around) (k : Knowledge) (ty : TypeExpr) (w : CmType) → type_of_expr r k.look ty ≡ Some w → rows_of r k (HasSize ty) ≡ small_faults (type_place ty) w
size_is r k ty w e = ap (λ (o : Option CmType). if_typed o is_small cause.TooManyElements (type_place ty)) e

module _ (finds : Path → Known) (args : List Argument) where
  pub type_as : (ty u : TypeExpr) (x y : Result CodeType Fail) → u ≡ ty → y ≡ x → TellsType finds args ty x → TellsType finds args u y
  type_as ty u x y same is h = subst (λ (v : TypeExpr). TellsType finds args v y) (sym same) (subst (λ (z : Result CodeType Fail). TellsType finds args ty z) (sym is) h)

  -- where memory runs out, nothing is told
  pub type_unmade : (ty : TypeExpr) (x : Result CodeType Fail) → IsErr x × IsErrAnd x (λ y. y ≡ fail.NoMemory) → TellsType finds args ty x
  type_unmade ty (Ok v) h = absurd h.1
  type_unmade ty (Err y) h = subst (λ (z : Fail). TellsType finds args ty (Err z)) (sym h.1) (record { told = λ r k s. tt })

  -- ---- a base type

  in_base : (r : Around) (k : Knowledge) (t : Base) (sizes : List Expr) → TypeStands finds args r k (y.Base t sizes) → BaseStands finds args r k t
  in_base r k t sizes h = record {
    agrees = agrees_left finds args k.look (base_sites r t) (flat_map (expr_sites r) sizes) h.agrees;
    literals = and_left (base_fits t) (list_all literals_fit sizes) h.literals;
  }

  in_sizes : (r : Around) (k : Knowledge) (t : Base) (sizes : List Expr) → TypeStands finds args r k (y.Base t sizes) → AllStand finds args r k sizes
  in_sizes r k t sizes h =
      sizes_stand finds args r k sizes (agrees_right finds args k.look (base_sites r t) (flat_map (expr_sites r) sizes) h.agrees)
      (and_right (base_fits t) (list_all literals_fit sizes) h.literals)

  pub base_refused : (t : Base) (sizes : List Expr) (x : Fail) → TellsBase finds args t (Err x) → TellsType finds args (y.Base t sizes) (Err x)
  base_refused t sizes x h = record {
    told = λ r k s. passed (type_faults r k (y.Base t sizes)) (base_faults r k t) (flat_map (count_faults r k) sizes ++ rows_of r k (HasSize (y.Base t sizes))) x
        (faults-BaseType r k t sizes) (h.told r k (in_base r k t sizes s));
  }

  pub sizes_refused : (t : Base) (sizes : List Expr) (x : Fail) → TellsCounts finds args sizes (Err x) → TellsType finds args (y.Base t sizes) (Err x)
  sizes_refused t sizes x h = record {
    told = λ r k s.
        passed_on (type_faults r k (y.Base t sizes)) (base_faults r k t) (flat_map (count_faults r k) sizes ++ rows_of r k (HasSize (y.Base t sizes))) x (faults-BaseType r k t sizes)
        (passed (flat_map (count_faults r k) sizes ++ rows_of r k (HasSize (y.Base t sizes))) (flat_map (count_faults r k) sizes) (rows_of r k (HasSize (y.Base t sizes))) x refl
        (h.told r k (in_sizes r k t sizes s)));
  }

  told_at_base : (t : Base) (sizes : List Expr) (u : CodeType) (counts : List ℕ) (x : Result CodeType Fail) → TellsBase finds args t (Ok u) → TellsCounts finds args sizes (Ok counts)
      → GivesSmall (base_place t) (array_of (meant_type u) counts) x → TellsType finds args (y.Base t sizes) x
  told_at_base t sizes u counts x f g own = record {
    told = λ r k s.
        let first = f.told r k (in_base r k t sizes s) in
        let numbers = g.told r k (in_sizes r k t sizes s) in
        let w = array_of (meant_type u) counts in
        let ty : type_of_expr r k.look (y.Base t sizes) ≡ Some w = arrays_are r k _ (meant_type u) sizes counts first.1 numbers in
        behind_type (type_faults r k (y.Base t sizes)) (base_faults r k t) (flat_map (count_faults r k) sizes ++ rows_of r k (HasSize (y.Base t sizes))) (Some w) (type_of_expr r k.look (y.Base t sizes)) x
        (faults-BaseType r k t sizes) first.0 ty
        (behind_type (flat_map (count_faults r k) sizes ++ rows_of r k (HasSize (y.Base t sizes))) (flat_map (count_faults r k) sizes) (small_faults (base_place t) w) (Some w) (Some w) x
        (ap (λ (l : List Fault). flat_map (count_faults r k) sizes ++ l) (size_is r k (y.Base t sizes) w ty)) (sizes_right r k sizes counts numbers) refl own);
  }

  pub told_base : (t : Base) (sizes : List Expr) (u w : CodeType) (counts : List ℕ) (p : Place) (x : Result CodeType Fail) → TellsBase finds args t (Ok u) → TellsCounts finds args sizes (Ok counts)
      → meant_type w ≡ array_of (meant_type u) counts → p ≡ base_place t → GivesSmall p (meant_type w) x → TellsType finds args (y.Base t sizes) x
  told_base t sizes u w counts p x f g is at own =
      told_at_base t sizes u counts x f g (subst (λ (c : CmType). GivesSmall (base_place t) c x) is (subst (λ (q : Place). GivesSmall q (meant_type w) x) at own))

  -- ---- a named type

  in_named_sizes : (r : Around) (k : Knowledge) (q : Path) (sizes : List Expr) → TypeStands finds args r k (y.Named q sizes) → AllStand finds args r k sizes
  in_named_sizes r k q sizes h =
      sizes_stand finds args r k sizes (agrees_right finds args k.look (site r (NamesTypeSite q) ∷ []) (flat_map (expr_sites r) sizes) h.agrees) h.literals

  named_agrees : (r : Around) (k : Knowledge) (q : Path) (sizes : List Expr) → TypeStands finds args r k (y.Named q sizes) → Agrees (means args (finds q)) (find r q) k.look
  named_agrees r k q sizes h = h.agrees.at (site r (NamesTypeSite q)) q (first_of (site r (NamesTypeSite q)) (flat_map (expr_sites r) sizes)) refl

  pub no_type : (q : Path) (sizes : List Expr) (x : Result CodeType Fail) → None ≡ type_in (means args (finds q)) → TellsType finds args (y.Named q sizes) x
  no_type q sizes x none = record {
    told = λ r k s. no (ap (λ (o : Option CmType). is_some o) none ∙ sym (named_agrees r k q sizes s).named_type ∙ s.named);
  }

  pub named_sizes_refused : (q : Path) (sizes : List Expr) (x : Fail) → TellsCounts finds args sizes (Err x) → TellsType finds args (y.Named q sizes) (Err x)
  named_sizes_refused q sizes x h = record {
    told = λ r k s. passed (type_faults r k (y.Named q sizes)) (flat_map (count_faults r k) sizes) (rows_of r k (HasSize (y.Named q sizes))) x
        (faults-NamedType r k q sizes) (h.told r k (in_named_sizes r k q sizes s));
  }

  told_at_named : (q : Path) (sizes : List Expr) (u : CmType) (counts : List ℕ) (x : Result CodeType Fail) → Some u ≡ type_in (means args (finds q)) → TellsCounts finds args sizes (Ok counts)
      → GivesSmall q.place (array_of u counts) x → TellsType finds args (y.Named q sizes) x
  told_at_named q sizes u counts x found g own = record {
    told = λ r k s.
        let first : type_in (meant_by r k.look q) ≡ Some u = (named_agrees r k q sizes s).ty s.named ∙ sym found in
        let numbers = g.told r k (in_named_sizes r k q sizes s) in
        let w = array_of u counts in
        let ty : type_of_expr r k.look (y.Named q sizes) ≡ Some w = arrays_are r k (type_in (meant_by r k.look q)) u sizes counts first numbers in
        behind_type (type_faults r k (y.Named q sizes)) (flat_map (count_faults r k) sizes) (small_faults q.place w) (Some w) (type_of_expr r k.look (y.Named q sizes)) x
        (faults-NamedType r k q sizes ∙ ap (λ (l : List Fault). flat_map (count_faults r k) sizes ++ l) (size_is r k (y.Named q sizes) w ty))
        (sizes_right r k sizes counts numbers) ty own;
  }

  pub told_named : (q : Path) (sizes : List Expr) (u w : CodeType) (counts : List ℕ) (x : Result CodeType Fail) → Some (meant_type u) ≡ type_in (means args (finds q)) → TellsCounts finds args sizes (Ok counts)
      → meant_type w ≡ array_of (meant_type u) counts → GivesSmall q.place (meant_type w) x → TellsType finds args (y.Named q sizes) x
  told_named q sizes u w counts x found g is own = told_at_named q sizes (meant_type u) counts x found g (subst (λ (c : CmType). GivesSmall q.place c x) is own)
