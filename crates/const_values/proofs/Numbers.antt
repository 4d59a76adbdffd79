-- Counts, and the types with them.
use Rattle.std.specs.Prelude.{◌≡◌, refl, ℕ, if◌then◌else◌, ℤ, Bool, true, false, List, [], ◌∷◌, ◌++◌, map, flat_map, Option, Some, None, is_some, option_map, option_and_then, Result, Ok, Err}
use Rattle.std.proofs.Common.{ap, sym, ◌∙◌, subst, inl}
use Rattle.cm_base.specs.HostEnds.{IsCount, IsLawfulScalar}
use Rattle.cm_base.specs.declared.cause.Cause.TheVariants as cause
use Rattle.cm_base.specs.declared.place.Place.{Place}
use Rattle.cm_base.specs.declared.host.Scalar.{Scalar}
use Rattle.cm_base.specs.declared.host.Scalar.TheVariants as kind
use Rattle.cm_base.specs.declared.failure.Fail.{Fail}
use Rattle.cm_base.specs.declared.failure.Fail.TheVariants as fail
use Rattle.cm_tree.specs.declared.path.Path.{Path}
use Rattle.cm_tree.specs.declared.expr.Expr.{Expr}
use Rattle.cm_tree.specs.declared.expr.Base.{Base}
use Rattle.cm_tree.specs.declared.expr.Base.TheVariants as b
use Rattle.cm_tree.specs.Levels.{place}
use Rattle.cm_types.specs.declared.cm_type.CmType.{CmType as CodeType}
use Rattle.cm_types.specs.declared.cm_type.CmType.TheVariants as t
use Rattle.cm_types.specs.declared.valued.Valued.{Valued as CodeValued}
use Rattle.cm_types.specs.Lawful.{IsLawfulType, IsSound}
use Rattle.cm_types.specs.Meant.{meant_type, meant_valued, meant-Single, meant-Array}
use Rattle.cm_meaning.specs.Scopes.{Around}
use Rattle.cm_meaning.specs.Faults.{Fault, fault, unless}
use Rattle.cm_meaning.specs.Types.{CmType, Single, Array, int32, int64, bool, number_of}
use Rattle.cm_meaning.specs.Conversions.{Valued, is_number, is_condition, known}
use Rattle.cm_meaning.specs.Constants.{count_number, count_in, arrays, eval, base_type}
use Rattle.cm_meaning.specs.TypeOf.{Knowledge, type_of, known_number}
use Rattle.cm_meaning.specs.TypeEquations.{base_type-Bool, base_type-Int, base_type-Int32, base_type-Int64, base_type-Wrap, base_type-Clamp}
use Rattle.cm_meaning.specs.Demands.{base_demands, IsNumber, IsCount as NeedsCount}
use Rattle.cm_meaning.specs.DemandEquations.{base_demands-Bool, base_demands-Int, base_demands-Int32, base_demands-Int64}
use Rattle.cm_meaning.specs.TypeRows.{rows_of, type_rows, if_typed, number_rows, is_count}
use Rattle.cm_meaning.specs.Exact.{In}
use Rattle.const_values.specs.declared.names.Argument.{Argument}
use Rattle.const_values.specs.Names.{Known}
use Rattle.const_values.specs.Answers.{Refuses, constant_faults, TellsConstant}
use Rattle.const_values.specs.Sizes.{number_faults, GivesNumber, count_faults, AreCounts, AreLawfulCounts, TellsCount, array_of, TellsBase}
use Rattle.const_values.proofs.Operands.{refuses, sound_number}
use Rattle.const_values.proofs.Constructs.{passed, passed_on}
use Rattle.const_values.proofs.Parts.{faults-count, faults-Wrap, faults-Clamp, in_wrap, in_clamp}

none_some : {A : Type 0} (x : A) → None ≡ Some x → ⊥
none_some x h = cc

-- ---- a number as a count

number_condition : (u : CmType) → is_number u ≡ true → is_condition u ≡ true
number_condition u is = rw is refl

-- the number that a constant of a number type is
known_is : (v : Valued) → is_number v.ty ≡ true → known v ≡ number_of v.value
known_is v is = ap (λ (b : Bool). if b then number_of v.value else None) is

count_is : (v : Valued) → is_number v.ty ≡ true → count_in (Some v) ≡ option_and_then count_number (number_of v.value)
count_is v is = ap (λ (b : Bool). if b then option_and_then count_number (number_of v.value) else None) is

number_right : (z : Option ℤ) (p : Place) (n : ℕ) → option_and_then count_number z ≡ Some n → number_rows is_count cause.SizeRange z p ≡ []
number_right None p n e = refl
number_right (Some z) p n e = ap (λ (o : Option ℕ). unless (is_some o) cause.SizeRange p) e

pub told_count_of : (p : Place) (v : Valued) (n : ℕ) → is_number v.ty ≡ true → Some n ≡ option_and_then count_number (number_of v.value)
    → GivesNumber (number_faults p v) (count_in (Some v)) (Ok n)
told_count_of p v n is e = (
  ap (λ (b : Bool). unless b cause.TypeMismatch p ++ number_rows is_count cause.SizeRange (known v) p) is
      ∙ ap (λ (z : Option ℤ). number_rows is_count cause.SizeRange z p) (known_is v is)
      ∙ number_right (number_of v.value) p n (sym e),
  count_is v is ∙ sym e,
)

pub told_no_number_type : (p : Place) (v : Valued) (x : Fail) → is_number v.ty ≡ false → x ≡ fail.Refused (record { cause = cause.TypeMismatch; place = p; cycle = [] }) → Refuses (number_faults p v) x
told_no_number_type p v x is e =
    refuses (number_faults p v) x cause.TypeMismatch p e
    (subst (In (fault cause.TypeMismatch p)) (sym (ap (λ (b : Bool). unless b cause.TypeMismatch p ++ number_rows is_count cause.SizeRange (known v) p) is)) (inl refl))

pub told_no_count : (p : Place) (v : Valued) (x : Fail) → IsSound v → is_number v.ty ≡ true → None ≡ option_and_then count_number (number_of v.value)
    → x ≡ fail.Refused (record { cause = cause.SizeRange; place = p; cycle = [] }) → Refuses (number_faults p v) x
told_no_count p v x sound is none e =
    let m = sound_number v sound (number_condition v.ty is) in
    refuses (number_faults p v) x cause.SizeRange p e
    (subst (In (fault cause.SizeRange p))
    (sym (ap (λ (b : Bool). unless b cause.TypeMismatch p ++ number_rows is_count cause.SizeRange (known v) p) is
    ∙ ap (λ (z : Option ℤ). number_rows is_count cause.SizeRange z p) (known_is v is ∙ m.1)
    ∙ ap (λ (o : Option ℕ). unless (is_some o) cause.SizeRange p) (sym (none ∙ ap (option_and_then count_number) m.1)))) (inl refl))

-- ---- an expression as a count

module _ (finds : Path → Known) (args : List Argument) where
  pub count_refused : (a : Expr) (x : Fail) → TellsConstant finds args a (Err x) → TellsCount finds args a (Err x)
  count_refused a x h = record {
    told = λ r k s. passed (count_faults r k a) (constant_faults r k a) (rows_of r k (IsNumber a) ++ rows_of r k (NeedsCount a)) x (faults-count r k a) (h.told r k s);
  }

  rows_are : (r : Around) (k : Knowledge) (a : Expr) (v : Valued) → eval r k.look a ≡ Some v → type_of r k a ≡ Some v.ty → (rows_of r k (IsNumber a) ++ rows_of r k (NeedsCount a)) ≡ number_faults (place a) v
  rows_are r k a v value ty =
      ap (λ (u : Option CmType). if_typed u is_number cause.TypeMismatch (place a) ++ number_rows is_count cause.SizeRange (known_number r k a) (place a)) ty
      ∙ ap (λ (o : Option Valued). unless (is_number v.ty) cause.TypeMismatch (place a) ++ number_rows is_count cause.SizeRange (option_and_then known o) (place a)) value

  behind_constant : (all xs ys : List Fault) (m n : Option ℕ) (x : Result ℕ Fail) → all ≡ xs ++ ys → xs ≡ [] → n ≡ m → GivesNumber ys m x → GivesNumber all n x
  behind_constant all xs ys m n (Ok c) e none f h = (e ∙ ap (λ (l : List Fault). l ++ ys) none ∙ h.0, f ∙ h.1)
  behind_constant all xs ys m n (Err x) e none f h = passed_on all xs ys x e h

  told_at : (a : Expr) (v : CodeValued) (x : Result ℕ Fail) → TellsConstant finds args a (Ok v) → GivesNumber (number_faults (place a) (meant_valued v)) (count_in (Some (meant_valued v))) x → TellsCount finds args a x
  told_at a v x h g = record {
    told = λ r k s.
        let one = h.told r k s in
        behind_constant (count_faults r k a) (constant_faults r k a) (number_faults (place a) (meant_valued v)) (count_in (Some (meant_valued v))) (count_in (eval r k.look a)) x
        (faults-count r k a ∙ ap (λ (l : List Fault). constant_faults r k a ++ l) (rows_are r k a (meant_valued v) one.1.0 one.1.1))
        one.0 (ap count_in one.1.0) g;
  }

  -- the place is that of the expression's first token
  pub told_count : (a : Expr) (p : Place) (v : CodeValued) (x : Result ℕ Fail) → TellsConstant finds args a (Ok v) → p ≡ place a
      → GivesNumber (number_faults p (meant_valued v)) (count_in (Some (meant_valued v))) x → TellsCount finds args a x
  told_count a p v x h at g = told_at a v x h (subst (λ (q : Place). GivesNumber (number_faults q (meant_valued v)) (count_in (Some (meant_valued v))) x) at g)

  pub count_as : (a c : Expr) (x y : Result ℕ Fail) → c ≡ a → y ≡ x → TellsCount finds args a x → TellsCount finds args c y
  count_as a c x y same is h = subst (λ (e : Expr). TellsCount finds args e y) (sym same) (subst (λ (z : Result ℕ Fail). TellsCount finds args a z) (sym is) h)

  -- ---- base types

  plain_type : (w : Base) (u : CmType) (y : CodeType) → ((r : Around) → base_demands r w ≡ []) → ((r : Around) (k : Knowledge) → base_type r k.look w ≡ Some u) → meant_type y ≡ u → TellsBase finds args w (Ok y)
  plain_type w u y none is m = record { told = λ r k s. (ap (flat_map (type_rows k)) (none r), is r k ∙ ap (λ (c : CmType). Some c) (sym m)) }

  pub told_bool : (p : Place) → TellsBase finds args (b.Bool p) (Ok (t.Single kind.Bool))
  told_bool p = plain_type (b.Bool p) bool (t.Single kind.Bool) (λ r. base_demands-Bool r p) (λ r k. base_type-Bool r k.look p) (meant-Single kind.Bool)

  pub told_int : (p : Place) → TellsBase finds args (b.Int p) (Ok (t.Single kind.Int32))
  told_int p = plain_type (b.Int p) int32 (t.Single kind.Int32) (λ r. base_demands-Int r p) (λ r k. base_type-Int r k.look p) (meant-Single kind.Int32)

  pub told_int32 : (p : Place) → TellsBase finds args (b.Int32 p) (Ok (t.Single kind.Int32))
  told_int32 p = plain_type (b.Int32 p) int32 (t.Single kind.Int32) (λ r. base_demands-Int32 r p) (λ r k. base_type-Int32 r k.look p) (meant-Single kind.Int32)

  pub told_int64 : (p : Place) → TellsBase finds args (b.Int64 p) (Ok (t.Single kind.Int64))
  told_int64 p = plain_type (b.Int64 p) int64 (t.Single kind.Int64) (λ r. base_demands-Int64 r p) (λ r k. base_type-Int64 r k.look p) (meant-Single kind.Int64)

  pub told_wrap : (p : Place) (a : Expr) (n : ℕ) → TellsCount finds args a (Ok n) → TellsBase finds args (b.Wrap p a) (Ok (t.Single (kind.Wrap n)))
  told_wrap p a n h = record {
    told = λ r k s.
        let g = h.told r k (in_wrap finds args r k p a s) in (
          faults-Wrap r k p a ∙ g.0,
          base_type-Wrap r k.look p a ∙ ap (option_map (λ (m : ℕ). Single (kind.Wrap m))) g.1 ∙ ap (λ (c : CmType). Some c) (sym (meant-Single (kind.Wrap n))),
        );
  }

  pub told_clamp : (p : Place) (a : Expr) (n : ℕ) → TellsCount finds args a (Ok n) → TellsBase finds args (b.Clamp p a) (Ok (t.Single (kind.Clamp n)))
  told_clamp p a n h = record {
    told = λ r k s.
        let g = h.told r k (in_clamp finds args r k p a s) in (
          faults-Clamp r k p a ∙ g.0,
          base_type-Clamp r k.look p a ∙ ap (option_map (λ (m : ℕ). Single (kind.Clamp m))) g.1 ∙ ap (λ (c : CmType). Some c) (sym (meant-Single (kind.Clamp n))),
        );
  }

  pub wrap_refused : (p : Place) (a : Expr) (x : Fail) → TellsCount finds args a (Err x) → TellsBase finds args (b.Wrap p a) (Err x)
  wrap_refused p a x h = record { told = λ r k s. subst (λ (l : List Fault). Refuses l x) (sym (faults-Wrap r k p a)) (h.told r k (in_wrap finds args r k p a s)) }

  pub clamp_refused : (p : Place) (a : Expr) (x : Fail) → TellsCount finds args a (Err x) → TellsBase finds args (b.Clamp p a) (Err x)
  clamp_refused p a x h = record { told = λ r k s. subst (λ (l : List Fault). Refuses l x) (sym (faults-Clamp r k p a)) (h.told r k (in_clamp finds args r k p a s)) }

  pub base_as : (w u : Base) (x y : Result CodeType Fail) → u ≡ w → y ≡ x → TellsBase finds args w x → TellsBase finds args u y
  base_as w u x y same is h = subst (λ (v : Base). TellsBase finds args v y) (sym same) (subst (λ (z : Result CodeType Fail). TellsBase finds args w z) (sym is) h)

-- ---- array types

pub sizes_right : (r : Around) (k : Knowledge) (all : List Expr) (counts : List ℕ) → AreCounts r k all counts → flat_map (count_faults r k) all ≡ []
sizes_right r k [] [] h = refl
sizes_right r k [] (n ∷ counts) h = absurd h
sizes_right r k (a ∷ all) [] h = absurd h
sizes_right r k (a ∷ all) (n ∷ counts) h = ap (λ (l : List Fault). l ++ flat_map (count_faults r k) all) h.0.0 ∙ sizes_right r k all counts h.1

pub arrays_are : (r : Around) (k : Knowledge) (o : Option CmType) (u : CmType) (all : List Expr) (counts : List ℕ) → o ≡ Some u → AreCounts r k all counts
    → arrays o (map (eval r k.look) all) ≡ Some (array_of u counts)
unfolding arrays
arrays_are r k o u [] [] e h = e
arrays_are r k o u [] (n ∷ counts) e h = absurd h
arrays_are r k o u (a ∷ all) [] e h = absurd h
arrays_are r k o u (a ∷ all) (n ∷ counts) e h =
    ap (λ (c : Option ℕ). option_and_then (λ (m : ℕ). option_map (Array m) (arrays o (map (eval r k.look) all))) c) h.0.1
    ∙ ap (option_map (Array n)) (arrays_are r k o u all counts e h.1)

array_of-last : (u : CmType) (counts : List ℕ) (n : ℕ) → array_of u (counts ++ n ∷ []) ≡ array_of (Array n u) counts
array_of-last u [] n = refl
array_of-last u (m ∷ counts) n = ap (Array m) (array_of-last u counts n)

counts_front : (counts : List ℕ) (n : ℕ) → AreLawfulCounts (counts ++ n ∷ []) → AreLawfulCounts counts
counts_front [] n h = tt
counts_front (m ∷ counts) n h = (h.0, counts_front counts n h.1)

counts_last : (counts : List ℕ) (n : ℕ) → AreLawfulCounts (counts ++ n ∷ []) → IsCount n
counts_last [] n h = h.0
counts_last (m ∷ counts) n h = counts_last counts n h.1

array_meant : (l y : CodeType) (n : ℕ) → y ≡ l → meant_type (t.Array n y) ≡ Array n (meant_type l)
array_meant l y n is = meant-Array n y ∙ ap (λ (u : CodeType). Array n (meant_type u)) is

-- one array more round it
pub arrays_next : (l y : CodeType) (left now : List ℕ) (n : ℕ) (all : CmType) → y ≡ l → left ≡ now ++ n ∷ [] → array_of (meant_type l) left ≡ all → array_of (meant_type (t.Array n y)) now ≡ all
arrays_next l y left now n all is e h =
    ap (λ (u : CmType). array_of u now) (array_meant l y n is) ∙ sym (array_of-last (meant_type l) now n) ∙ ap (array_of (meant_type l)) (sym e) ∙ h

pub lawful_next : (l y : CodeType) (left now : List ℕ) (n : ℕ) → y ≡ l → left ≡ now ++ n ∷ [] → IsLawfulType (meant_type l) → AreLawfulCounts left → IsLawfulType (meant_type (t.Array n y))
lawful_next l y left now n is e h counts = subst IsLawfulType (sym (array_meant l y n is)) (counts_last now n (subst AreLawfulCounts e counts), h)

pub counts_next : (left now : List ℕ) (n : ℕ) → left ≡ now ++ n ∷ [] → AreLawfulCounts left → AreLawfulCounts now
counts_next left now n e counts = counts_front now n (subst AreLawfulCounts e counts)

pub single_lawful : (k : Scalar) → IsLawfulScalar k → IsLawfulType (meant_type (t.Single k))
single_lawful k h = subst IsLawfulType (sym (meant-Single k)) h
