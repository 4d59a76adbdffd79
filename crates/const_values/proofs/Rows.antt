-- What can be wrong with a value that is made of others, from what is known of them.
use Rattle.std.specs.Prelude.{◌≡◌, refl, ℕ, suc, Bool, true, false, ◌&&◌, ◌||◌, if◌then◌else◌, List, [], ◌∷◌, ◌++◌, length, map, Option, Some, is_none, option_map, option_and_then}
use Rattle.std.proofs.Common.{ap, sym, ◌∙◌}
use Rattle.cm_base.specs.declared.cause.Cause.TheVariants as cause
use Rattle.cm_base.specs.declared.place.Place.{Place}
use Rattle.cm_tree.specs.declared.expr.Expr.{Expr}
use Rattle.cm_tree.specs.Levels.{place}
use Rattle.cm_meaning.specs.Scopes.{Around}
use Rattle.cm_meaning.specs.Faults.{Fault, one, unless}
use Rattle.cm_meaning.specs.Types.{CmType, Single, Array, Record, FieldTypes, NoFields, Field}
use Rattle.cm_meaning.specs.Conversions.{Valued, is_number, converts, known, with_type}
use Rattle.cm_meaning.specs.Constants.{eval, all_there, constructed, made}
use Rattle.cm_meaning.specs.TypeOf.{Knowledge, is_constant, known_number, type_of}
use Rattle.cm_meaning.specs.TypeRows.{if_typed, is_untold, fit_rows, element_rows, field_rows, cast_rows, part_rows, made_rows, is_scalar, takes_count}
use Rattle.const_values.specs.Arguments.{IsGiven, AreGiven}
use Rattle.const_values.specs.Construct.{Given, values_of, fit_faults, element_faults, field_faults, cast_fault, cast_faults, part_faults, made_faults}

untold : (c b d : Bool) → (c || ((b && false) && d)) ≡ c
untold true b d = refl
untold false true d = refl
untold false false d = refl

module _ (r : Around) (k : Knowledge) where
  fit_is : (t : CmType) (a : Expr) (g : Given) → IsGiven r k a g → fit_rows r k a (Some t) ≡ fit_faults t g
  fit_is t a g h =
      ap (λ (u : Option CmType). if_typed u (λ (from : CmType). converts from t (known_number r k a) || (is_untold r k a && (is_number from && is_number t))) cause.TypeMismatch (place a)) h.ty
      ∙ ap (λ (v : Option Valued). unless (converts g.valued.ty t (option_and_then known v) || ((is_constant r a && is_none v) && (is_number g.valued.ty && is_number t))) cause.TypeMismatch (place a)) h.value
      ∙ ap (λ (b : Bool). unless b cause.TypeMismatch (place a)) (untold (converts g.valued.ty t (known g.valued)) (is_constant r a) (is_number g.valued.ty && is_number t))
      ∙ ap (λ (p : Place). unless (converts g.valued.ty t (known g.valued)) cause.TypeMismatch p) (sym h.at)

  elements_are : (t : CmType) (all : List Expr) (gs : List Given) → AreGiven r k all gs → element_rows r k t all ≡ element_faults t gs
  unfolding element_rows
  elements_are t [] [] h = refl
  elements_are t [] (g ∷ gs) h = absurd h
  elements_are t (a ∷ all) [] h = absurd h
  elements_are t (a ∷ all) (g ∷ gs) h =
      ap (λ (l : List Fault). l ++ element_rows r k t all) (fit_is t a g h.0) ∙ ap (λ (l : List Fault). fit_faults t g ++ l) (elements_are t all gs h.1)

  fields_are : (fs : FieldTypes) (all : List Expr) (gs : List Given) → AreGiven r k all gs → field_rows r k fs all ≡ field_faults fs gs
  unfolding field_rows field_faults
  fields_are NoFields all gs h = refl
  fields_are (Field n t fs) [] [] h = refl
  fields_are (Field n t fs) [] (g ∷ gs) h = absurd h
  fields_are (Field n t fs) (a ∷ all) [] h = absurd h
  fields_are (Field n t fs) (a ∷ all) (g ∷ gs) h =
      ap (λ (l : List Fault). l ++ field_rows r k fs all) (fit_is t a g h.0) ∙ ap (λ (l : List Fault). fit_faults t g ++ l) (fields_are fs all gs h.1)

  cast_is : (a : Expr) (g : Given) → IsGiven r k a g → if_typed (type_of r k a) is_scalar cause.TypeMismatch (place a) ≡ cast_fault g
  cast_is a g h =
      ap (λ (u : Option CmType). if_typed u is_scalar cause.TypeMismatch (place a)) h.ty
      ∙ ap (λ (p : Place). unless (is_scalar g.valued.ty) cause.TypeMismatch p) (sym h.at)

  casts_are : (all : List Expr) (gs : List Given) → AreGiven r k all gs → cast_rows r k all ≡ cast_faults gs
  casts_are [] [] h = refl
  casts_are [] (g ∷ gs) h = absurd h
  casts_are (a ∷ all) [] h = absurd h
  casts_are (a ∷ []) (g ∷ []) h = cast_is a g h.0
  casts_are (a ∷ []) (g ∷ f ∷ gs) h = absurd h.1
  casts_are (a ∷ b ∷ all) (g ∷ []) h = absurd h.1
  casts_are (a ∷ b ∷ all) (g ∷ f ∷ gs) h = refl

  parts_are : (t : CmType) (all : List Expr) (gs : List Given) → AreGiven r k all gs → part_rows r k t all ≡ part_faults t gs
  parts_are (Single kind) all gs h = casts_are all gs h
  parts_are (Array n t) all gs h = elements_are t all gs h
  parts_are (Record p fs) all gs h = fields_are fs all gs h

  same_count : (all : List Expr) (gs : List Given) → AreGiven r k all gs → length all ≡ length gs
  same_count [] [] h = refl
  same_count [] (g ∷ gs) h = absurd h
  same_count (a ∷ all) [] h = absurd h
  same_count (a ∷ all) (g ∷ gs) h = ap (λ (n : ℕ). suc n) (same_count all gs h.1)

  pub made_is : (p : Place) (t : CmType) (all : List Expr) (gs : List Given) → AreGiven r k all gs → made_rows r k p (Some t) all ≡ made_faults p t gs
  made_is p t all gs h =
      ap (λ (n : ℕ). if takes_count t n then part_rows r k t all else one cause.ConstructCount p) (same_count all gs h)
      ∙ ap (λ (l : List Fault). if takes_count t (length gs) then l else one cause.ConstructCount p) (parts_are t all gs h)

  all_are : (all : List Expr) (gs : List Given) → AreGiven r k all gs → all_there (map (eval r k.look) all) ≡ Some (values_of gs)
  unfolding all_there
  all_are [] [] h = refl
  all_are [] (g ∷ gs) h = absurd h
  all_are (a ∷ all) [] h = absurd h
  all_are (a ∷ all) (g ∷ gs) h =
      ap (λ (v : Option Valued). option_and_then (λ (x : Valued). option_map (λ (xs : List Valued). x ∷ xs) (all_there (map (eval r k.look) all))) v) h.0.value
      ∙ ap (λ (vs : Option (List Valued)). option_map (λ (xs : List Valued). g.valued ∷ xs) vs) (all_are all gs h.1)

  pub value_is : (t : CmType) (all : List Expr) (gs : List Given) → AreGiven r k all gs → made (Some t) (map (eval r k.look) all) ≡ with_type t (constructed t (values_of gs))
  value_is t all gs h = ap (λ (vs : Option (List Valued)). option_and_then (λ (xs : List Valued). with_type t (constructed t xs)) vs) (all_are all gs h)
