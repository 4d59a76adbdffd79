-- The scalars that are read are of their kinds, and in the ranges of parameters.
use Rattle.std.proofs.Common.{◌≡◌, ◌==◌, List, [], ◌∷◌, length, Bool, true, false, if◌then◌else◌, Option, Some, None, Ok, Err, refl, sym, subst, ℤ, pos, FitsSigned, arith, rules}
use Rattle.std.specs.Prelude.{◌≤ℤ◌}
use Rattle.std.specs.Int.{w32, w64}
use Rattle.std.specs.List.{AllByRecursion}
use Rattle.std.proofs.lemmas.Int.{ints}
use Rattle.std.proofs.lemmas.Bool.Decides.{nat_tests}
use Rattle.serde_json.specs.Data.{Data, Items, no_items, item}
use Rattle.serde_json.specs.Events.{items_len}
use Rattle.serde_json.specs.Find.{as_array}
use Rattle.cm_base.specs.declared.forms.FormRule.TheVariants as rule
use Rattle.cm_base.specs.declared.host.Scalar.{Scalar}
use Rattle.cm_base.specs.declared.host.Scalar.TheVariants.{Int32, Int64, Bool as Truth, Wrap, Clamp}
use Rattle.cm_base.specs.declared.host.Range.{Range}
use Rattle.cm_base.specs.declared.host.HostEnd.{HostEnd}
use Rattle.cm_base.specs.HostEnds.{IsLawfulScalar, IsLawfulRange, IsLawfulEnd}
use Rattle.cm_base.specs.Scripts.{IsOfKind, IsBelow, HasShape, IsInRange}
use Rattle.cm_number.specs.Conversion.{to_wrap, to_clamp, to_bool}
use Rattle.cm_number.proofs.Public.{to_signed-Fits, to_wrap_only, to_clamp_only, nearest_only}
use Rattle.cm_scalar.specs.Scalars.{converted}
use Rattle.json_value.specs.Form.{or_fault}
use Rattle.input_script.specs.declared.at.At.{At}
use Rattle.input_script.specs.Script.{held, number_of, scalar_of, scalars_of, array_of, shaped, value_for, fails}
use Rattle.input_script.proofs.Found.{went, passed, both, ok_is}

truth_below : (b : Bool) → IsBelow 2 (if b then pos 1 else pos 0)
truth_below true = (omega (arith, ints), omega (arith, ints))
truth_below false = (omega (arith, ints), omega (arith, ints))

-- a number that is converted to a kind is of that kind
pub converted_of_kind : (kind : Scalar) (z : ℤ) → IsLawfulScalar kind → IsOfKind kind (converted kind z)
converted_of_kind Int32 z lawful = to_signed-Fits w32 z
converted_of_kind Int64 z lawful = to_signed-Fits w64 z
converted_of_kind Truth z lawful = truth_below (to_bool z)
converted_of_kind (Wrap n) z lawful =
    let is = (to_wrap_only n z (to_wrap n z) (omega (arith, lawful.0))).0 refl in
    (is.not_below, is.below)
converted_of_kind (Clamp n) z lawful =
    let is = (to_clamp_only n z (to_clamp n z)).0 refl in
    (is.above, omega (arith, ints, is.below, lawful.0))

pub record IsHeld (range : Option Range) (kind : Scalar) (r : ℤ) : Type 0 where
  pub z : ℤ
  pub is : r ≡ held range (converted kind z)

pub scalar_is : (at : At) (range : Option Range) (kind : Scalar) (value : Data) (r : ℤ) → scalar_of at range kind value ≡ Ok r → IsHeld range kind r
scalar_is at range kind value r h =
    let step = went (or_fault (fails at rule.Scalar) (number_of kind value)) (λ z. Ok (held range (converted kind z))) r h in
    record { z = step.x; is = sym (ok_is (held range (converted kind step.x)) r step.gives) }

-- one scalar of an input that is no parameter
one_of_kind : (at : At) (kind : Scalar) (value : Data) (r : ℤ) → IsLawfulScalar kind → scalar_of at None kind value ≡ Ok r → IsOfKind kind r
one_of_kind at kind value r lawful h =
    let held_as = scalar_is at None kind value r h in
    subst (IsOfKind kind) (sym held_as.is) (converted_of_kind kind held_as.z lawful)

abbrev none_read : List ℤ
none_read = []

all_of_kind : (at : At) (shape : List Scalar) (items : Items) (zs : List ℤ) → AllByRecursion IsLawfulScalar shape → items_len items ≡ length shape → scalars_of at None shape items ≡ Ok zs → HasShape shape zs
all_of_kind at [] items zs lawful many h = subst (HasShape []) (ok_is none_read zs h) tt
all_of_kind at (kind ∷ kinds) no_items zs lawful many h = absurd (cc)
all_of_kind at (kind ∷ kinds) (item value items) zs lawful many h =
    let parts = both (scalar_of at None kind value) (scalars_of at None kinds items) zs h in
    subst (HasShape (kind ∷ kinds)) (sym parts.whole)
    (one_of_kind at kind value parts.head lawful.0 parts.one, all_of_kind at kinds items parts.tail lawful.1 (omega (arith, many)) parts.rest)

array_of_kinds : (at : At) (shape : List Scalar) (value : Data) (zs : List ℤ) → AllByRecursion IsLawfulScalar shape → array_of at None shape value ≡ Ok zs → HasShape shape zs
array_of_kinds at shape value zs lawful h =
    let step = went (or_fault (fails at rule.Shape) (as_array value)) (λ items. if items_len items == length shape then scalars_of at None shape items else Err (fails at rule.Count)) zs h in
    let few = passed (items_len step.x == length shape) (scalars_of at None shape step.x) (fails at rule.Count) zs step.gives in
    all_of_kind at shape step.x zs lawful (grind (arith, nat_tests, few.is)) few.gives

pub shaped_fits : (at : At) (shape : List Scalar) (value : Data) (zs : List ℤ) → AllByRecursion IsLawfulScalar shape → shaped at None shape value ≡ Ok zs → HasShape shape zs
shaped_fits at [] value zs lawful h = array_of_kinds at [] value zs lawful h
shaped_fits at (kind ∷ []) value zs lawful h =
    let step = went (scalar_of at None kind value) (λ z. Ok (z ∷ [])) zs h in
    subst (HasShape (kind ∷ [])) (ok_is (step.x ∷ []) zs step.gives) (one_of_kind at kind value step.x lawful.0 step.first, tt)
shaped_fits at (kind ∷ other ∷ kinds) value zs lawful h = array_of_kinds at (kind ∷ other ∷ kinds) value zs lawful h

between_fits : (low high z : ℤ) → FitsSigned w32 low → FitsSigned w32 high → low ≤ℤ z → z ≤ℤ high → FitsSigned w32 z
between_fits low high z one other above below = search rules

pub parameter_fits : (at : At) (range : Range) (value : Data) (zs : List ℤ) → FitsSigned w32 range.min → FitsSigned w32 range.max → range.min ≤ℤ range.max → shaped at (Some range) (Int32 ∷ []) value ≡ Ok zs
    → HasShape (Int32 ∷ []) zs × IsInRange (Some range) zs
parameter_fits at range value zs low high some h =
    let step = went (scalar_of at (Some range) Int32 value) (λ z. Ok (z ∷ [])) zs h in
    let held_as = scalar_is at (Some range) Int32 value step.x step.first in
    let is = (nearest_only range.min range.max (converted Int32 held_as.z) step.x some).0 held_as.is in
    let P : List ℤ → Type 0 = λ values. HasShape (Int32 ∷ []) values × IsInRange (Some range) values in
    subst P (ok_is (step.x ∷ []) zs step.gives) ((between_fits range.min range.max step.x low high is.above is.below, tt), ((is.above, is.below), tt))

int_le_trans : (a b c : ℤ) → a ≤ℤ b → b ≤ℤ c → a ≤ℤ c
int_le_trans a b c one other = omega (arith, ints, one, other)

fits_by : (at : At) (end : HostEnd) (parameter : Option Range) (value : Data) (zs : List ℤ) → AllByRecursion IsLawfulScalar end.shape → IsLawfulRange end parameter → shaped at parameter end.shape value ≡ Ok zs → HasShape end.shape zs × IsInRange parameter zs
fits_by at end None value zs scalars lawful h = (shaped_fits at end.shape value zs scalars h, tt)
fits_by at end (Some range) value zs scalars lawful h =
    let P : List Scalar → Type 0 = λ shape. shaped at (Some range) shape value ≡ Ok zs → HasShape shape zs × IsInRange (Some range) zs in
    subst P (sym lawful.shape) (parameter_fits at range value zs lawful.min_fits lawful.max_fits (int_le_trans range.min range.init range.max lawful.above lawful.below)) h

-- a value that is read for an input is one of its type, and in its range
pub value_fits : (at : At) (end : HostEnd) (value : Data) (zs : List ℤ) → IsLawfulEnd end → value_for at end value ≡ Ok zs → HasShape end.shape zs × IsInRange end.parameter zs
value_fits at end value zs lawful h = fits_by at end end.parameter value zs lawful.scalars lawful.parameter h
