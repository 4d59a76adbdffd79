-- What the tests of types and values tell.
use Rattle.std.specs.Prelude.{◌≡◌, refl, ℕ, ◌^◌, nat_le, nat_lt, Bool, true, false, ◌&&◌}
use Rattle.std.proofs.Common.{arith}
use Rattle.cm_base.specs.declared.host.Scalar.{Scalar}
use Rattle.cm_base.specs.declared.host.Scalar.TheVariants as kind
use Rattle.cm_base.specs.HostEnds.{IsCount, IsLawfulScalar}
use Rattle.cm_meaning.specs.Types.{CmType, Single, Array, Record, FieldTypes, NoFields, Field, is_of}
use Rattle.cm_meaning.specs.Conversions.{Valued}
use Rattle.cm_meaning.specs.TypeRows.{is_small}
use Rattle.cm_types.specs.Lawful.{IsLawfulType, AreLawfulTypes, IsSound}
use Rattle.constant_rows.specs.Lawful.{is_count, is_lawful_kind, is_lawful, are_lawful, is_sound_type, is_sound}

and_left : (p q : Bool) → (p && q) ≡ true → p ≡ true
and_left true q e = refl
and_left false q e = let no : false ≡ true = e in cc

and_right : (p q : Bool) → (p && q) ≡ true → q ≡ true
and_right true q e = e
and_right false q e = let no : false ≡ true = e in cc

counted : (n : ℕ) → is_count n ≡ true → IsCount n
counted n e =
    let low = and_left (nat_le 1 n) (nat_lt n (2 ^ 31)) e in
    let high = and_right (nat_le 1 n) (nat_lt n (2 ^ 31)) e in
    (grind arith, grind arith)

lawful_kind : (k : Scalar) → is_lawful_kind k ≡ true → IsLawfulScalar k
lawful_kind kind.Int32 e = tt
lawful_kind kind.Int64 e = tt
lawful_kind kind.Bool e = tt
lawful_kind (kind.Wrap n) e = counted n e
lawful_kind (kind.Clamp n) e = counted n e

mutual
  unfolding is_lawful are_lawful

  pub lawful : (t : CmType) → is_lawful t ≡ true → IsLawfulType t
  lawful (Single k) e = lawful_kind k e
  lawful (Array n t) e = (counted n (and_left (is_count n) (is_lawful t) e), lawful t (and_right (is_count n) (is_lawful t) e))
  lawful (Record p fields) e = lawful_fields fields e

  lawful_fields : (fields : FieldTypes) → are_lawful fields ≡ true → AreLawfulTypes fields
  lawful_fields NoFields e = tt
  lawful_fields (Field n t others) e = (lawful t (and_left (is_lawful t) (are_lawful others) e), lawful_fields others (and_right (is_lawful t) (are_lawful others) e))

pub small : (t : CmType) → is_sound_type t ≡ true → is_small t ≡ true
small t e = and_right (is_lawful t) (is_small t) e

pub sound : (v : Valued) → is_sound v ≡ true → IsSound v
sound v e = record {
  lawful = lawful v.ty (and_left (is_lawful v.ty) (is_of v.ty v.value) e);
  fits = and_right (is_lawful v.ty) (is_of v.ty v.value) e;
}
