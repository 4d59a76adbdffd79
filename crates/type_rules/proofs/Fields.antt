-- Where the fields of one of two structs end.
use Rattle.std.specs.Prelude.{◌≡◌, refl, ◌==◌, false, List, [], ◌∷◌, length}
use Rattle.std.proofs.Common.{arith}
use Rattle.cm_types.specs.declared.cm_type.FieldType.{FieldType}
use Rattle.cm_types.specs.Meant.{meant_fields}
use Rattle.cm_meaning.specs.Types.{are_same}

pub same_at_end : (fields others : List FieldType) → length fields ≡ 0 → are_same (meant_fields fields) (meant_fields others) ≡ (length others == 0)
unfolding are_same meant_fields
same_at_end [] [] none = refl
same_at_end [] (f ∷ others) none = let e : (length (f ∷ others) == 0) ≡ false = grind arith in rw e refl
same_at_end (f ∷ fields) others none = absurd (omega (arith, none))
