-- What was written is read.
use Rattle.std.proofs.Common.{◌≡◌, ◌<◌, ◌≤◌, ◌+◌, ◌^◌, ℕ, zero, suc, List, [], ◌∷◌, length, take, drop, refl, sym, ap, ◌∙◌, arith, ℤ, pos, negsuc}
use Rattle.std.specs.Prelude.{◌++◌, FitsSigned}
use Rattle.std.specs.Int.{w32, w64, cast_signed, cast_unsigned, to_le_bytes, from_le_bytes}
use Rattle.std.specs.List.{AllByRecursion}
use Rattle.std.proofs.lemmas.Int.{ints, to_z-of_z}
use Rattle.std.proofs.lemmas.Nat.{from_le_bytes-to_le_bytes_4, from_le_bytes-to_le_bytes_8}
use Rattle.std.proofs.lemmas.List.{append_assoc, length-take-le}
use Rattle.std.proofs.Math.Seq.{take-append_seam, drop-append_seam}
use Rattle.cm_base.specs.declared.host.Scalar.{Scalar}
use Rattle.cm_base.specs.declared.host.Scalar.TheVariants.{Int32, Int64, Bool as Truth, Wrap, Clamp}
use Rattle.cm_base.specs.HostEnds.{IsLawfulScalar}
use Rattle.cm_base.specs.Scripts.{IsOfKind, IsBelow, HasShape}
use Rattle.cm_number.specs.Conversion.{to_bool, SameModulo}
use Rattle.cm_number.proofs.Public.{to_signed_fits, to_wrap_only, to_clamp_only, cast_unsigned-lt}
use Rattle.cm_scalar.specs.Scalars.{converted, truth}
use Rattle.wasm_tree.specs.Section.{Slot, scalar_size, shape_size}
use Rattle.wasm_tree.specs.Slots.{scalar_bytes, scalars_bytes, word_of, scalar_of, scalars_of, entry_address, read_slot, write_slot}
use Rattle.slot_codec.proofs.Sizes as Z

-- a scalar of a kind is converted to itself
truth_same : (z : ℤ) → IsBelow 2 z → truth z ≡ z
unfolding to_bool
truth_same (pos zero) b = refl
truth_same (pos (suc zero)) b = refl
truth_same (pos (suc (suc n))) b = absurd (omega (arith, ints, b.1))
truth_same (negsuc n) b = absurd (omega (arith, ints, b.0))

nothing_between : (n : ℕ) (z : ℤ) → SameModulo n z z
nothing_between n z = record { multiple = pos 0; is = omega (arith, ints) }

pub same : (kind : Scalar) (z : ℤ) → IsLawfulScalar kind → IsOfKind kind z → converted kind z ≡ z
same Int32 z lawful h = to_signed_fits w32 z h
same Int64 z lawful h = to_signed_fits w64 z h
same Truth z lawful h = truth_same z h
same (Wrap n) z lawful h = sym ((to_wrap_only n z z (omega (arith, lawful.0))).1 (record { not_below = h.0; below = h.1; same = nothing_between n z }))
same (Clamp n) z lawful h = sym ((to_clamp_only n z z).1 (record { above = h.0; below = omega (arith, ints, h.1, lawful.0); closest = λ x a b. omega (arith, ints) }))

-- a scalar that takes four bytes fits them
fits32 : (n : ℕ) (z : ℤ) → n < 2 ^ 31 → IsBelow n z → FitsSigned w32 z
fits32 n z l h = omega (arith, ints, l, h.0, h.1)

back32 : (z : ℤ) → FitsSigned w32 z → cast_signed w32 (from_le_bytes w32 (to_le_bytes w32 (cast_unsigned w32 z))) ≡ z
back32 z f = ap (cast_signed w32) (from_le_bytes-to_le_bytes_4 (cast_unsigned w32 z) (cast_unsigned-lt w32 z f)) ∙ to_z-of_z w32 z f

back64 : (z : ℤ) → FitsSigned w64 z → cast_signed w64 (from_le_bytes w64 (to_le_bytes w64 (cast_unsigned w64 z))) ≡ z
back64 z f = ap (cast_signed w64) (from_le_bytes-to_le_bytes_8 (cast_unsigned w64 z) (cast_unsigned-lt w64 z f)) ∙ to_z-of_z w64 z f

word_back : (kind : Scalar) (z : ℤ) → IsLawfulScalar kind → IsOfKind kind z → word_of kind (scalar_bytes kind z) ≡ z
word_back Int32 z lawful h = back32 z h
word_back Int64 z lawful h = back64 z h
word_back Truth z lawful h = back32 z (fits32 2 z (omega arith) h)
word_back (Wrap n) z lawful h = back32 z (fits32 n z lawful.1 h)
word_back (Clamp n) z lawful h = back32 z (fits32 n z lawful.1 h)

scalar_back : (kind : Scalar) (z : ℤ) → IsLawfulScalar kind → IsOfKind kind z → scalar_of kind (scalar_bytes kind z) ≡ z
scalar_back kind z lawful h = ap (converted kind) (word_back kind z lawful h) ∙ same kind z lawful h

all_back : (shape : List Scalar) (values : List ℤ) (rest : List ℕ) → AllByRecursion IsLawfulScalar shape → HasShape shape values → scalars_of shape (scalars_bytes shape values ++ rest) ≡ values
all_back [] [] rest a h = refl
all_back [] (z ∷ zs) rest a h = absurd h
all_back (kind ∷ kinds) [] rest a h = absurd h
all_back (kind ∷ kinds) (z ∷ zs) rest a h =
    let first : List ℕ = scalar_bytes kind z in
    let others : List ℕ = scalars_bytes kinds zs ++ rest in
    let whole : (first ++ scalars_bytes kinds zs) ++ rest ≡ first ++ others = append_assoc first (scalars_bytes kinds zs) rest in
    let size : scalar_size kind ≡ length first = sym (Z.as_long kind z) in
    let head : take (scalar_size kind) ((first ++ scalars_bytes kinds zs) ++ rest) ≡ first = ap (take (scalar_size kind)) whole ∙ ap (λ n. take n (first ++ others)) size ∙ take-append_seam first others in
    let tail : drop (scalar_size kind) ((first ++ scalars_bytes kinds zs) ++ rest) ≡ others = ap (drop (scalar_size kind)) whole ∙ ap (λ n. drop n (first ++ others)) size ∙ drop-append_seam first others in
    ap (λ b. scalar_of kind b ∷ scalars_of kinds (drop (scalar_size kind) ((first ++ scalars_bytes kinds zs) ++ rest))) head
    ∙ ap (λ y. y ∷ scalars_of kinds (drop (scalar_size kind) ((first ++ scalars_bytes kinds zs) ++ rest))) (scalar_back kind z a.0 h.0)
    ∙ ap (λ b. z ∷ scalars_of kinds b) tail ∙ ap (λ ys. z ∷ ys) (all_back kinds zs rest a.1 h.1)

pub written_is_read : (slot : Slot) (entry : ℕ) (values : List ℤ) (memory : List ℕ) → AllByRecursion IsLawfulScalar slot.end.shape → HasShape slot.end.shape values →
    entry_address slot entry + shape_size slot.end.shape ≤ length memory → read_slot slot entry (write_slot slot entry values memory) ≡ values
written_is_read slot entry values memory a h l =
    let at : ℕ = entry_address slot entry in
    let bytes : List ℕ = scalars_bytes slot.end.shape values in
    let rest : List ℕ = drop (at + length bytes) memory in
    let before : length (take at memory) ≡ at = length-take-le at memory (omega (arith, l)) in
    let here : drop at (take at memory ++ (bytes ++ rest)) ≡ bytes ++ rest = ap (λ n. drop n (take at memory ++ (bytes ++ rest))) (sym before) ∙ drop-append_seam (take at memory) (bytes ++ rest) in
    ap (scalars_of slot.end.shape) here ∙ all_back slot.end.shape values rest a h
