-- What the operators compute is a value of their type: Core Specification 1.0, 4.3.2.
use Rattle.std.proofs.Common.{◌≡◌, ℕ, zero, suc, ◌+◌, ◌-◌, ◌*◌, ◌/◌, ◌%◌, ◌<◌, ◌≤◌, ◌^◌, List, [], ◌∷◌, ◌++◌, take, drop, Some, None, Bool, true, false, refl, subst, arith, ℤ, pos, negsuc, unsigned_abs}
use Rattle.std.specs.Prelude.{neg_ℤ, slice_index, int_div, int_rem, if◌then◌else◌, ◌==◌}
use Rattle.std.specs.List.{AllByRecursion}
use Rattle.std.specs.Int.{Width, w8, w16, w32, w64, w128, cast_signed, cast_unsigned, from_bool, from_le_bytes, to_le_bytes, int_shr}
use Rattle.std.proofs.Math.Nat.{mod-lt, div-le_self, mod-le}
use Rattle.std.proofs.lemmas.Nat.{pow_pos, or_lt, xor_lt, and_le_l}
use lib.Count.{leading_le, trailing_le, ones-le}
use lib.Signed.{mag, mag_rem, mag_shr}
use mir.Val.{bits, hbits}
use mir.ValLaws.{to_z-Fits}
use Rattle.wasm_tree.specs.declared.module.ValType.{ValType}
use Rattle.wasm_tree.specs.declared.module.ValType.TheVariants.{I32, I64}
use Rattle.wasm_tree.specs.declared.op.LoadOp.{LoadOp}
use Rattle.wasm_tree.specs.declared.op.LoadOp.TheVariants as load
use Rattle.wasm_tree.specs.declared.op.StoreOp.{StoreOp}
use Rattle.wasm_tree.specs.declared.op.StoreOp.TheVariants as store
use Rattle.wasm_tree.specs.declared.op.CompareOp.{CompareOp}
use Rattle.wasm_tree.specs.declared.op.UnaryOp.{UnaryOp}
use Rattle.wasm_tree.specs.declared.op.UnaryOp.TheVariants as unary
use Rattle.wasm_tree.specs.declared.op.BinaryOp.{BinaryOp}
use Rattle.wasm_tree.specs.declared.op.BinaryOp.TheVariants as binary
use Rattle.wasm_tree.specs.declared.op.ConvertOp.{ConvertOp}
use Rattle.wasm_tree.specs.declared.op.ConvertOp.TheVariants as convert
use Rattle.wasm_tree.specs.Meaning.{width, test_of, compares, compare_of, unary_of, overflows, binary_of, convert_of, load_type, loaded, store_width, stored}
use Rattle.wasm_tree.specs.Typed.{convert_from, convert_to}
use Rattle.wasm_sound.specs.Kinds.{IsOf}

-- ---- small numbers

bool_is : (type : ValType) (b : Bool) → IsOf type (from_bool b)
bool_is I32 true = omega arith
bool_is I32 false = omega arith
bool_is I64 true = omega arith
bool_is I64 false = omega arith

small_is : (type : ValType) (x : ℕ) → x ≤ 64 → IsOf type x
small_is I32 x h = omega arith
small_is I64 x h = omega arith

bits_few : (type : ValType) → bits (width type) ≤ 64
bits_few I32 = omega arith
bits_few I64 = omega arith

below_is : (type : ValType) (x y : ℕ) → x ≤ y → IsOf type y → IsOf type x
below_is type x y h f = omega arith

-- ---- signed numbers

-- the bits of a number that is small enough without its sign
small_bits : (w : Width) (z : ℤ) → unsigned_abs z < 2 ^ bits w → cast_unsigned w z < 2 ^ bits w
small_bits w (pos n) h = h
small_bits w (negsuc n) h = omega arith

magnitude : (z : ℤ) → unsigned_abs z ≤ suc (mag z)
magnitude (pos n) = omega arith
magnitude (negsuc n) = omega arith

half_is : (w : Width) → 2 ^ hbits w + 2 ^ hbits w ≡ 2 ^ bits w
half_is w8 = refl
half_is w16 = refl
half_is w32 = refl
half_is w64 = refl
half_is w128 = refl

small_signed : (w : Width) (z : ℤ) → mag z < 2 ^ hbits w → unsigned_abs z < 2 ^ bits w
small_signed w z h = let m = magnitude z in let e = half_is w in let p = pow_pos (hbits w) in omega arith

signed_fits : (w : Width) (x : ℕ) → x < 2 ^ bits w → mag (cast_signed w x) < 2 ^ hbits w
signed_fits w x h = (to_z-Fits w x (record { fits = h })).sfits

negated : (n : ℕ) → unsigned_abs (neg_ℤ (pos n)) ≡ n
negated zero = refl
negated (suc n) = refl

quotient_small : (a b : ℤ) → unsigned_abs (int_div a b) ≤ unsigned_abs a
quotient_small (pos a) (pos b) = div-le_self a b
quotient_small (pos a) (negsuc b) = let e = negated (a / suc b) in let d = div-le_self a (suc b) in omega arith
quotient_small (negsuc a) (pos b) = let e = negated (suc a / b) in let d = div-le_self (suc a) b in omega arith
quotient_small (negsuc a) (negsuc b) = div-le_self (suc a) (suc b)

-- ---- operators

pub test_is : (x : ℕ) → IsOf I32 (test_of x)
test_is x = bool_is I32 (x == 0)

pub compare_is : (w : Width) (op : CompareOp) (x y : ℕ) → IsOf I32 (compare_of w op x y)
compare_is w op x y = bool_is I32 (compares w op x y)

pub unary_is : (type : ValType) (op : UnaryOp) (x : ℕ) → IsOf type x → IsOf type (unary_of (width type) op x)
unary_is type unary.LeadingZeros x h = let l = leading_le (bits (width type)) x in let b = bits_few type in small_is type _ (omega arith)
unary_is type unary.TrailingZeros x h = let l = trailing_le (bits (width type)) x in let b = bits_few type in small_is type _ (omega arith)
unary_is type unary.PopulationCount x h = let l = ones-le (bits (width type)) x h in let b = bits_few type in small_is type _ (omega arith)

pub convert_is : (op : ConvertOp) (x : ℕ) → IsOf (convert_from op) x → IsOf (convert_to op) (convert_of op x)
convert_is convert.WrapI64 x h = mod-lt x (pow_pos 32)
convert_is convert.ExtendI32Signed x h =
    let s = signed_fits w32 x h in let m = magnitude (cast_signed w32 x) in small_bits w64 (cast_signed w32 x) (omega arith)
convert_is convert.ExtendI32Unsigned x h = omega arith

some_only : (P : ℕ → Type 0) (x z : ℕ) → P x → Some x ≡ Some z → P z
some_only P x z h e = let same : x ≡ z = cc in subst P same h

nonzero_only : (P : ℕ → Type 0) (b : Bool) (x z : ℕ) → P x → (if b then None else Some x) ≡ Some z → P z
nonzero_only P true x z h e = absurd cc
nonzero_only P false x z h e = some_only P x z h e

quotient_only : (P : ℕ → Type 0) (b c : Bool) (x z : ℕ) → P x → (if b then None else (if c then None else Some x)) ≡ Some z → P z
quotient_only P true c x z h e = absurd cc
quotient_only P false c x z h e = nonzero_only P c x z h e

pub binary_is : (type : ValType) (op : BinaryOp) (x y z : ℕ) → IsOf type x → IsOf type y → binary_of (width type) op x y ≡ Some z → IsOf type z
binary_is type binary.Add x y z h g e = some_only (IsOf type) _ z (mod-lt (x + y) (pow_pos (bits (width type)))) e
binary_is type binary.Sub x y z h g e = some_only (IsOf type) _ z (mod-lt (x + (2 ^ bits (width type) - y)) (pow_pos (bits (width type)))) e
binary_is type binary.Mul x y z h g e = some_only (IsOf type) _ z (mod-lt (x * y) (pow_pos (bits (width type)))) e
binary_is type binary.DivSigned x y z h g e =
    let w = width type in
    let s = small_signed w (cast_signed w x) (signed_fits w x h) in
    let q = quotient_small (cast_signed w x) (cast_signed w y) in
    quotient_only (IsOf type) (overflows w x y) (y == 0) (cast_unsigned w (int_div (cast_signed w x) (cast_signed w y))) z (small_bits w (int_div (cast_signed w x) (cast_signed w y)) (omega arith)) e
binary_is type binary.DivUnsigned x y z h g e = nonzero_only (IsOf type) (y == 0) (x / y) z (below_is type (x / y) x (div-le_self x y) h) e
binary_is type binary.RemSigned x y z h g e =
    let w = width type in
    let s = signed_fits w x h in
    let q = mag_rem (cast_signed w x) (cast_signed w y) in
    nonzero_only (IsOf type) (y == 0) (cast_unsigned w (int_rem (cast_signed w x) (cast_signed w y))) z
    (small_bits w (int_rem (cast_signed w x) (cast_signed w y)) (small_signed w (int_rem (cast_signed w x) (cast_signed w y)) (omega arith))) e
binary_is type binary.RemUnsigned x y z h g e = nonzero_only (IsOf type) (y == 0) (x % y) z (below_is type (x % y) x (mod-le x y) h) e
binary_is type binary.And x y z h g e = some_only (IsOf type) _ z (below_is type _ x (and_le_l x y) h) e
binary_is type binary.Or x y z h g e = some_only (IsOf type) _ z (or_lt (bits (width type)) x y h g) e
binary_is type binary.Xor x y z h g e = some_only (IsOf type) _ z (xor_lt (bits (width type)) x y h g) e
binary_is type binary.ShiftLeft x y z h g e = some_only (IsOf type) _ z (mod-lt (x * 2 ^ (y % bits (width type))) (pow_pos (bits (width type)))) e
binary_is type binary.ShiftRightSigned x y z h g e =
    let w = width type in
    let s = signed_fits w x h in
    let q = mag_shr (cast_signed w x) (2 ^ (y % bits w)) in
    some_only (IsOf type) _ z (small_bits w (int_shr (cast_signed w x) (y % bits w)) (small_signed w (int_shr (cast_signed w x) (y % bits w)) (omega arith))) e
binary_is type binary.ShiftRightUnsigned x y z h g e = some_only (IsOf type) _ z (below_is type _ x (div-le_self x (2 ^ (y % bits (width type)))) h) e
binary_is type binary.RotateLeft x y z h g e =
    let w = width type in
    let k = y % bits w in
    some_only (IsOf type) _ z (or_lt (bits w) _ _ (mod-lt (x * 2 ^ k) (pow_pos (bits w))) (below_is type (x / 2 ^ ((bits w - k) % bits w)) x (div-le_self x (2 ^ ((bits w - k) % bits w))) h)) e
binary_is type binary.RotateRight x y z h g e =
    let w = width type in
    let k = y % bits w in
    some_only (IsOf type) _ z (or_lt (bits w) _ _ (below_is type (x / 2 ^ k) x (div-le_self x (2 ^ k)) h) (mod-lt (x * 2 ^ ((bits w - k) % bits w)) (pow_pos (bits w)))) e

-- ---- bytes

abbrev pub AreBytes : List ℕ → Type 0
AreBytes bytes = AllByRecursion (λ byte. byte < 256) bytes

pub bytes_append : (xs ys : List ℕ) → AreBytes xs → AreBytes ys → AreBytes (xs ++ ys)
bytes_append [] ys h g = g
bytes_append (x ∷ xs) ys h g = (h.0, bytes_append xs ys h.1 g)

pub bytes_take : (n : ℕ) (xs : List ℕ) → AreBytes xs → AreBytes (take n xs)
bytes_take zero xs h = tt
bytes_take (suc n) [] h = tt
bytes_take (suc n) (x ∷ xs) h = (h.0, bytes_take n xs h.1)

pub bytes_drop : (n : ℕ) (xs : List ℕ) → AreBytes xs → AreBytes (drop n xs)
bytes_drop zero xs h = h
bytes_drop (suc n) [] h = tt
bytes_drop (suc n) (x ∷ xs) h = bytes_drop n xs h.1

byte_at : (i : ℕ) (xs : List ℕ) → AreBytes xs → slice_index xs i < 256
byte_at zero [] h = omega arith
byte_at (suc i) [] h = omega arith
byte_at zero (x ∷ xs) h = h.0
byte_at (suc i) (x ∷ xs) h = byte_at i xs h.1

-- the number that bytes of a width spell
spelled : (w : Width) (xs : List ℕ) → AreBytes xs → (w ≡ w128 → ⊥) → from_le_bytes w xs < 2 ^ bits w
spelled w8 xs h n = byte_at 0 xs h
spelled w16 xs h n = let a = byte_at 0 xs h in let b = byte_at 1 xs h in omega arith
spelled w32 xs h n = let a = byte_at 0 xs h in let b = byte_at 1 xs h in let c = byte_at 2 xs h in let d = byte_at 3 xs h in omega arith
spelled w64 xs h n =
    let a = byte_at 0 xs h in let b = byte_at 1 xs h in let c = byte_at 2 xs h in let d = byte_at 3 xs h in
    let e = byte_at 4 xs h in let f = byte_at 5 xs h in let g = byte_at 6 xs h in let i = byte_at 7 xs h in omega arith
spelled w128 xs h n = absurd (n refl)

-- the bits of a narrow signed number at a wider type
widened : (narrow wide : Width) (x : ℕ) → 2 ^ bits narrow ≤ 2 ^ bits wide → x < 2 ^ bits narrow → cast_unsigned wide (cast_signed narrow x) < 2 ^ bits wide
widened narrow wide x le h = let s = small_signed narrow (cast_signed narrow x) (signed_fits narrow x h) in small_bits wide (cast_signed narrow x) (omega arith)

pub loaded_is : (op : LoadOp) (bytes : List ℕ) → AreBytes bytes → IsOf (load_type op) (loaded op bytes)
loaded_is load.I32 bytes h = spelled w32 bytes h (λ e. cc)
loaded_is load.I64 bytes h = spelled w64 bytes h (λ e. cc)
loaded_is load.I32Signed8 bytes h = widened w8 w32 _ (omega arith) (spelled w8 bytes h (λ e. cc))
loaded_is load.I32Unsigned8 bytes h = let s = spelled w8 bytes h (λ e. cc) in omega arith
loaded_is load.I32Signed16 bytes h = widened w16 w32 _ (omega arith) (spelled w16 bytes h (λ e. cc))
loaded_is load.I32Unsigned16 bytes h = let s = spelled w16 bytes h (λ e. cc) in omega arith
loaded_is load.I64Signed8 bytes h = widened w8 w64 _ (omega arith) (spelled w8 bytes h (λ e. cc))
loaded_is load.I64Unsigned8 bytes h = let s = spelled w8 bytes h (λ e. cc) in omega arith
loaded_is load.I64Signed16 bytes h = widened w16 w64 _ (omega arith) (spelled w16 bytes h (λ e. cc))
loaded_is load.I64Unsigned16 bytes h = let s = spelled w16 bytes h (λ e. cc) in omega arith
loaded_is load.I64Signed32 bytes h = widened w32 w64 _ (omega arith) (spelled w32 bytes h (λ e. cc))
loaded_is load.I64Unsigned32 bytes h = let s = spelled w32 bytes h (λ e. cc) in omega arith

-- a byte of a number
byte_is : (n k : ℕ) → n / k % 256 < 256
byte_is n k = mod-lt (n / k) (omega arith)

written : (w : Width) (n : ℕ) → (w ≡ w128 → ⊥) → AreBytes (to_le_bytes w n)
written w8 n h = (mod-lt n (omega arith), tt)
written w16 n h = (mod-lt n (omega arith), (byte_is n _, tt))
written w32 n h = (mod-lt n (omega arith), (byte_is n _, (byte_is n _, (byte_is n _, tt))))
written w64 n h = (mod-lt n (omega arith), (byte_is n _, (byte_is n _, (byte_is n _, (byte_is n _, (byte_is n _, (byte_is n _, (byte_is n _, tt))))))))
written w128 n h = absurd (h refl)

pub stored_are : (op : StoreOp) (x : ℕ) → AreBytes (stored op x)
stored_are op x = written _ _ (narrow op)
  where
    narrow : (op : StoreOp) → store_width op ≡ w128 → ⊥
    narrow store.I32 e = cc
    narrow store.I64 e = cc
    narrow store.I32Low8 e = cc
    narrow store.I32Low16 e = cc
    narrow store.I64Low8 e = cc
    narrow store.I64Low16 e = cc
    narrow store.I64Low32 e = cc
