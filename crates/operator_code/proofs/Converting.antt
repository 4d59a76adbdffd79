-- Conversions on bits.
use Rattle.std.proofs.Common.{◌≡◌, ℕ, zero, suc, ◌+◌, ◌-◌, ◌*◌, ◌/◌, ◌%◌, ◌^◌, ◌<◌, ◌≤◌, Bool, true, false, not, ℤ, pos, negsuc, ◌≤ℤ◌, List, [], ◌∷◌, ◌++◌, length, refl, sym, ap, ◌∙◌, subst, arith, Some, None, FitsSigned, cond, eqb}
use Rattle.std.specs.Prelude.{◌==◌, ◌<ℤ◌, int_lt, int_rem, bit_and, slice_set, if◌then◌else◌, nat_le, unsigned_abs}
use Rattle.std.specs.Int.{Width, w32, w64, cast_unsigned, cast_signed, from_bool, trailing_zeros}
use mir.Syntax.{w8, w16, w128}
use mir.Val.{bits, hbits}
use Rattle.std.proofs.lemmas.Int.{ints, rem_below, to_z-of_z}
use Rattle.std.proofs.lemmas.Nat.{and_mask}
use Rattle.std.proofs.lemmas.Bool.{eqb-true, leb-true}
use Rattle.std.proofs.lemmas.Grind.{common_steps}
use Rattle.std.proofs.lemmas.List.Sums.{sum_by-append}
use Rattle.std.proofs.lemmas.Nat.{mod-mul-add, pow-add, pow_pos, trailing_le}
use Rattle.std.proofs.Math.Nat.{add-mod_right, add-mul, div-add-mod, lt_of_not-le, mul_comm, mul-le-mul_right, suc-mul, mod-eq_of_lt, mod-lt}
use Rattle.cm_base.specs.declared.host.Scalar.{Scalar}
use Rattle.cm_base.specs.declared.host.Scalar.TheVariants as kinds
use Rattle.cm_base.specs.Scripts.{IsOfKind, IsBelow}
use Rattle.cm_number.specs.Conversion.{floor_modulus, nearest, to_signed, to_wrap, to_clamp, to_bool}
use Rattle.cm_number.proofs.Public.{to_signed_fits, widened-Fits, wrap_i64_is, extend_i32_s_is, to_wrap_is, to_clamp_only, eqz_is, lt_s_is}
use Rattle.cm_scalar.specs.Scalars.{converted, truth}
use Rattle.cm_core.specs.Typing.{IsKind, IsSize}
use Rattle.wasm_tree.specs.declared.module.ValType.{ValType}
use Rattle.wasm_tree.specs.declared.module.ValType.TheVariants.{I32, I64}
use Rattle.wasm_tree.specs.declared.op.BinaryOp.TheVariants as binary
use Rattle.wasm_tree.specs.declared.op.CompareOp.{CompareOp}
use Rattle.wasm_tree.specs.declared.op.CompareOp.TheVariants as compare
use Rattle.wasm_tree.specs.declared.op.ConvertOp.TheVariants as convert
use Rattle.wasm_tree.specs.declared.instr.Instr.{Instr}
use Rattle.wasm_tree.specs.declared.instr.Instr.TheVariants as instr
use Rattle.wasm_tree.specs.Meaning.{width, compare_of}
use Rattle.wasm_tree.specs.Reduce.{State, push}
use Rattle.wasm_steps.proofs.Compose.{both_quiet, does_nothing, recode, recount_does, restate}
use Rattle.wasm_steps.proofs.Instructions as each
use Rattle.wasm_steps.proofs.Variables.{slice_get-slice_set_same, slice_get-slice_set_other, length-slice_set}
use Rattle.straight_code.specs.Straight.{with_operands, step_of}
use Rattle.straight_code.proofs.Straight.{plains_append}
use Rattle.operator_code.specs.declared.scratch.Scratch.{Scratch}
use Rattle.operator_code.specs.Operands.{type_of, bits_of, number}
use Rattle.operator_code.specs.Conversions as codes
use Rattle.operator_code.specs.Promises.{Computes, HasRoom, SameBut, Turns, steps_of}
use Rattle.operator_code.proofs.Operating.{below_fits}

-- ---- locals for scratch

pub the_same : (s : Scratch) (locals : List ℕ) → SameBut s locals locals
the_same s locals = record { count = refl; others = λ i p q. refl }

room_of : (s : Scratch) (ty : ValType) (locals : List ℕ) → HasRoom s locals → codes.local_of s ty < length locals
room_of s I32 locals h = h.narrow
room_of s I64 locals h = h.wide

-- a write to one of them
written : (s : Scratch) (ty : ValType) (locals : List ℕ) (v : ℕ) → SameBut s locals (slice_set locals (codes.local_of s ty) v)
written s I32 locals v = record { count = length-slice_set locals s.narrow v; others = λ i p q. slice_get-slice_set_other locals s.narrow i v p }
written s I64 locals v = record { count = length-slice_set locals s.wide v; others = λ i p q. slice_get-slice_set_other locals s.wide i v q }

followed : (s : Scratch) (a b c : List ℕ) → SameBut s a b → SameBut s b c → SameBut s a c
followed s a b c h k = record { count = k.count ∙ h.count; others = λ i p q. k.others i p q ∙ h.others i p q }

kept_room : (s : Scratch) (a b : List ℕ) → SameBut s a b → HasRoom s a → HasRoom s b
kept_room s a b h r = let n = r.narrow in let w = r.wide in let c = h.count in record { narrow = omega (arith, n, c); wide = omega (arith, w, c) }

-- ---- code put together

-- code that changes no local
pub without_locals : (s : Scratch) (code : List Instr) (ins : List ℕ) (out : ℕ) → Computes code ins out → Turns s code ins out
without_locals s code ins out h funcs st r = record { locals = st.locals; same = the_same s st.locals; does = h funcs st }

-- no code
pub nothing_turns : (s : Scratch) (x y : ℕ) → x ≡ y → Turns s [] (x ∷ []) y
nothing_turns s x y e funcs st r = record { locals = st.locals; same = the_same s st.locals; does = restate (ap (λ n. with_operands (n ∷ []) st) e) (does_nothing (with_operands (x ∷ []) st)) }

sum_from : (a b : List Instr) → steps_of a + steps_of b ≡ steps_of (a ++ b)
sum_from a b = sym (sum_by-append step_of a b)

-- one after the other
pub then_turns : (s : Scratch) (a b : List Instr) (x y z : ℕ) → Turns s a (x ∷ []) y → Turns s b (y ∷ []) z → Turns s (a ++ b) (x ∷ []) z
then_turns s a b x y z h k funcs st r =
    let first = h funcs st r in
    let middle : State = record st { locals = first.locals } in
    let second = k funcs middle (kept_room s st.locals first.locals first.same r) in
    record {
      locals = second.locals;
      same = followed s st.locals first.locals second.locals first.same second.same;
      does = recode (plains_append a b) (recount_does (sum_from a b) (both_quiet first.does second.does));
    }

-- ---- one of two operands

-- a number and then a constant: the first where the comparison of the two holds, and else the second
abbrev picking : ValType → ℕ → CompareOp → ℤ → List Instr
picking ty v o k = instr.LocalTee v ∷ number ty k ∷ instr.LocalGet v ∷ number ty k ∷ instr.Compare ty o ∷ instr.Select ∷ []

picks : (s : Scratch) (ty : ValType) (o : CompareOp) (k : ℤ) (x : ℕ) →
    Turns s (picking ty (codes.local_of s ty) o k) (x ∷ []) (cond (eqb (compare_of (width ty) o x (cast_unsigned (width ty) k)) 0) (cast_unsigned (width ty) k) x)
picks s I32 o k x funcs st r =
    let locals : List ℕ = slice_set st.locals s.narrow x in
    let after : State = record st { locals = locals } in
    let n : ℕ = cast_unsigned w32 k in
    let there = slice_get-slice_set_same st.locals s.narrow x r.narrow in
    record {
      locals = locals;
      same = written s I32 st.locals x;
      does = both_quiet (each.local_tee st s.narrow x r.narrow)
          (both_quiet (each.i32_const (push x after) k)
          (both_quiet (each.local_get (push n (push x after)) s.narrow x there)
          (both_quiet (each.i32_const (push x (push n (push x after))) k)
          (both_quiet (each.compare (push n (push x after)) I32 o x n)
          (each.select after x n (compare_of w32 o x n))))));
    }
picks s I64 o k x funcs st r =
    let locals : List ℕ = slice_set st.locals s.wide x in
    let after : State = record st { locals = locals } in
    let n : ℕ = cast_unsigned w64 k in
    let there = slice_get-slice_set_same st.locals s.wide x r.wide in
    record {
      locals = locals;
      same = written s I64 st.locals x;
      does = both_quiet (each.local_tee st s.wide x r.wide)
          (both_quiet (each.i64_const (push x after) k)
          (both_quiet (each.local_get (push n (push x after)) s.wide x there)
          (both_quiet (each.i64_const (push x (push n (push x after))) k)
          (both_quiet (each.compare (push n (push x after)) I64 o x n)
          (each.select after x n (compare_of w64 o x n))))));
    }

turned_to : (s : Scratch) (code : List Instr) (x y z : ℕ) → y ≡ z → Turns s code (x ∷ []) y → Turns s code (x ∷ []) z
turned_to s code x y z e h = subst (λ n. Turns s code (x ∷ []) n) e h

-- what is picked, by a truth value
chosen : (b : Bool) (x y : ℕ) → cond (eqb (from_bool b) 0) y x ≡ (if b then x else y)
chosen true x y = refl
chosen false x y = refl

bits_chosen : (w : Width) (b : Bool) (x y : ℤ) → (if b then cast_unsigned w x else cast_unsigned w y) ≡ cast_unsigned w (if b then x else y)
bits_chosen w true x y = refl
bits_chosen w false x y = refl

-- the greater of a number and 0
abbrev least_held : ℤ → ℤ
least_held z = if int_lt (pos 0) z then z else pos 0

-- the less of a number and the greatest
abbrev most_held : ℕ → ℤ → ℤ
most_held top z = if int_lt z (pos top) then z else pos top

zero_fits : (ty : ValType) → FitsSigned (width ty) (pos 0)
zero_fits I32 = record { sfits = omega arith }
zero_fits I64 = record { sfits = omega arith }

least_turns : (s : Scratch) (ty : ValType) (z : ℤ) → FitsSigned (width ty) z →
    Turns s (codes.least_code ty (codes.local_of s ty)) (cast_unsigned (width ty) z ∷ []) (cast_unsigned (width ty) (least_held z))
least_turns s ty z f =
    turned_to s _ _ _ _
    (ap (λ b. cond (eqb (from_bool b) 0) 0 (cast_unsigned (width ty) z)) (lt_s_is (width ty) (pos 0) z (zero_fits ty) f)
    ∙ chosen (int_lt (pos 0) z) (cast_unsigned (width ty) z) 0 ∙ bits_chosen (width ty) (int_lt (pos 0) z) z (pos 0))
    (picks s ty compare.GreaterSigned (pos 0) (cast_unsigned (width ty) z))

most_turns : (s : Scratch) (ty : ValType) (top : ℕ) (z : ℤ) → FitsSigned (width ty) (pos top) → FitsSigned (width ty) z →
    Turns s (codes.most_code ty top (codes.local_of s ty)) (cast_unsigned (width ty) z ∷ []) (cast_unsigned (width ty) (most_held top z))
most_turns s ty top z g f =
    turned_to s _ _ _ _
    (ap (λ b. cond (eqb (from_bool b) 0) top (cast_unsigned (width ty) z)) (lt_s_is (width ty) z (pos top) f g)
    ∙ chosen (int_lt z (pos top)) (cast_unsigned (width ty) z) top ∙ bits_chosen (width ty) (int_lt z (pos top)) z (pos top))
    (picks s ty compare.LessSigned (pos top) (cast_unsigned (width ty) z))

-- ---- widths

-- a number of 32 bits, from 64 bits
narrowed : (z : ℤ) → FitsSigned w32 z → cast_unsigned w64 z % 2 ^ 32 ≡ cast_unsigned w32 z
narrowed z f = sym (wrap_i64_is z (widened-Fits w32 w64 z (omega arith) f)) ∙ ap (cast_unsigned w32) (to_signed_fits w32 z f)

narrow_turns : (s : Scratch) (ty : ValType) (z : ℤ) → FitsSigned w32 z → Turns s (codes.narrow_code ty) (cast_unsigned (width ty) z ∷ []) (cast_unsigned w32 z)
narrow_turns s I32 z f = nothing_turns s _ _ refl
narrow_turns s I64 z f = without_locals s _ _ _ (λ funcs st. restate (ap (λ n. with_operands (n ∷ []) st) (narrowed z f)) (each.convert st convert.WrapI64 (cast_unsigned w64 z)))

-- ---- to `bool`

truth_bits : (b : Bool) → cast_unsigned w32 (if b then pos 1 else pos 0) ≡ from_bool b
truth_bits true = refl
truth_bits false = refl

not_not : (b : Bool) → not (not b) ≡ b
not_not true = refl
not_not false = refl

differs : (w : Width) (z : ℤ) → FitsSigned w z → from_bool (not (cast_unsigned w z == 0)) ≡ cast_unsigned w32 (truth z)
differs w z f = ap (λ b. from_bool (not b)) (eqz_is w z f) ∙ ap from_bool (not_not (to_bool z)) ∙ sym (truth_bits (to_bool z))

truth_does : (ty : ValType) (z : ℤ) → FitsSigned (width ty) z → Computes (number ty (pos 0) ∷ instr.Compare ty compare.NotEqual ∷ []) (cast_unsigned (width ty) z ∷ []) (cast_unsigned w32 (truth z))
truth_does I32 z f funcs st =
    let x = cast_unsigned w32 z in
    both_quiet (each.i32_const (push x st) (pos 0)) (restate (ap (λ n. with_operands (n ∷ []) st) (differs w32 z f)) (each.compare st I32 compare.NotEqual x 0))
truth_does I64 z f funcs st =
    let x = cast_unsigned w64 z in
    both_quiet (each.i64_const (push x st) (pos 0)) (restate (ap (λ n. with_operands (n ∷ []) st) (differs w64 z f)) (each.compare st I64 compare.NotEqual x 0))

-- a truth value is its own
truth_same : (z : ℤ) → IsBelow 2 z → z ≡ truth z
unfolding to_bool
truth_same (pos zero) h = refl
truth_same (pos (suc zero)) h = refl
truth_same (pos (suc (suc n))) h = let high = h.1 in absurd (omega (arith, ints, high))
truth_same (negsuc n) h = let low = h.0 in absurd (omega (arith, ints, low))

-- ---- to `wrap`

-- the floor modulus of a number below 0, from its two's complement
mask_low : (m n a : ℕ) → 0 < n → suc a ≤ m * n → (m * n - suc a) % n ≡ n - 1 - a % n
mask_low m n a p h =
    let q : ℕ = a / n in
    let whole : n * q + a % n ≡ a = div-add-mod a n in
    let small : a % n < n = mod-lt a p in
    let turned : n * q ≡ q * n = mul_comm n q in
    let over : q < m = below_by q m n (omega (arith, whole, turned, h)) in
    let rest : ℕ = m - suc q in
    let split : m * n ≡ rest * n + (q * n + n) = ap (λ k. k * n) (omega (arith, over)) ∙ add-mul rest (suc q) n ∙ ap (λ k. rest * n + k) (suc-mul q n) in
    let form : m * n - suc a ≡ rest * n + (n - 1 - a % n) = omega (arith, whole, turned, split, small) in
    ap (λ k. k % n) form ∙ mod-mul-add rest n (n - 1 - a % n) (omega (arith, p))
  where
    below_by : (x y n : ℕ) → x * n < y * n → x < y
    below_by x y n lt = lt_of_not-le (λ (le : y ≤ x). let more = mul-le-mul_right n le in omega (arith, more, lt))

-- 2 ^ k divides the count of all numbers
pow_splits : (k b : ℕ) → k ≤ b → 2 ^ b ≡ 2 ^ (b - k) * 2 ^ k
pow_splits k b h = ap (λ i. 2 ^ i) (omega (arith, h)) ∙ pow-add 2 (b - k) k

low_bits : (w : Width) (k : ℕ) (z : ℤ) → k ≤ bits w → FitsSigned w z → cast_unsigned w z % 2 ^ k ≡ floor_modulus z (2 ^ k)
unfolding floor_modulus
low_bits w k (pos a) h f = refl
low_bits w k (negsuc a) h f =
    let split = pow_splits k (bits w) h in
    let room : suc a ≤ 2 ^ bits w = omega (arith, f.sfits, half w) in
    ap (λ m. (m - suc a) % 2 ^ k) split ∙ mask_low (2 ^ (bits w - k)) (2 ^ k) a (pow_pos k) (omega (arith, room, split))
  where
    half : (w : Width) → 2 ^ hbits w ≤ 2 ^ bits w
    half w8 = omega arith
    half w16 = omega arith
    half w32 = omega arith
    half w64 = omega arith
    half w128 = omega arith

size_fits : (ty : ValType) (n : ℕ) → n < 2 ^ 31 → FitsSigned (width ty) (pos n)
size_fits I32 n h = record { sfits = omega (arith, h) }
size_fits I64 n h = record { sfits = omega (arith, h) }

bits_of_width : (ty : ValType) → 32 ≤ bits (width ty)
bits_of_width I32 = omega arith
bits_of_width I64 = omega arith

-- the low bits of a number are its floor modulus by a power of 2
mask_does : (ty : ValType) (n : ℕ) (z : ℤ) → IsSize n → codes.is_power n ≡ true → FitsSigned (width ty) z →
    Computes (codes.mask_code ty n) (cast_unsigned (width ty) z ∷ []) (floor_modulus z n)
mask_does ty n z size power f = by ty f
  where
    k : ℕ
    k = trailing_zeros w32 n

    is : n ≡ 2 ^ k
    is = eqb-true n (2 ^ k) power

    value : (ty : ValType) → FitsSigned (width ty) z → bit_and (cast_unsigned (width ty) z) (n - 1) ≡ floor_modulus z n
    value ty f =
        let le : k ≤ 32 = trailing_le 32 n in
        ap (λ m. bit_and (cast_unsigned (width ty) z) (m - 1)) is ∙ and_mask (cast_unsigned (width ty) z) k
        ∙ low_bits (width ty) k z (omega (arith, le, bits_of_width ty)) f ∙ ap (floor_modulus z) (sym is)

    by : (ty : ValType) → FitsSigned (width ty) z → Computes (codes.mask_code ty n) (cast_unsigned (width ty) z ∷ []) (floor_modulus z n)
    by I32 f funcs st = both_quiet (each.i32_const (push (cast_unsigned w32 z) st) (pos (n - 1))) (each.binary st I32 binary.And _ (n - 1) (floor_modulus z n) (ap (λ v. Some v) (value I32 f)))
    by I64 f funcs st = both_quiet (each.i64_const (push (cast_unsigned w64 z) st) (pos (n - 1))) (each.binary st I64 binary.And _ (n - 1) (floor_modulus z n) (ap (λ v. Some v) (value I64 f)))

not_zero : (n : ℕ) → 0 < n → (n == 0) ≡ false
not_zero zero h = absurd (omega (arith, h))
not_zero (suc n) h = grind (arith, common_steps)

-- the remainder of a number that isn't below 0
remainder_does : (n a : ℕ) → 0 < n → Computes (codes.remainder_code n) (a ∷ []) (a % n)
remainder_does n a p funcs st =
    both_quiet (each.i32_const (push a st) (pos n)) (each.binary st I32 binary.RemUnsigned a n (a % n) (ap (λ b. if b then None else Some (a % n)) (not_zero n p)))

-- the remainder and what is picked
abbrev raised : Width → ℕ → ℤ → ℕ
raised w n r = (cast_unsigned w r + n) % 2 ^ bits w

floor_picks : (s : Scratch) (ty : ValType) (n : ℕ) (x : ℕ) → 0 < n →
    let r : ℤ = int_rem (cast_signed (width ty) x) (cast_signed (width ty) n) in
    let m : ℕ = cast_unsigned (width ty) r in
    Turns s (codes.floor_code ty n (codes.local_of s ty)) (x ∷ []) (cond (eqb (compare_of (width ty) compare.LessSigned m 0) 0) m (raised (width ty) n r))
floor_picks s I32 n x p funcs st room =
    let r : ℤ = int_rem (cast_signed w32 x) (cast_signed w32 n) in
    let m : ℕ = cast_unsigned w32 r in
    let locals : List ℕ = slice_set st.locals s.narrow m in
    let after : State = record st { locals = locals } in
    let there = slice_get-slice_set_same st.locals s.narrow m room.narrow in
    record {
      locals = locals;
      same = written s I32 st.locals m;
      does = both_quiet (each.i32_const (push x st) (pos n))
          (both_quiet (each.binary st I32 binary.RemSigned x n m (ap (λ b. if b then None else Some m) (not_zero n p)))
          (both_quiet (each.local_tee st s.narrow m room.narrow)
          (both_quiet (each.i32_const (push m after) (pos n))
          (both_quiet (each.binary after I32 binary.Add m n (raised w32 n r) refl)
          (both_quiet (each.local_get (push (raised w32 n r) after) s.narrow m there)
          (both_quiet (each.local_get (push m (push (raised w32 n r) after)) s.narrow m there)
          (both_quiet (each.i32_const (push m (push m (push (raised w32 n r) after))) (pos 0))
          (both_quiet (each.compare (push m (push (raised w32 n r) after)) I32 compare.LessSigned m 0)
          (each.select after (raised w32 n r) m (compare_of w32 compare.LessSigned m 0))))))))));
    }
floor_picks s I64 n x p funcs st room =
    let r : ℤ = int_rem (cast_signed w64 x) (cast_signed w64 n) in
    let m : ℕ = cast_unsigned w64 r in
    let locals : List ℕ = slice_set st.locals s.wide m in
    let after : State = record st { locals = locals } in
    let there = slice_get-slice_set_same st.locals s.wide m room.wide in
    record {
      locals = locals;
      same = written s I64 st.locals m;
      does = both_quiet (each.i64_const (push x st) (pos n))
          (both_quiet (each.binary st I64 binary.RemSigned x n m (ap (λ b. if b then None else Some m) (not_zero n p)))
          (both_quiet (each.local_tee st s.wide m room.wide)
          (both_quiet (each.i64_const (push m after) (pos n))
          (both_quiet (each.binary after I64 binary.Add m n (raised w64 n r) refl)
          (both_quiet (each.local_get (push (raised w64 n r) after) s.wide m there)
          (both_quiet (each.local_get (push m (push (raised w64 n r) after)) s.wide m there)
          (both_quiet (each.i64_const (push m (push m (push (raised w64 n r) after))) (pos 0))
          (both_quiet (each.compare (push m (push (raised w64 n r) after)) I64 compare.LessSigned m 0)
          (each.select after (raised w64 n r) m (compare_of w64 compare.LessSigned m 0))))))))));
    }

-- a remainder is smaller than the divisor
small_remainder : (ty : ValType) (n x : ℕ) → IsSize n → unsigned_abs (int_rem (cast_signed (width ty) x) (cast_signed (width ty) n)) < n
small_remainder ty n x size =
    let is : cast_signed (width ty) n ≡ pos n = signed_size ty n size.1 in
    subst (λ d. unsigned_abs (int_rem (cast_signed (width ty) x) d) < n) (sym is) (rem_below (cast_signed (width ty) x) (pos n) (omega (arith, size.0)))
  where
    signed_size : (ty : ValType) (n : ℕ) → n < 2 ^ 31 → cast_signed (width ty) n ≡ pos n
    signed_size I32 n h = to_z-of_z w32 (pos n) (size_fits I32 n h)
    signed_size I64 n h = to_z-of_z w64 (pos n) (size_fits I64 n h)

not_below : (k : ℕ) → int_lt (pos k) (pos 0) ≡ false
not_below k = by (int_lt (pos k) (pos 0)) refl
  where
    by : (b : Bool) → int_lt (pos k) (pos 0) ≡ b → b ≡ false
    by true e = absurd (omega (arith, ints, e))
    by false e = refl

-- of what is picked, the same by two remainders
same_floor : (ty : ValType) (n : ℕ) (r : ℤ) → IsSize n → unsigned_abs r < n →
    cond (eqb (compare_of (width ty) compare.LessSigned (cast_unsigned (width ty) r) 0) 0) (cast_unsigned (width ty) r) (raised (width ty) n r) ≡ raised (width ty) n r % n
same_floor ty n r size small =
    ap (λ b. cond (eqb (from_bool b) 0) (cast_unsigned (width ty) r) (raised (width ty) n r)) (lt_s_is (width ty) r (pos 0) (fits ty r small) (zero_fits ty)) ∙ by ty r small
  where
    few : n < 2 ^ 31
    few = size.1

    fits : (ty : ValType) (r : ℤ) → unsigned_abs r < n → FitsSigned (width ty) r
    fits I32 (pos k) h = record { sfits = omega (arith, h, few) }
    fits I64 (pos k) h = record { sfits = omega (arith, h, few) }
    fits I32 (negsuc k) h = record { sfits = omega (arith, h, few) }
    fits I64 (negsuc k) h = record { sfits = omega (arith, h, few) }

    by : (ty : ValType) (r : ℤ) → unsigned_abs r < n → cond (eqb (from_bool (int_lt r (pos 0))) 0) (cast_unsigned (width ty) r) (raised (width ty) n r) ≡ raised (width ty) n r % n
    by I32 (pos k) h = let whole : (k + n) % 2 ^ 32 ≡ k + n = mod-eq_of_lt (omega (arith, h, few)) in ap (λ b. cond (eqb (from_bool b) 0) k ((k + n) % 2 ^ 32)) (not_below k) ∙ sym (ap (λ v. v % n) whole ∙ add-mod_right k n ∙ mod-eq_of_lt h)
    by I64 (pos k) h = let whole : (k + n) % 2 ^ 64 ≡ k + n = mod-eq_of_lt (omega (arith, h, few)) in ap (λ b. cond (eqb (from_bool b) 0) k ((k + n) % 2 ^ 64)) (not_below k) ∙ sym (ap (λ v. v % n) whole ∙ add-mod_right k n ∙ mod-eq_of_lt h)
    by I32 (negsuc k) h = let below : (2 ^ 32 - suc k + n) % 2 ^ 32 < n = grind (arith, h, size.1) in sym (mod-eq_of_lt below)
    by I64 (negsuc k) h = let below : (2 ^ 64 - suc k + n) % 2 ^ 64 < n = grind (arith, h, size.1) in sym (mod-eq_of_lt below)

-- the floor modulus of any number
floor_turns : (s : Scratch) (ty : ValType) (n : ℕ) (z : ℤ) → IsSize n → FitsSigned (width ty) z →
    Turns s (codes.floor_code ty n (codes.local_of s ty)) (cast_unsigned (width ty) z ∷ []) (cast_unsigned (width ty) (to_wrap n z))
floor_turns s ty n z size f =
    let x : ℕ = cast_unsigned (width ty) z in
    let r : ℤ = int_rem (cast_signed (width ty) x) (cast_signed (width ty) n) in
    turned_to s _ _ _ _
    (same_floor ty n r size (small_remainder ty n x size) ∙ sym (to_wrap_is (width ty) n z (omega (arith, size.0)) (size_fits ty n size.1) f))
    (floor_picks s ty n x (omega (arith, size.0)))

-- ---- kinds

-- a scalar of the kind is a number of the width
fits_of : (kind : Scalar) → IsKind kind → (z : ℤ) → IsOfKind kind z → FitsSigned (width (type_of kind)) z
fits_of kinds.Int32 k z f = f
fits_of kinds.Int64 k z f = f
fits_of kinds.Bool k z f = below_fits 2 z (omega arith) f
fits_of (kinds.Wrap n) k z f = let few = k.1 in below_fits n z (omega (arith, few)) f
fits_of (kinds.Clamp n) k z f = let few = k.1 in below_fits n z (omega (arith, few)) f

same_signed : (z : ℤ) → FitsSigned w32 z → cast_unsigned w32 z ≡ cast_unsigned w32 (to_signed w32 z)
same_signed z f = sym (ap (cast_unsigned w32) (to_signed_fits w32 z f))

int32_turns : (s : Scratch) (from : Scalar) → IsKind from → (z : ℤ) → IsOfKind from z → Turns s (codes.narrow_code (type_of from)) (bits_of from z ∷ []) (cast_unsigned w32 (to_signed w32 z))
int32_turns s kinds.Int64 k z f = without_locals s _ _ _ (λ funcs st. restate (ap (λ n. with_operands (n ∷ []) st) (sym (wrap_i64_is z f))) (each.convert st convert.WrapI64 (cast_unsigned w64 z)))
int32_turns s kinds.Int32 k z f = nothing_turns s _ _ (same_signed z f)
int32_turns s kinds.Bool k z f = nothing_turns s _ _ (same_signed z (fits_of kinds.Bool k z f))
int32_turns s (kinds.Wrap n) k z f = nothing_turns s _ _ (same_signed z (fits_of (kinds.Wrap n) k z f))
int32_turns s (kinds.Clamp n) k z f = nothing_turns s _ _ (same_signed z (fits_of (kinds.Clamp n) k z f))

widened : (s : Scratch) (z : ℤ) → FitsSigned w32 z → Turns s (codes.widen_code I32) (cast_unsigned w32 z ∷ []) (cast_unsigned w64 (to_signed w64 z))
widened s z f =
    let wide = widened-Fits w32 w64 z (omega arith) f in
    without_locals s _ _ _ (λ funcs st. restate (ap (λ n. with_operands (n ∷ []) st) (sym (extend_i32_s_is z f) ∙ sym (ap (cast_unsigned w64) (to_signed_fits w64 z wide)))) (each.convert st convert.ExtendI32Signed (cast_unsigned w32 z)))

int64_turns : (s : Scratch) (from : Scalar) → IsKind from → (z : ℤ) → IsOfKind from z → Turns s (codes.widen_code (type_of from)) (bits_of from z ∷ []) (cast_unsigned w64 (to_signed w64 z))
int64_turns s kinds.Int64 k z f = nothing_turns s _ _ (sym (ap (cast_unsigned w64) (to_signed_fits w64 z f)))
int64_turns s kinds.Int32 k z f = widened s z f
int64_turns s kinds.Bool k z f = widened s z (fits_of kinds.Bool k z f)
int64_turns s (kinds.Wrap n) k z f = widened s z (fits_of (kinds.Wrap n) k z f)
int64_turns s (kinds.Clamp n) k z f = widened s z (fits_of (kinds.Clamp n) k z f)

truth_turns : (s : Scratch) (from : Scalar) → IsKind from → (z : ℤ) → IsOfKind from z → Turns s (codes.truth_code from) (bits_of from z ∷ []) (cast_unsigned w32 (truth z))
truth_turns s kinds.Bool k z f = nothing_turns s _ _ (ap (cast_unsigned w32) (truth_same z f))
truth_turns s kinds.Int32 k z f = without_locals s _ _ _ (truth_does I32 z f)
truth_turns s kinds.Int64 k z f = without_locals s _ _ _ (truth_does I64 z f)
truth_turns s (kinds.Wrap n) k z f = without_locals s _ _ _ (truth_does I32 z (fits_of (kinds.Wrap n) k z f))
truth_turns s (kinds.Clamp n) k z f = without_locals s _ _ _ (truth_does I32 z (fits_of (kinds.Clamp n) k z f))

-- ---- the whole

floor_below : (z : ℤ) (n : ℕ) → 0 < n → floor_modulus z n < n
unfolding floor_modulus
floor_below (pos a) n p = mod-lt a p
floor_below (negsuc a) n p = omega (arith, p)

wrap_fits : (z : ℤ) (n : ℕ) → IsSize n → FitsSigned w32 (to_wrap n z)
unfolding to_wrap
wrap_fits z n size =
    let few = size.1 in
    let low = floor_below z n (omega (arith, size.0)) in
    record { sfits = omega (arith, few, low) }

wrap_same : (z : ℤ) (m n : ℕ) → IsBelow m z → m ≤ n → z ≡ to_wrap n z
unfolding to_wrap floor_modulus
wrap_same (pos k) m n h le = let high = h.1 in ap (λ i. pos i) (sym (mod-eq_of_lt (omega (arith, ints, high, le))))
wrap_same (negsuc k) m n h le = let low = h.0 in absurd (omega (arith, ints, low))

remainder_turns : (s : Scratch) (m n : ℕ) (z : ℤ) → IsSize n → IsBelow m z → Turns s (codes.remainder_code n) (cast_unsigned w32 z ∷ []) (cast_unsigned w32 (to_wrap n z))
unfolding to_wrap floor_modulus
remainder_turns s m n (pos k) size h = without_locals s _ _ _ (remainder_does n k (omega (arith, size.0)))
remainder_turns s m n (negsuc k) size h = let low = h.0 in absurd (omega (arith, ints, low))

wrapped : (w : Width) (n : ℕ) (z : ℤ) → floor_modulus z n ≡ cast_unsigned w (to_wrap n z)
unfolding to_wrap
wrapped w n z = refl

mask_turns : (s : Scratch) (ty : ValType) (n : ℕ) (z : ℤ) → IsSize n → codes.is_power n ≡ true → FitsSigned (width ty) z →
    Turns s (codes.mask_code ty n ++ codes.narrow_code ty) (cast_unsigned (width ty) z ∷ []) (cast_unsigned w32 (to_wrap n z))
mask_turns s ty n z size power f =
    then_turns s (codes.mask_code ty n) (codes.narrow_code ty) _ _ _
    (turned_to s _ _ _ _ (wrapped (width ty) n z) (without_locals s _ _ _ (mask_does ty n z size power f)))
    (narrow_turns s ty (to_wrap n z) (wrap_fits z n size))

divided : (s : Scratch) (ty : ValType) (n : ℕ) (z : ℤ) → IsSize n → FitsSigned (width ty) z →
    Turns s (codes.floor_code ty n (codes.local_of s ty) ++ codes.narrow_code ty) (cast_unsigned (width ty) z ∷ []) (cast_unsigned w32 (to_wrap n z))
divided s ty n z size f =
    then_turns s (codes.floor_code ty n (codes.local_of s ty)) (codes.narrow_code ty) _ _ _ (floor_turns s ty n z size f) (narrow_turns s ty (to_wrap n z) (wrap_fits z n size))

-- with what is asked told
abbrev wrap_by : Scratch → Scalar → ℕ → Bool → Bool → List Instr
wrap_by s from n below power =
    if below then [] else (if power then codes.mask_code (type_of from) n ++ codes.narrow_code (type_of from) else codes.modulus_code s (codes.bound_of from) (type_of from) n)

bounded_wrap : (s : Scratch) (from : Scalar) (m n : ℕ) → type_of from ≡ I32 → codes.bound_of from ≡ Some m → (z : ℤ) → IsSize n → FitsSigned w32 z → IsBelow m z → (below power : Bool) → nat_le m n ≡ below → codes.is_power n ≡ power →
    Turns s (if below then [] else (if power then codes.mask_code I32 n ++ codes.narrow_code I32 else codes.remainder_code n)) (cast_unsigned w32 z ∷ []) (cast_unsigned w32 (to_wrap n z))
bounded_wrap s from m n t b z size f h true power le q = nothing_turns s _ _ (ap (cast_unsigned w32) (wrap_same z m n h (leb-true m n le)))
bounded_wrap s from m n t b z size f h false true le q = mask_turns s I32 n z size q f
bounded_wrap s from m n t b z size f h false false le q = remainder_turns s m n z size h

any_wrap : (s : Scratch) (ty : ValType) (n : ℕ) (z : ℤ) → IsSize n → FitsSigned (width ty) z → (power : Bool) → codes.is_power n ≡ power →
    Turns s (if power then codes.mask_code ty n ++ codes.narrow_code ty else codes.modulus_code s None ty n) (cast_unsigned (width ty) z ∷ []) (cast_unsigned w32 (to_wrap n z))
any_wrap s ty n z size f true q = mask_turns s ty n z size q f
any_wrap s ty n z size f false q = divided s ty n z size f

wrap_turns : (s : Scratch) (from : Scalar) (n : ℕ) → IsKind from → IsSize n → (z : ℤ) → IsOfKind from z → Turns s (codes.wrap_code s from n) (bits_of from z ∷ []) (cast_unsigned w32 (to_wrap n z))
wrap_turns s kinds.Int32 n k size z f = any_wrap s I32 n z size f (codes.is_power n) refl
wrap_turns s kinds.Int64 n k size z f = any_wrap s I64 n z size f (codes.is_power n) refl
wrap_turns s kinds.Bool n k size z f = bounded_wrap s kinds.Bool 2 n refl refl z size (fits_of kinds.Bool k z f) f (nat_le 2 n) (codes.is_power n) refl refl
wrap_turns s (kinds.Wrap m) n k size z f = bounded_wrap s (kinds.Wrap m) m n refl refl z size (fits_of (kinds.Wrap m) k z f) f (nat_le m n) (codes.is_power n) refl refl
wrap_turns s (kinds.Clamp m) n k size z f = bounded_wrap s (kinds.Clamp m) m n refl refl z size (fits_of (kinds.Clamp m) k z f) f (nat_le m n) (codes.is_power n) refl refl

-- ---- to `clamp`

both_held : (n : ℕ) (z : ℤ) → 0 < n → (a b c d : Bool) → int_lt (pos 0) z ≡ a → int_lt (if a then z else pos 0) (pos (n - 1)) ≡ b → int_lt z (pos 0) ≡ c → int_lt (pos (n - 1)) z ≡ d →
    (if b then (if a then z else pos 0) else pos (n - 1)) ≡ (if c then pos 0 else (if d then pos (n - 1) else z))
both_held n z p true true true d e f g h = absurd (omega (arith, ints, e, g))
both_held n z p true true false true e f g h = absurd (omega (arith, ints, f, h))
both_held n z p true true false false e f g h = refl
both_held n z p true false true d e f g h = absurd (omega (arith, ints, e, g))
both_held n z p true false false true e f g h = refl
both_held n z p true false false false e f g h = omega (arith, ints, f, h)
both_held n z p false true true d e f g h = refl
both_held n z p false true false true e f g h = absurd (omega (arith, ints, e, h))
both_held n z p false true false false e f g h = omega (arith, ints, e, g)
both_held n z p false false true d e f g h = omega (arith, ints, f)
both_held n z p false false false true e f g h = refl
both_held n z p false false false false e f g h = omega (arith, ints, e, f, g)

held_is : (n : ℕ) (z : ℤ) → 0 < n → most_held (n - 1) (least_held z) ≡ to_clamp n z
unfolding to_clamp nearest
held_is n z p = both_held n z p _ _ _ _ refl refl refl refl

least_same : (z : ℤ) (m : ℕ) → IsBelow m z → least_held z ≡ z
least_same z m h = by (int_lt (pos 0) z) refl
  where
    low : pos 0 ≤ℤ z
    low = h.0

    by : (b : Bool) → int_lt (pos 0) z ≡ b → (if b then z else pos 0) ≡ z
    by true e = refl
    by false e = omega (arith, ints, low, e)

clamp_same : (z : ℤ) (m n : ℕ) → IsBelow m z → m ≤ n → z ≡ to_clamp n z
unfolding to_clamp nearest
clamp_same z m n h le = by (int_lt z (pos 0)) (int_lt (pos (n - 1)) z) refl refl
  where
    low : pos 0 ≤ℤ z
    low = h.0

    high : z <ℤ pos m
    high = h.1

    by : (s t : Bool) → int_lt z (pos 0) ≡ s → int_lt (pos (n - 1)) z ≡ t → z ≡ (if s then pos 0 else (if t then pos (n - 1) else z))
    by true t e f = absurd (omega (arith, ints, low, e))
    by false true e f = absurd (omega (arith, ints, high, le, f))
    by false false e f = refl

least_fits : (ty : ValType) (z : ℤ) → FitsSigned (width ty) z → FitsSigned (width ty) (least_held z)
least_fits ty z f = by (int_lt (pos 0) z)
  where
    by : (b : Bool) → FitsSigned (width ty) (if b then z else pos 0)
    by true = f
    by false = zero_fits ty

clamp_fits : (n : ℕ) (z : ℤ) → IsSize n → FitsSigned w32 (to_clamp n z)
clamp_fits n z size =
    let few = size.1 in
    let is = (to_clamp_only n z (to_clamp n z)).0 refl in
    below_fits n (to_clamp n z) (omega (arith, few)) (is.above, omega (arith, ints, is.below, size.0))

any_clamp : (s : Scratch) (ty : ValType) (n : ℕ) (z : ℤ) → IsSize n → FitsSigned (width ty) z →
    Turns s (codes.hold_code s None ty (n - 1)) (cast_unsigned (width ty) z ∷ []) (cast_unsigned w32 (to_clamp n z))
any_clamp s ty n z size f =
    let few = size.1 in
    let top = size_fits ty (n - 1) (omega (arith, few)) in
    then_turns s (codes.least_code ty (codes.local_of s ty)) (codes.most_code ty (n - 1) (codes.local_of s ty) ++ codes.narrow_code ty) _ _ _ (least_turns s ty z f)
    (then_turns s (codes.most_code ty (n - 1) (codes.local_of s ty)) (codes.narrow_code ty) _ _ _
    (turned_to s _ _ _ _ (ap (cast_unsigned (width ty)) (held_is n z (omega (arith, size.0)))) (most_turns s ty (n - 1) (least_held z) top (least_fits ty z f)))
    (narrow_turns s ty (to_clamp n z) (clamp_fits n z size)))

bounded_clamp : (s : Scratch) (m n : ℕ) (z : ℤ) → IsSize n → FitsSigned w32 z → IsBelow m z → (below : Bool) → nat_le m n ≡ below →
    Turns s (if below then [] else codes.most_code I32 (n - 1) s.narrow) (cast_unsigned w32 z ∷ []) (cast_unsigned w32 (to_clamp n z))
bounded_clamp s m n z size f h true le = nothing_turns s _ _ (ap (cast_unsigned w32) (clamp_same z m n h (leb-true m n le)))
bounded_clamp s m n z size f h false le =
    let few = size.1 in
    turned_to s _ _ _ _ (ap (cast_unsigned w32) (ap (most_held (n - 1)) (sym (least_same z m h)) ∙ held_is n z (omega (arith, size.0))))
    (most_turns s I32 (n - 1) z (size_fits I32 (n - 1) (omega (arith, few))) f)

clamp_turns : (s : Scratch) (from : Scalar) (n : ℕ) → IsKind from → IsSize n → (z : ℤ) → IsOfKind from z → Turns s (codes.clamp_code s from n) (bits_of from z ∷ []) (cast_unsigned w32 (to_clamp n z))
clamp_turns s kinds.Int32 n k size z f = any_clamp s I32 n z size f
clamp_turns s kinds.Int64 n k size z f = any_clamp s I64 n z size f
clamp_turns s kinds.Bool n k size z f = bounded_clamp s 2 n z size (fits_of kinds.Bool k z f) f (nat_le 2 n) refl
clamp_turns s (kinds.Wrap m) n k size z f = bounded_clamp s m n z size (fits_of (kinds.Wrap m) k z f) f (nat_le m n) refl
clamp_turns s (kinds.Clamp m) n k size z f = bounded_clamp s m n z size (fits_of (kinds.Clamp m) k z f) f (nat_le m n) refl

-- the code of a conversion converts
pub conversion_turns : (s : Scratch) (from to : Scalar) → IsKind from → IsKind to → (z : ℤ) → IsOfKind from z → Turns s (codes.conversion_code s from to) (bits_of from z ∷ []) (bits_of to (converted to z))
conversion_turns s from kinds.Int32 k t z f = int32_turns s from k z f
conversion_turns s from kinds.Int64 k t z f = int64_turns s from k z f
conversion_turns s from kinds.Bool k t z f = truth_turns s from k z f
conversion_turns s from (kinds.Wrap n) k t z f = wrap_turns s from n k t z f
conversion_turns s from (kinds.Clamp n) k t z f = clamp_turns s from n k t z f
