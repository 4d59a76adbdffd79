-- Shifts, divisions and operators with one operand, on bits.
use Rattle.std.proofs.Common.{◌≡◌, ◌≢◌, ℕ, zero, suc, ◌+◌, ◌-◌, ◌*◌, ◌%◌, ◌^◌, Bool, true, false, not, ℤ, pos, negsuc, [], ◌∷◌, refl, sym, ap, ◌∙◌, arith, Some, None, FitsSigned, inl, inr}
use Rattle.std.specs.Prelude.{◌==◌, ◌&&◌, ◌*ℤ◌, neg_ℤ, int_div, int_rem, if◌then◌else◌}
use Rattle.std.specs.Int.{Width, w32, w64, cast_unsigned, cast_signed, from_bool}
use mir.Val.{bits}
use Rattle.std.proofs.lemmas.Int.{ints}
use Rattle.std.proofs.lemmas.Grind.{common_steps}
use Rattle.cm_base.specs.declared.host.Scalar.{Scalar}
use Rattle.cm_base.specs.declared.host.Scalar.TheVariants as kinds
use Rattle.cm_base.specs.Scripts.{IsOfKind}
use Rattle.cm_number.specs.Conversion.{to_signed, to_bool}
use Rattle.cm_number.specs.Shift.{shift_amount}
use Rattle.cm_number.specs.Division.{quotient, remainder}
use Rattle.cm_number.proofs.Public.{mul_is, neg_is, div_s_is, div_minus_one_is, rem_s_is, not_is, eqz_is, shl_is, shr_s_is, shr_u_is, wrap_i64_is, extend_i32_s_is, widened-Fits, to_signed-Fits, shift_amount-cast_unsigned, shift_amount-to_signed}
use Rattle.cm_core.specs.declared.operator.BinaryOp.{BinaryOp}
use Rattle.cm_core.specs.declared.operator.BinaryOp.TheVariants as op
use Rattle.cm_core.specs.declared.operator.UnaryOp.{UnaryOp}
use Rattle.cm_core.specs.declared.operator.UnaryOp.TheVariants.{Negate, Not, Invert}
use Rattle.cm_core.specs.Operators.{unary, binary, truth}
use Rattle.cm_core.specs.Typing.{IsWide, TakesKind, is_shift, is_division}
use Rattle.wasm_tree.specs.declared.module.ValType.{ValType}
use Rattle.wasm_tree.specs.declared.module.ValType.TheVariants.{I32, I64}
use Rattle.wasm_tree.specs.declared.op.BinaryOp.TheVariants as binary
use Rattle.wasm_tree.specs.declared.op.ConvertOp.{ConvertOp}
use Rattle.wasm_tree.specs.declared.op.ConvertOp.TheVariants as convert
use Rattle.wasm_tree.specs.declared.instr.Instr.{Instr}
use Rattle.wasm_tree.specs.declared.instr.Instr.TheVariants as instr
use Rattle.wasm_tree.specs.Meaning.{width, binary_of, convert_of, overflows, unless_zero, signed_quotient}
use Rattle.wasm_tree.specs.Reduce.{push}
use Rattle.wasm_steps.proofs.Compose.{both_quiet, recount_does, restate}
use Rattle.wasm_steps.proofs.Instructions as each
use Rattle.straight_code.specs.Straight.{with_operands, step_of}
use Rattle.operator_code.specs.Operands.{bits_of, number}
use Rattle.operator_code.specs.Operators.{instr_of, shift_code, division_code, unary_code}
use Rattle.operator_code.specs.Promises.{Computes}
use Rattle.operator_code.proofs.Operating.{one_binary, some, truth_bits, wide_kind, below_fits}

-- ---- shifts

shift_does : (ty : ValType) (o : BinaryOp) → is_shift o ≡ true → (x by : ℤ) (y : ℕ) → FitsSigned (width ty) x → y % bits (width ty) ≡ shift_amount (width ty) by →
    Computes (instr_of o ty ∷ []) (y ∷ cast_unsigned (width ty) x ∷ []) (bits_of (wide_kind ty) (binary o (wide_kind ty) x by))
shift_does I32 op.ShiftLeft s x by y f e = one_binary I32 binary.ShiftLeft _ _ _ (some (shl_is w32 x by y f e))
shift_does I64 op.ShiftLeft s x by y f e = one_binary I64 binary.ShiftLeft _ _ _ (some (shl_is w64 x by y f e))
shift_does I32 op.ShiftRight s x by y f e = one_binary I32 binary.ShiftRightSigned _ _ _ (some (shr_s_is w32 x by y f e))
shift_does I64 op.ShiftRight s x by y f e = one_binary I64 binary.ShiftRightSigned _ _ _ (some (shr_s_is w64 x by y f e))
shift_does I32 op.ShiftRightZero s x by y f e = one_binary I32 binary.ShiftRightUnsigned _ _ _ (some (shr_u_is w32 x by y f e))
shift_does I64 op.ShiftRightZero s x by y f e = one_binary I64 binary.ShiftRightUnsigned _ _ _ (some (shr_u_is w64 x by y f e))
shift_does ty op.Add s x by y f e = cc
shift_does ty op.Subtract s x by y f e = cc
shift_does ty op.Multiply s x by y f e = cc
shift_does ty op.Divide s x by y f e = cc
shift_does ty op.Remainder s x by y f e = cc
shift_does ty op.BitAnd s x by y f e = cc
shift_does ty op.BitOr s x by y f e = cc
shift_does ty op.BitXor s x by y f e = cc
shift_does ty op.Equal s x by y f e = cc
shift_does ty op.NotEqual s x by y f e = cc
shift_does ty op.Less s x by y f e = cc
shift_does ty op.LessOrEqual s x by y f e = cc
shift_does ty op.Greater s x by y f e = cc
shift_does ty op.GreaterOrEqual s x by y f e = cc

-- the last operand is converted first
after_convert : (c : ConvertOp) (i : Instr) (x y z out : ℕ) → convert_of c y ≡ z → Computes (i ∷ []) (z ∷ x ∷ []) out → Computes (instr.Convert c ∷ i ∷ []) (y ∷ x ∷ []) out
after_convert c i x y z out e does funcs st =
    let n : 1 + (0 + step_of i) ≡ 0 + 1 + step_of i = omega arith in
    recount_does n (both_quiet (restate (ap (λ v. with_operands (v ∷ x ∷ []) st) e) (each.convert (push x st) c y)) (does funcs st))

pub shifts_do : (o : BinaryOp) (kind amount : Scalar) → is_shift o ≡ true → IsWide kind → IsWide amount → (x y : ℤ) → IsOfKind kind x → IsOfKind amount y →
    Computes (shift_code o kind amount) (bits_of amount y ∷ bits_of kind x ∷ []) (bits_of kind (binary o kind x y))
shifts_do o kinds.Int32 kinds.Int32 s k a x y f g = shift_does I32 o s x y _ f (shift_amount-cast_unsigned w32 w32 y g)
shifts_do o kinds.Int64 kinds.Int64 s k a x y f g = shift_does I64 o s x y _ f (shift_amount-cast_unsigned w64 w64 y g)
shifts_do o kinds.Int32 kinds.Int64 s k a x y f g =
    after_convert convert.WrapI64 (instr_of o I32) _ _ _ _ (sym (wrap_i64_is y g))
    (shift_does I32 o s x y _ f (shift_amount-cast_unsigned w32 w32 (to_signed w32 y) (to_signed-Fits w32 y) ∙ shift_amount-to_signed w32 w32 y))
shifts_do o kinds.Int64 kinds.Int32 s k a x y f g =
    after_convert convert.ExtendI32Signed (instr_of o I64) _ _ _ _ (sym (extend_i32_s_is y g))
    (shift_does I64 o s x y _ f (shift_amount-cast_unsigned w64 w64 y (widened-Fits w32 w64 y (omega arith) g)))
shifts_do o kinds.Bool amount s (inl e) a x y f g = cc
shifts_do o kinds.Bool amount s (inr e) a x y f g = cc
shifts_do o (kinds.Wrap n) amount s (inl e) a x y f g = cc
shifts_do o (kinds.Wrap n) amount s (inr e) a x y f g = cc
shifts_do o (kinds.Clamp n) amount s (inl e) a x y f g = cc
shifts_do o (kinds.Clamp n) amount s (inr e) a x y f g = cc
shifts_do o kind kinds.Bool s k (inl e) x y f g = cc
shifts_do o kind kinds.Bool s k (inr e) x y f g = cc
shifts_do o kind (kinds.Wrap n) s k (inl e) x y f g = cc
shifts_do o kind (kinds.Wrap n) s k (inr e) x y f g = cc
shifts_do o kind (kinds.Clamp n) s k (inl e) x y f g = cc
shifts_do o kind (kinds.Clamp n) s k (inr e) x y f g = cc

-- ---- divisions

-- the bits of a divisor other than 0
not_zero : (ty : ValType) (d : ℤ) → FitsSigned (width ty) d → (d ≡ pos 0 → ⊥) → (cast_unsigned (width ty) d == 0) ≡ false
not_zero ty (pos zero) f h = absurd (h refl)
not_zero ty (pos (suc n)) f h = grind (arith, common_steps)
not_zero I32 (negsuc n) f h = let s = f.sfits in grind (arith, common_steps, s)
not_zero I64 (negsuc n) f h = let s = f.sfits in grind (arith, common_steps, s)

-- those of one other than -1
not_ones : (ty : ValType) (d : ℤ) → FitsSigned (width ty) d → (d ≡ negsuc 0 → ⊥) → (cast_unsigned (width ty) d == (2 ^ bits (width ty) - 1)) ≡ false
not_ones I32 (pos n) f h = let s = f.sfits in grind (arith, common_steps, s)
not_ones I64 (pos n) f h = let s = f.sfits in grind (arith, common_steps, s)
not_ones ty (negsuc zero) f h = absurd (h refl)
not_ones I32 (negsuc (suc n)) f h = let s = f.sfits in grind (arith, common_steps, s)
not_ones I64 (negsuc (suc n)) f h = let s = f.sfits in grind (arith, common_steps, s)

and_false : (b c : Bool) → c ≡ false → (b && c) ≡ false
and_false true c e = e
and_false false c e = refl

quotient_there : (w : Width) (x y q : ℕ) → overflows w x y ≡ false → (y == 0) ≡ false → q ≡ cast_unsigned w (int_div (cast_signed w x) (cast_signed w y)) → signed_quotient w x y ≡ Some q
quotient_there w x y q o z e = ap (λ b. if b then None else unless_zero y (cast_unsigned w (int_div (cast_signed w x) (cast_signed w y)))) o ∙ ap (λ b. if b then None else Some (cast_unsigned w (int_div (cast_signed w x) (cast_signed w y)))) z ∙ some e

remainder_there : (w : Width) (x y r : ℕ) → (y == 0) ≡ false → r ≡ cast_unsigned w (int_rem (cast_signed w x) (cast_signed w y)) → binary_of w binary.RemSigned x y ≡ Some r
remainder_there w x y r z e = ap (λ b. if b then None else Some (cast_unsigned w (int_rem (cast_signed w x) (cast_signed w y)))) z ∙ some e

-- the product with -1 is the quotient by it
minus_one : (x : ℤ) → neg_ℤ x ≡ x *ℤ negsuc 0
minus_one (pos zero) = refl
minus_one (pos (suc n)) = grind (arith, ints)
minus_one (negsuc n) = grind (arith, ints)

quotient_by_minus_one : (w : Width) (x : ℤ) → FitsSigned w x → FitsSigned w (negsuc 0) → cast_unsigned w (quotient w x (negsuc 0)) ≡ (cast_unsigned w x * cast_unsigned w (negsuc 0)) % 2 ^ bits w
quotient_by_minus_one w x f g =
    div_minus_one_is w x f ∙ sym (neg_is w x f) ∙ ap (λ z. cast_unsigned w (to_signed w z)) (minus_one x) ∙ mul_is w x (negsuc 0) f g

-- a divisor that is a constant
divide : (ty : ValType) (x d : ℤ) → FitsSigned (width ty) x → FitsSigned (width ty) d → (d ≡ pos 0 → ⊥) → (d ≡ negsuc 0 → ⊥) →
    binary_of (width ty) binary.DivSigned (cast_unsigned (width ty) x) (cast_unsigned (width ty) d) ≡ Some (cast_unsigned (width ty) (quotient (width ty) x d))
divide ty x d f g z o =
    quotient_there (width ty) _ _ _ (and_false _ _ (not_ones ty d g o)) (not_zero ty d g z) (div_s_is (width ty) x d f g (λ h. o h.1))

remain : (ty : ValType) (x d : ℤ) → FitsSigned (width ty) x → FitsSigned (width ty) d → (d ≡ pos 0 → ⊥) →
    binary_of (width ty) binary.RemSigned (cast_unsigned (width ty) x) (cast_unsigned (width ty) d) ≡ Some (cast_unsigned (width ty) (remainder x d))
remain ty x d f g z = remainder_there (width ty) _ _ _ (not_zero ty d g z) (rem_s_is (width ty) x d f g)

division_does : (ty : ValType) (o : BinaryOp) → is_division o ≡ true → (d : ℤ) → FitsSigned (width ty) d → (d ≡ pos 0 → ⊥) → (x : ℤ) → FitsSigned (width ty) x →
    Computes (division_code o (wide_kind ty) d) (cast_unsigned (width ty) d ∷ cast_unsigned (width ty) x ∷ []) (bits_of (wide_kind ty) (binary o (wide_kind ty) x d))
division_does I32 op.Divide s (pos n) g z x f = one_binary I32 binary.DivSigned _ _ _ (divide I32 x (pos n) f g z (λ e. cc))
division_does I64 op.Divide s (pos n) g z x f = one_binary I64 binary.DivSigned _ _ _ (divide I64 x (pos n) f g z (λ e. cc))
division_does I32 op.Divide s (negsuc zero) g z x f = one_binary I32 binary.Mul _ _ _ (some (quotient_by_minus_one w32 x f g))
division_does I64 op.Divide s (negsuc zero) g z x f = one_binary I64 binary.Mul _ _ _ (some (quotient_by_minus_one w64 x f g))
division_does I32 op.Divide s (negsuc (suc n)) g z x f = one_binary I32 binary.DivSigned _ _ _ (divide I32 x (negsuc (suc n)) f g z (λ e. cc))
division_does I64 op.Divide s (negsuc (suc n)) g z x f = one_binary I64 binary.DivSigned _ _ _ (divide I64 x (negsuc (suc n)) f g z (λ e. cc))
division_does I32 op.Remainder s d g z x f = one_binary I32 binary.RemSigned _ _ _ (remain I32 x d f g z)
division_does I64 op.Remainder s d g z x f = one_binary I64 binary.RemSigned _ _ _ (remain I64 x d f g z)
division_does ty op.Add s d g z x f = cc
division_does ty op.Subtract s d g z x f = cc
division_does ty op.Multiply s d g z x f = cc
division_does ty op.BitAnd s d g z x f = cc
division_does ty op.BitOr s d g z x f = cc
division_does ty op.BitXor s d g z x f = cc
division_does ty op.ShiftLeft s d g z x f = cc
division_does ty op.ShiftRight s d g z x f = cc
division_does ty op.ShiftRightZero s d g z x f = cc
division_does ty op.Equal s d g z x f = cc
division_does ty op.NotEqual s d g z x f = cc
division_does ty op.Less s d g z x f = cc
division_does ty op.LessOrEqual s d g z x f = cc
division_does ty op.Greater s d g z x f = cc
division_does ty op.GreaterOrEqual s d g z x f = cc

pub divisions_do : (o : BinaryOp) (kind : Scalar) (d : ℤ) → is_division o ≡ true → IsWide kind → IsOfKind kind d → d ≢ pos 0 → (x : ℤ) → IsOfKind kind x →
    Computes (division_code o kind d) (bits_of kind d ∷ bits_of kind x ∷ []) (bits_of kind (binary o kind x d))
divisions_do o kinds.Int32 d s k g z x f = division_does I32 o s d g z x f
divisions_do o kinds.Int64 d s k g z x f = division_does I64 o s d g z x f
divisions_do o kinds.Bool d s (inl e) g z x f = cc
divisions_do o kinds.Bool d s (inr e) g z x f = cc
divisions_do o (kinds.Wrap n) d s (inl e) g z x f = cc
divisions_do o (kinds.Wrap n) d s (inr e) g z x f = cc
divisions_do o (kinds.Clamp n) d s (inl e) g z x f = cc
divisions_do o (kinds.Clamp n) d s (inr e) g z x f = cc

-- ---- operators with one operand

-- with a constant behind the operand
with_number : (ty : ValType) (z : ℤ) (o : _) (x out : ℕ) → binary_of (width ty) o x (cast_unsigned (width ty) z) ≡ Some out → Computes (number ty z ∷ instr.Binary ty o ∷ []) (x ∷ []) out
with_number I32 z o x out e funcs st = both_quiet (each.i32_const (push x st) z) (each.binary st I32 o x _ out e)
with_number I64 z o x out e funcs st = both_quiet (each.i64_const (push x st) z) (each.binary st I64 o x _ out e)

negated : (w : Width) (x : ℤ) → FitsSigned w x → FitsSigned w (negsuc 0) → cast_unsigned w (to_signed w (neg_ℤ x)) ≡ (cast_unsigned w x * cast_unsigned w (negsuc 0)) % 2 ^ bits w
negated w x f g = ap (λ z. cast_unsigned w (to_signed w z)) (minus_one x) ∙ mul_is w x (negsuc 0) f g

tested : (x : ℤ) → FitsSigned w32 x → from_bool (cast_unsigned w32 x == 0) ≡ cast_unsigned w32 (truth (not (to_bool x)))
tested x f = ap from_bool (eqz_is w32 x f) ∙ sym (truth_bits (not (to_bool x)))

pub unary_does : (o : UnaryOp) (kind : Scalar) → TakesKind o kind → (x : ℤ) → IsOfKind kind x → Computes (unary_code o kind) (bits_of kind x ∷ []) (bits_of kind (unary o kind x))
unary_does Negate kinds.Int32 k x f = with_number I32 (negsuc 0) binary.Mul _ _ (some (negated w32 x f record { sfits = omega arith }))
unary_does Negate kinds.Int64 k x f = with_number I64 (negsuc 0) binary.Mul _ _ (some (negated w64 x f record { sfits = omega arith }))
unary_does Invert kinds.Int32 k x f = with_number I32 (negsuc 0) binary.Xor _ _ (some (not_is w32 x f))
unary_does Invert kinds.Int64 k x f = with_number I64 (negsuc 0) binary.Xor _ _ (some (not_is w64 x f))
unary_does Not kinds.Bool k x f = λ funcs st. restate (ap (λ n. with_operands (n ∷ []) st) (tested x (below_fits 2 x (omega arith) f))) (each.test st I32 (cast_unsigned w32 x))
unary_does Negate kinds.Bool (inl e) x f = cc
unary_does Negate kinds.Bool (inr e) x f = cc
unary_does Negate (kinds.Wrap n) (inl e) x f = cc
unary_does Negate (kinds.Wrap n) (inr e) x f = cc
unary_does Negate (kinds.Clamp n) (inl e) x f = cc
unary_does Negate (kinds.Clamp n) (inr e) x f = cc
unary_does Invert kinds.Bool (inl e) x f = cc
unary_does Invert kinds.Bool (inr e) x f = cc
unary_does Invert (kinds.Wrap n) (inl e) x f = cc
unary_does Invert (kinds.Wrap n) (inr e) x f = cc
unary_does Invert (kinds.Clamp n) (inl e) x f = cc
unary_does Invert (kinds.Clamp n) (inr e) x f = cc
unary_does Not kinds.Int32 e x f = cc
unary_does Not kinds.Int64 e x f = cc
unary_does Not (kinds.Wrap n) e x f = cc
unary_does Not (kinds.Clamp n) e x f = cc
