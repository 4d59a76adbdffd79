-- Operators on bits.
use Rattle.std.proofs.Common.{◌≡◌, ℕ, ◌^◌, ◌≤◌, Bool, true, false, not, ℤ, pos, negsuc, [], ◌∷◌, refl, sym, ap, ◌∙◌, arith, Some, FitsSigned, inl, inr}
use Rattle.std.specs.Prelude.{◌&&◌, ◌||◌, int_lt, int_le, ◌⊎◌}
use Rattle.std.specs.Int.{w32, w64, cast_unsigned, from_bool}
use Rattle.std.specs.Ordering.{int_eq}
use Rattle.std.proofs.lemmas.Int.{ints}
use Rattle.cm_base.specs.declared.host.Scalar.{Scalar}
use Rattle.cm_base.specs.declared.host.Scalar.TheVariants as kinds
use Rattle.cm_base.specs.Scripts.{IsOfKind, IsBelow}
use Rattle.cm_number.proofs.Public.{add_is, sub_is, mul_is, and_is, or_is, xor_is, eq_is, lt_s_is, le_s_is, gt_s_is, ge_s_is}
use Rattle.cm_core.specs.declared.operator.BinaryOp.{BinaryOp}
use Rattle.cm_core.specs.declared.operator.BinaryOp.TheVariants as op
use Rattle.cm_core.specs.Operators.{binary, truth, is_equal}
use Rattle.cm_core.specs.Types.{binary_kind}
use Rattle.cm_core.specs.Typing.{ComputesIn, IsWide, is_bitwise, is_equality, is_shift, is_division}
use Rattle.wasm_tree.specs.declared.module.ValType.{ValType}
use Rattle.wasm_tree.specs.declared.module.ValType.TheVariants.{I32, I64}
use Rattle.wasm_tree.specs.declared.op.BinaryOp.{BinaryOp as Arithmetic}
use Rattle.wasm_tree.specs.declared.op.BinaryOp.TheVariants as binary
use Rattle.wasm_tree.specs.declared.op.CompareOp.{CompareOp}
use Rattle.wasm_tree.specs.declared.op.CompareOp.TheVariants as compare
use Rattle.wasm_tree.specs.declared.instr.Instr.TheVariants as instr
use Rattle.wasm_tree.specs.Meaning.{width, binary_of, compares}
use Rattle.wasm_steps.proofs.Compose.{restate}
use Rattle.wasm_steps.proofs.Instructions as each
use Rattle.straight_code.specs.Straight.{with_operands}
use Rattle.operator_code.specs.Operands.{bits_of}
use Rattle.operator_code.specs.Operators.{operator_code}
use Rattle.operator_code.specs.Promises.{Computes}

-- ---- one instruction

pub one_binary : (ty : ValType) (o : Arithmetic) (x y z : ℕ) → binary_of (width ty) o x y ≡ Some z → Computes (instr.Binary ty o ∷ []) (y ∷ x ∷ []) z
one_binary ty o x y z e funcs st = each.binary st ty o x y z e

pub some : {a b : ℕ} → a ≡ b → Some b ≡ Some a
some e = ap (λ n. Some n) (sym e)

pub one_compare : (ty : ValType) (o : CompareOp) (x y : ℕ) (b : Bool) → compares (width ty) o x y ≡ b → Computes (instr.Compare ty o ∷ []) (y ∷ x ∷ []) (from_bool b)
one_compare ty o x y b e funcs st = restate (ap (λ t. with_operands (from_bool t ∷ []) st) e) (each.compare st ty o x y)

-- a truth value as bits
pub truth_bits : (b : Bool) → cast_unsigned w32 (truth b) ≡ from_bool b
truth_bits true = refl
truth_bits false = refl

pub one_truth : (ty : ValType) (o : CompareOp) (x y : ℕ) (b : Bool) → compares (width ty) o x y ≡ b → Computes (instr.Compare ty o ∷ []) (y ∷ x ∷ []) (cast_unsigned w32 (truth b))
one_truth ty o x y b e funcs st = restate (ap (λ n. with_operands (n ∷ []) st) (sym (truth_bits b))) (one_compare ty o x y b e funcs st)

-- ---- comparisons of numbers

same : (a b : ℤ) (s t : Bool) → int_lt a b ≡ s → int_lt b a ≡ t → int_eq a b ≡ (not s && not t)
same a b true t p q = grind (arith, ints, p, q)
same a b false true p q = grind (arith, ints, p, q)
same a b false false p q = grind (arith, ints, p, q)

pub equal_is : (a b : ℤ) → int_eq a b ≡ is_equal a b
equal_is a b = same a b (int_lt a b) (int_lt b a) refl refl

not_below : (a b : ℤ) (t : Bool) → int_lt b a ≡ t → int_le a b ≡ not t
not_below a b true p = grind (arith, ints, p)
not_below a b false p = grind (arith, ints, p)

pub le_is : (a b : ℤ) → int_le a b ≡ not (int_lt b a)
le_is a b = not_below a b (int_lt b a) refl

-- ---- operators but for shifts and divisions

-- in a number type of 32 or 64 bits
abbrev pub wide_kind : ValType → Scalar
wide_kind I32 = kinds.Int32
wide_kind I64 = kinds.Int64

wide_does : (ty : ValType) (o : BinaryOp) → is_shift o ≡ false → is_division o ≡ false → (x y : ℤ) → FitsSigned (width ty) x → FitsSigned (width ty) y →
    Computes (operator_code o (wide_kind ty)) (cast_unsigned (width ty) y ∷ cast_unsigned (width ty) x ∷ []) (bits_of (binary_kind o (wide_kind ty)) (binary o (wide_kind ty) x y))
wide_does I32 op.Add s d x y f g = one_binary I32 binary.Add _ _ _ (some (add_is w32 x y f g))
wide_does I64 op.Add s d x y f g = one_binary I64 binary.Add _ _ _ (some (add_is w64 x y f g))
wide_does I32 op.Subtract s d x y f g = one_binary I32 binary.Sub _ _ _ (some (sub_is w32 x y f g))
wide_does I64 op.Subtract s d x y f g = one_binary I64 binary.Sub _ _ _ (some (sub_is w64 x y f g))
wide_does I32 op.Multiply s d x y f g = one_binary I32 binary.Mul _ _ _ (some (mul_is w32 x y f g))
wide_does I64 op.Multiply s d x y f g = one_binary I64 binary.Mul _ _ _ (some (mul_is w64 x y f g))
wide_does ty op.Divide s d x y f g = cc
wide_does ty op.Remainder s d x y f g = cc
wide_does I32 op.BitAnd s d x y f g = one_binary I32 binary.And _ _ _ (some (and_is w32 x y f g))
wide_does I64 op.BitAnd s d x y f g = one_binary I64 binary.And _ _ _ (some (and_is w64 x y f g))
wide_does I32 op.BitOr s d x y f g = one_binary I32 binary.Or _ _ _ (some (or_is w32 x y f g))
wide_does I64 op.BitOr s d x y f g = one_binary I64 binary.Or _ _ _ (some (or_is w64 x y f g))
wide_does I32 op.BitXor s d x y f g = one_binary I32 binary.Xor _ _ _ (some (xor_is w32 x y f g))
wide_does I64 op.BitXor s d x y f g = one_binary I64 binary.Xor _ _ _ (some (xor_is w64 x y f g))
wide_does ty op.ShiftLeft s d x y f g = cc
wide_does ty op.ShiftRight s d x y f g = cc
wide_does ty op.ShiftRightZero s d x y f g = cc
wide_does I32 op.Equal s d x y f g = one_truth I32 compare.Equal _ _ (is_equal x y) (eq_is w32 x y f g ∙ equal_is x y)
wide_does I64 op.Equal s d x y f g = one_truth I64 compare.Equal _ _ (is_equal x y) (eq_is w64 x y f g ∙ equal_is x y)
wide_does I32 op.NotEqual s d x y f g = one_truth I32 compare.NotEqual _ _ (not (is_equal x y)) (ap not (eq_is w32 x y f g ∙ equal_is x y))
wide_does I64 op.NotEqual s d x y f g = one_truth I64 compare.NotEqual _ _ (not (is_equal x y)) (ap not (eq_is w64 x y f g ∙ equal_is x y))
wide_does I32 op.Less s d x y f g = one_truth I32 compare.LessSigned _ _ (int_lt x y) (lt_s_is w32 x y f g)
wide_does I64 op.Less s d x y f g = one_truth I64 compare.LessSigned _ _ (int_lt x y) (lt_s_is w64 x y f g)
wide_does I32 op.LessOrEqual s d x y f g = one_truth I32 compare.LessEqualSigned _ _ (not (int_lt y x)) (le_s_is w32 x y f g ∙ le_is x y)
wide_does I64 op.LessOrEqual s d x y f g = one_truth I64 compare.LessEqualSigned _ _ (not (int_lt y x)) (le_s_is w64 x y f g ∙ le_is x y)
wide_does I32 op.Greater s d x y f g = one_truth I32 compare.GreaterSigned _ _ (int_lt y x) (gt_s_is w32 x y f g)
wide_does I64 op.Greater s d x y f g = one_truth I64 compare.GreaterSigned _ _ (int_lt y x) (gt_s_is w64 x y f g)
wide_does I32 op.GreaterOrEqual s d x y f g = one_truth I32 compare.GreaterEqualSigned _ _ (not (int_lt x y)) (ge_s_is w32 x y f g ∙ le_is y x)
wide_does I64 op.GreaterOrEqual s d x y f g = one_truth I64 compare.GreaterEqualSigned _ _ (not (int_lt x y)) (ge_s_is w64 x y f g ∙ le_is y x)

-- a truth value is a number of 32 bits
pub below_fits : (n : ℕ) (z : ℤ) → n ≤ 2 ^ 31 → IsBelow n z → FitsSigned w32 z
below_fits n (pos k) h b = let high = b.1 in record { sfits = omega (arith, ints, h, high) }
below_fits n (negsuc k) h b = let low = b.0 in absurd (omega (arith, ints, low))

-- those that take truth values
truth_does : (o : BinaryOp) → (is_bitwise o || is_equality o) ≡ true → (x y : ℤ) → FitsSigned w32 x → FitsSigned w32 y →
    Computes (operator_code o kinds.Bool) (cast_unsigned w32 y ∷ cast_unsigned w32 x ∷ []) (bits_of (binary_kind o kinds.Bool) (binary o kinds.Bool x y))
truth_does op.BitAnd e x y f g = wide_does I32 op.BitAnd refl refl x y f g
truth_does op.BitOr e x y f g = wide_does I32 op.BitOr refl refl x y f g
truth_does op.BitXor e x y f g = wide_does I32 op.BitXor refl refl x y f g
truth_does op.Equal e x y f g = wide_does I32 op.Equal refl refl x y f g
truth_does op.NotEqual e x y f g = wide_does I32 op.NotEqual refl refl x y f g
truth_does op.Add e x y f g = cc
truth_does op.Subtract e x y f g = cc
truth_does op.Multiply e x y f g = cc
truth_does op.Divide e x y f g = cc
truth_does op.Remainder e x y f g = cc
truth_does op.ShiftLeft e x y f g = cc
truth_does op.ShiftRight e x y f g = cc
truth_does op.ShiftRightZero e x y f g = cc
truth_does op.Less e x y f g = cc
truth_does op.LessOrEqual e x y f g = cc
truth_does op.Greater e x y f g = cc
truth_does op.GreaterOrEqual e x y f g = cc

no_wide_truth : IsWide kinds.Bool → ⊥
no_wide_truth (inl e) = cc
no_wide_truth (inr e) = cc

no_wrap : {A : Type 0} (n : ℕ) → IsWide (kinds.Wrap n) ⊎ ((kinds.Wrap n ≡ kinds.Bool) × A) → ⊥
no_wrap n (inl (inl e)) = cc
no_wrap n (inl (inr e)) = cc
no_wrap n (inr e) = let no = e.0 in cc

no_clamp : {A : Type 0} (n : ℕ) → IsWide (kinds.Clamp n) ⊎ ((kinds.Clamp n ≡ kinds.Bool) × A) → ⊥
no_clamp n (inl (inl e)) = cc
no_clamp n (inl (inr e)) = cc
no_clamp n (inr e) = let no = e.0 in cc

-- the code of an operator but for shifts and divisions computes it
pub operator_does : (o : BinaryOp) (kind : Scalar) → ComputesIn o kind → is_shift o ≡ false → is_division o ≡ false → (x y : ℤ) → IsOfKind kind x → IsOfKind kind y →
    Computes (operator_code o kind) (bits_of kind y ∷ bits_of kind x ∷ []) (bits_of (binary_kind o kind) (binary o kind x y))
operator_does o kinds.Int32 h s d x y f g = wide_does I32 o s d x y f g
operator_does o kinds.Int64 h s d x y f g = wide_does I64 o s d x y f g
operator_does o kinds.Bool (inl h) s d x y f g = absurd (no_wide_truth h)
operator_does o kinds.Bool (inr h) s d x y f g = truth_does o h.1 x y (below_fits 2 x (omega arith) f) (below_fits 2 y (omega arith) g)
operator_does o (kinds.Wrap n) h s d x y f g = absurd (no_wrap n h)
operator_does o (kinds.Clamp n) h s d x y f g = absurd (no_clamp n h)
