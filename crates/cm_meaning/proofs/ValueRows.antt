-- Types and constants of small patches, worked by hand.
use Rattle.std.specs.Prelude.{ℕ, ◌≡◌, refl, Bool, true, false, ℤ, pos, negsuc, List, [], ◌∷◌, map, Option, Some, None, codes}
use Rattle.cm_base.specs.declared.host.Scalar.TheVariants as kind
use Rattle.cm_number.specs.Conversion.{floor_modulus, to_signed, to_unsigned, to_wrap, to_clamp, to_bool, nearest}
use Rattle.cm_number.specs.Bitwise.{bitwise_and, bitwise_or, bitwise_xor, bitwise_not}
use Rattle.cm_number.specs.Division.{truncated_quotient, quotient, remainder}
use Rattle.cm_number.specs.Shift.{floor_quotient, left_shift, right_shift, zero_filled_shift}
use Rattle.cm_tree.specs.declared.operator.Unary.TheVariants as u
use Rattle.cm_tree.specs.declared.operator.Binary.{Binary}
use Rattle.cm_tree.specs.declared.operator.Binary.TheVariants as o
use Rattle.cm_tree.specs.declared.expr.Expr.{Expr}
use Rattle.cm_tree.specs.declared.expr.Expr.TheVariants as e
use Rattle.cm_tree.specs.declared.expr.Base.TheVariants as b
use Rattle.cm_tree.specs.declared.type_expr.TypeExpr.TheVariants as y
use Rattle.cm_tree.specs.declared.shared.Shared.TheVariants as h
use Rattle.cm_tree.specs.declared.decl.Decl.{Decl}
use Rattle.cm_tree.specs.declared.decl.Decl.TheVariants as d
use Rattle.cm_tree.specs.declared.expr.Base.TheBlock.{hidden-the_row-Expr-0, hidden-the_row-Expr-1}
use Rattle.cm_tree.specs.declared.decl.Decl.TheBlock.{hidden-the_row-Decl-0}
use denote.Hole.Carrier.{hidden}
use Rattle.cm_meaning.specs.Scopes.{patch_names, around_space, opened, within, decl_names, decl_names_row, is_space, space_scopes, find_in, outward, onward, find, unit_names}
use Rattle.cm_meaning.specs.Types.{CmType, Single, Array, Record, NoFields, Field, int32, int64, bool, is_same, are_same, times, scalars, scalars_of, flat, flat_of, Number, Truth, copies, zero_of, zeros_of, flat_value, flat_values}
use Rattle.cm_meaning.specs.Conversions.{Valued, converts}
use Rattle.cm_meaning.specs.Constants.{arrays, all_there, elements, field_values, constructed, field_in, element_in, eval, eval_row, base_type, with_fields, field_types, meant}
use Rattle.cm_meaning.proofs.Trees.{at, word, one_name, read, int, let_decl, using_decl, file}

-- ---- expressions of numbers; the places mean nothing here

abbrev num : ℤ → Expr
num z = e.Number (at 1) z false

abbrev long : ℤ → Expr
long z = e.Number (at 1) z true

abbrev minus : Expr → Expr
minus a = e.Unary (at 1) u.Minus a

abbrev op : Binary → Expr → Expr → Expr
op o a c = e.Binary (at 1) o a c

abbrev wrap : ℕ → List Expr → Expr
wrap n args = e.Construct (b.Wrap (at 1) (num (pos n))) [] args

abbrev clamp : ℕ → List Expr → Expr
clamp n args = e.Construct (b.Clamp (at 1) (num (pos n))) [] args

-- int[n](..)
abbrev ints : ℕ → List Expr → Expr
ints n args = e.Construct (b.Int (at 1)) (num (pos n) ∷ []) args

-- in a patch of these declarations, with names meant to a depth of 9
abbrev in_patch : List Decl → Expr → Option Valued
in_patch decls a = eval (around_space (patch_names (file decls)) []) (meant (patch_names (file decls)) [] 9) a

abbrev alone : Expr → Option Valued
alone a = in_patch [] a

abbrev is : CmType → ℤ → Option Valued
is t z = Some (record { ty = t; value = Number z })

abbrev is_truth : Bool → Option Valued
is_truth t = Some (record { ty = bool; value = Truth t })

-- 2147483647 + 1, 2147483647 + 1L, -7 / 2, -7 % 2, 1 << 33, -8 >> 1, -8 >>> 28, 6 & -4
arithmetic_rows : map alone (
    op o.Add (num (pos 2147483647)) (num (pos 1)) ∷ op o.Add (num (pos 2147483647)) (long (pos 1))
    ∷ op o.Divide (minus (num (pos 7))) (num (pos 2)) ∷ op o.Remainder (minus (num (pos 7))) (num (pos 2))
    ∷ op o.ShiftLeft (num (pos 1)) (num (pos 33)) ∷ op o.ShiftRight (minus (num (pos 8))) (num (pos 1)) ∷ op o.ShiftRightZero (minus (num (pos 8))) (num (pos 28))
    ∷ op o.BitAnd (num (pos 6)) (minus (num (pos 4))) ∷ [])
    ≡ is int32 (negsuc 2147483647) ∷ is int64 (pos 2147483648) ∷ is int32 (negsuc 2) ∷ is int32 (negsuc 0)
    ∷ is int32 (pos 2) ∷ is int32 (negsuc 3) ∷ is int32 (pos 15) ∷ is int32 (pos 4) ∷ []
unfolding to_signed to_unsigned floor_modulus to_wrap to_clamp to_bool nearest bitwise_and bitwise_or bitwise_xor bitwise_not truncated_quotient quotient remainder floor_quotient left_shift right_shift zero_filled_shift eval eval_row base_type arrays all_there elements field_values constructed field_in element_in with_fields field_types meant is_same are_same copies zero_of zeros_of opened within decl_names decl_names_row is_space space_scopes find_in outward onward hidden-the_row-Expr-0 hidden-the_row-Expr-1 hidden-the_row-Decl-0 hidden find patch_names unit_names
arithmetic_rows = refl

-- wrap<5>(-1), clamp<5>(9), wrap<5>(4) + 1, wrap<0>(1), 1 / 0, true + 1, !0, 3 < 2L, true == 1, true | false
other_rows : map alone (
    wrap 5 (minus (num (pos 1)) ∷ []) ∷ clamp 5 (num (pos 9) ∷ []) ∷ op o.Add (wrap 5 (num (pos 4) ∷ [])) (num (pos 1)) ∷ wrap 0 (num (pos 1) ∷ [])
    ∷ op o.Divide (num (pos 1)) (num (pos 0)) ∷ op o.Add (e.Truth (at 1) true) (num (pos 1)) ∷ e.Unary (at 1) u.Not (num (pos 0))
    ∷ op o.Less (num (pos 3)) (long (pos 2)) ∷ op o.Equal (e.Truth (at 1) true) (num (pos 1)) ∷ op o.BitOr (e.Truth (at 1) true) (e.Truth (at 1) false) ∷ [])
    ≡ is (Single (kind.Wrap 5)) (pos 4) ∷ is (Single (kind.Clamp 5)) (pos 4) ∷ is int32 (pos 5) ∷ None
    ∷ None ∷ None ∷ is_truth true ∷ is_truth false ∷ None ∷ is_truth true ∷ []
unfolding to_signed to_unsigned floor_modulus to_wrap to_clamp to_bool nearest bitwise_and bitwise_or bitwise_xor bitwise_not truncated_quotient quotient remainder floor_quotient left_shift right_shift zero_filled_shift eval eval_row base_type arrays all_there elements field_values constructed field_in element_in with_fields field_types meant is_same are_same copies zero_of zeros_of opened within decl_names decl_names_row is_space space_scopes find_in outward onward hidden-the_row-Expr-0 hidden-the_row-Expr-1 hidden-the_row-Decl-0 hidden find patch_names unit_names
other_rows = refl

-- int[2](7)[1], int[2](7)[2], int[2](1, 2)[0], int[3](1, 2)[0], int[2]()[1], true ? 1 : 2L, (0 ? 1 : 2), true ? 1 : false
part_rows : map alone (
    e.Index (at 1) (ints 2 (num (pos 7) ∷ [])) (num (pos 1)) ∷ e.Index (at 1) (ints 2 (num (pos 7) ∷ [])) (num (pos 2))
    ∷ e.Index (at 1) (ints 2 (num (pos 1) ∷ num (pos 2) ∷ [])) (num (pos 0)) ∷ e.Index (at 1) (ints 3 (num (pos 1) ∷ num (pos 2) ∷ [])) (num (pos 0))
    ∷ e.Index (at 1) (ints 2 []) (num (pos 1))
    ∷ e.Choice (at 1) (e.Truth (at 1) true) (num (pos 1)) (long (pos 2)) ∷ e.Paren (at 1) (e.Choice (at 1) (num (pos 0)) (num (pos 1)) (num (pos 2)))
    ∷ e.Choice (at 1) (e.Truth (at 1) true) (num (pos 1)) (e.Truth (at 1) false) ∷ [])
    ≡ is int32 (pos 7) ∷ None ∷ is int32 (pos 1) ∷ None ∷ is int32 (pos 0) ∷ is int64 (pos 1) ∷ is int32 (pos 2) ∷ None ∷ []
unfolding to_signed to_unsigned floor_modulus to_wrap to_clamp to_bool nearest bitwise_and bitwise_or bitwise_xor bitwise_not truncated_quotient quotient remainder floor_quotient left_shift right_shift zero_filled_shift eval eval_row base_type arrays all_there elements field_values constructed field_in element_in with_fields field_types meant is_same are_same copies zero_of zeros_of opened within decl_names decl_names_row is_space space_scopes find_in outward onward hidden-the_row-Expr-0 hidden-the_row-Expr-1 hidden-the_row-Decl-0 hidden find patch_names unit_names
part_rows = refl

-- struct S { int x; wrap<5> y; }
abbrev pair : Decl
pair = d.Shared (h.Struct (at 1) (word 8 (codes "S"))
    (record { ty = int 12; names = word 16 (codes "x") ∷ [] } ∷ record { ty = y.Base (b.Wrap (at 19) (num (pos 5))) []; names = word 27 (codes "y") ∷ [] } ∷ []))

abbrev made_pair : List Expr → Expr
made_pair args = e.Call (one_name 1 (codes "S")) args

-- with it: S(1, 4).y, S(1, 5).y, S(1).y, S().y, S(1, 4).z
struct_rows : map (in_patch (pair ∷ [])) (
    e.Field (at 1) (made_pair (num (pos 1) ∷ num (pos 4) ∷ [])) (word 1 (codes "y")) ∷ e.Field (at 1) (made_pair (num (pos 1) ∷ num (pos 5) ∷ [])) (word 1 (codes "y"))
    ∷ e.Field (at 1) (made_pair (num (pos 1) ∷ [])) (word 1 (codes "y")) ∷ e.Field (at 1) (made_pair []) (word 1 (codes "y"))
    ∷ e.Field (at 1) (made_pair (num (pos 1) ∷ num (pos 4) ∷ [])) (word 1 (codes "z")) ∷ [])
    ≡ is (Single (kind.Wrap 5)) (pos 4) ∷ None ∷ None ∷ is (Single (kind.Wrap 5)) (pos 0) ∷ None ∷ []
unfolding to_signed to_unsigned floor_modulus to_wrap to_clamp to_bool nearest bitwise_and bitwise_or bitwise_xor bitwise_not truncated_quotient quotient remainder floor_quotient left_shift right_shift zero_filled_shift eval eval_row base_type arrays all_there elements field_values constructed field_in element_in with_fields field_types meant is_same are_same copies zero_of zeros_of opened within decl_names decl_names_row is_space space_scopes find_in outward onward hidden-the_row-Expr-0 hidden-the_row-Expr-1 hidden-the_row-Decl-0 hidden find patch_names unit_names
struct_rows = refl

-- let b = T(1)[a - 1]; using T = int[a]; let a = 2;
abbrev sizes : List Decl
sizes =
    let_decl 1 (codes "b") (e.Index (at 9) (e.Call (one_name 9 (codes "T")) (num (pos 1) ∷ [])) (op o.Subtract (read 14 (codes "a")) (num (pos 1))))
    ∷ using_decl 22 (codes "T") (y.Base (b.Int (at 32)) (read 36 (codes "a") ∷ []))
    ∷ let_decl 40 (codes "a") (num (pos 2)) ∷ []

-- b, and a constant that needs itself
name_rows : in_patch sizes (read 60 (codes "b")) ∷ in_patch (let_decl 1 (codes "a") (read 9 (codes "a")) ∷ []) (read 12 (codes "a")) ∷ [] ≡ is int32 (pos 1) ∷ None ∷ []
unfolding to_signed to_unsigned floor_modulus to_wrap to_clamp to_bool nearest bitwise_and bitwise_or bitwise_xor bitwise_not truncated_quotient quotient remainder floor_quotient left_shift right_shift zero_filled_shift eval eval_row base_type arrays all_there elements field_values constructed field_in element_in with_fields field_types meant is_same are_same copies zero_of zeros_of opened within decl_names decl_names_row is_space space_scopes find_in outward onward hidden-the_row-Expr-0 hidden-the_row-Expr-1 hidden-the_row-Decl-0 hidden find patch_names unit_names
name_rows = refl

-- ---- types

-- an array of two of such a struct, declared at column 8
abbrev two_pairs : CmType
two_pairs = Array 2 (Record (at 8) (Field (codes "x") int64 (Field (codes "y") bool NoFields)))

two_pairs_scalars : scalars two_pairs ≡ 4
unfolding scalars scalars_of
two_pairs_scalars = refl

two_pairs_flat : flat two_pairs ≡ kind.Int64 ∷ kind.Bool ∷ kind.Int64 ∷ kind.Bool ∷ []
unfolding flat flat_of times
two_pairs_flat = refl

two_pairs_zero : flat_value (zero_of two_pairs) ≡ pos 0 ∷ pos 0 ∷ pos 0 ∷ pos 0 ∷ []
unfolding zero_of zeros_of copies flat_value flat_values to_signed floor_modulus to_bool
two_pairs_zero = refl

-- structs of two declarations are two types, whatever their fields
two_declarations : is_same (Record (at 8) (Field (codes "x") int32 NoFields)) (Record (at 9) (Field (codes "x") int32 NoFields)) ≡ false
unfolding is_same are_same
two_declarations = refl

-- int32 to int64 and back, back as a constant that fits and one that doesn't; wrap<5> to int32, int32 to wrap<5>, 4 and 5 as constants;
-- int32 to bool, bool to int32; wrap<5> to clamp<5>
conversion_rows :
    converts int32 int64 None ∷ converts int64 int32 None ∷ converts int64 int32 (Some (pos 2147483647)) ∷ converts int64 int32 (Some (pos 2147483648))
    ∷ converts (Single (kind.Wrap 5)) int32 None ∷ converts int32 (Single (kind.Wrap 5)) None ∷ converts int32 (Single (kind.Wrap 5)) (Some (pos 4)) ∷ converts int32 (Single (kind.Wrap 5)) (Some (pos 5))
    ∷ converts int32 bool None ∷ converts bool int32 (Some (pos 1)) ∷ converts (Single (kind.Wrap 5)) (Single (kind.Clamp 5)) None ∷ []
    ≡ true ∷ false ∷ true ∷ false ∷ true ∷ false ∷ true ∷ false ∷ true ∷ false ∷ false ∷ []
unfolding is_same are_same to_signed floor_modulus to_wrap
conversion_rows = refl
