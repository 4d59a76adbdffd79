-- The faults of types in small functions, worked by hand. All locals and parameters here are int32.
use Rattle.std.specs.Prelude.{ℕ, ◌≡◌, refl, true, false, ℤ, pos, List, [], ◌∷◌, map, flat_map, Option, Some, None, codes}
use Rattle.cm_base.specs.declared.cause.Cause.TheVariants as cause
use Rattle.cm_base.specs.declared.host.Flow.TheVariants.{Input}
use Rattle.cm_base.specs.declared.host.Kind.TheVariants.{Stream, Value}
use Rattle.cm_number.specs.Conversion.{floor_modulus, to_signed, to_unsigned, to_wrap, to_clamp, to_bool, nearest}
use Rattle.cm_number.specs.Bitwise.{bitwise_and, bitwise_or, bitwise_xor, bitwise_not}
use Rattle.cm_number.specs.Division.{truncated_quotient, quotient, remainder}
use Rattle.cm_number.specs.Shift.{floor_quotient, left_shift, right_shift, zero_filled_shift}
use Rattle.cm_tree.specs.declared.operator.Binary.TheVariants as o
use Rattle.cm_tree.specs.declared.operator.Assign.TheVariants as a
use Rattle.cm_tree.specs.declared.operator.Change.TheVariants as c
use Rattle.cm_tree.specs.declared.expr.Expr.{Expr}
use Rattle.cm_tree.specs.declared.expr.Expr.TheVariants as e
use Rattle.cm_tree.specs.declared.expr.Base.TheVariants as b
use Rattle.cm_tree.specs.declared.type_expr.TypeExpr.{TypeExpr}
use Rattle.cm_tree.specs.declared.type_expr.TypeExpr.TheVariants as y
use Rattle.cm_tree.specs.declared.simple.Local.TheVariants as l
use Rattle.cm_tree.specs.declared.simple.Simple.TheVariants as i
use Rattle.cm_tree.specs.declared.stmt.Stmt.{Stmt}
use Rattle.cm_tree.specs.declared.stmt.Stmt.TheVariants as x
use Rattle.cm_tree.specs.declared.shared.Shared.TheVariants as h
use Rattle.cm_tree.specs.declared.member.Key.{Key}
use Rattle.cm_tree.specs.declared.member.KeyValue.TheVariants as kv
use Rattle.cm_tree.specs.declared.member.Member.TheVariants as m
use Rattle.cm_tree.specs.declared.decl.Param.TheVariants as q
use Rattle.cm_tree.specs.declared.decl.Decl.{Decl}
use Rattle.cm_tree.specs.declared.decl.Decl.TheVariants as d
use Rattle.cm_tree.specs.declared.expr.Base.TheBlock.{hidden-the_row-Expr-0, hidden-the_row-Expr-1}
use Rattle.cm_tree.specs.declared.stmt.Stmt.TheBlock.{hidden-the_row-Stmt-0, hidden-the_row-Stmt-1}
use Rattle.cm_tree.specs.declared.decl.Decl.TheBlock.{hidden-the_row-Decl-0}
use denote.Hole.Carrier.{hidden}
use Rattle.cm_meaning.specs.Declared.{Declared}
use Rattle.cm_meaning.specs.Scopes.{patch_names, around_space, opened, within, decl_names, decl_names_row, param_names, is_space, space_scopes, declare_all, find_in, outward, onward, find, unit_names}
use Rattle.cm_meaning.specs.Types.{is_same, are_same, scalars, scalars_of, copies, zero_of, zeros_of, int32}
use Rattle.cm_meaning.specs.Constants.{arrays, all_there, elements, field_values, constructed, field_in, element_in, eval, eval_row, base_type, with_fields, field_types, meant}
use Rattle.cm_meaning.specs.TypeOf.{Knowledge, field_type, type_of, is_constant, are_constant}
use Rattle.cm_meaning.specs.Demands.{expr_demands, expr_demands_row, size_demands, base_demands, init_demands, var_demands, steps_of, stmt_demands, stmt_demands_row, stmts_demands}
use Rattle.cm_meaning.specs.Endings.{has_break, has_break_row, surely, surely_row, surely_all}
use Rattle.cm_meaning.specs.TypeRows.{argument_rows, count_fields, element_rows, field_rows, is_stream, type_rows}
use Rattle.cm_meaning.specs.MemberDemands.{own_demands}
use Rattle.cm_meaning.specs.Parameters.{find_key, end_faults}
use Rattle.cm_meaning.specs.Faults.{Fault, fault}
use Rattle.cm_meaning.proofs.Trees.{named, at, word, one_name, read, int, int_local, assign, function, void_decl, unit, file, faulty}

abbrev knows : List Declared → Knowledge
knows all = record { look = meant all [] 9; local = λ x. Some int32 }

-- of all declarations of namespaces of a patch
abbrev faults_of : List Decl → List Fault
faults_of decls = flat_map (λ (x : Declared). flat_map (type_rows (knows (patch_names (file decls)))) (own_demands (patch_names (file decls)) x)) (patch_names (file decls))

-- of `void f() { .. }`, of some statements
abbrev in_body : List Stmt → List Fault
in_body all = faults_of (void_decl 1 (codes "f") all ∷ [])

abbrev number_at : ℕ → ℤ → Expr
number_at column z = e.Number (at column) z false

abbrev long_at : ℕ → ℤ → Expr
long_at column z = e.Number (at column) z true

abbrev yes_at : ℕ → Expr
yes_at column = e.Truth (at column) true

-- int x = true;, int x = 4294967296;, int x = 4L;, bool y = 3;, wrap<5> w = 5;
abbrev typed_at : TypeExpr → Expr → Stmt
typed_at ty value = x.Local (l.Typed ty (record { name = word 16 (codes "x"); value = Some value } ∷ []))

initial_values : map in_body (
    (int_local 12 (codes "x") (Some (yes_at 20)) ∷ []) ∷ (int_local 12 (codes "x") (Some (long_at 20 (pos 4294967296))) ∷ []) ∷ (int_local 12 (codes "x") (Some (long_at 20 (pos 4))) ∷ [])
    ∷ (typed_at (y.Base (b.Bool (at 12)) []) (number_at 21 (pos 3)) ∷ []) ∷ (typed_at (y.Base (b.Wrap (at 12) (number_at 17 (pos 5))) []) (number_at 24 (pos 5)) ∷ []) ∷ [])
    ≡ faulty cause.TypeMismatch 20 ∷ faulty cause.TypeMismatch 20 ∷ [] ∷ [] ∷ faulty cause.TypeMismatch 24 ∷ []
unfolding type_rows to_signed to_unsigned floor_modulus to_wrap to_clamp to_bool nearest bitwise_and bitwise_or bitwise_xor bitwise_not truncated_quotient quotient remainder floor_quotient left_shift right_shift zero_filled_shift opened within decl_names decl_names_row param_names is_space space_scopes declare_all find_in outward onward is_same are_same scalars scalars_of copies zero_of zeros_of arrays all_there elements field_values constructed field_in element_in eval eval_row base_type with_fields field_types meant field_type type_of is_constant are_constant expr_demands expr_demands_row size_demands base_demands init_demands var_demands steps_of stmt_demands stmt_demands_row stmts_demands has_break has_break_row surely surely_row surely_all argument_rows count_fields element_rows field_rows is_stream find_key hidden-the_row-Expr-0 hidden-the_row-Expr-1 hidden-the_row-Stmt-0 hidden-the_row-Stmt-1 hidden-the_row-Decl-0 hidden find patch_names unit_names own_demands
initial_values = refl

-- using T = int; void f() { T T = 1, b = true; }: the type is that of the place where it is written
hidden_type : faults_of (
    d.Shared (h.Using (at 1) (word 7 (codes "T")) (int 11))
    ∷ void_decl 16 (codes "f") (x.Local (l.Typed (named 27 (codes "T")) (
    record { name = word 29 (codes "T"); value = Some (number_at 33 (pos 1)) } ∷ record { name = word 36 (codes "b"); value = Some (yes_at 40) } ∷ [])) ∷ []) ∷ [])
    ≡ faulty cause.TypeMismatch 40
unfolding type_rows to_signed to_unsigned floor_modulus to_wrap to_clamp to_bool nearest bitwise_and bitwise_or bitwise_xor bitwise_not truncated_quotient quotient remainder floor_quotient left_shift right_shift zero_filled_shift opened within decl_names decl_names_row param_names is_space space_scopes declare_all find_in outward onward is_same are_same scalars scalars_of copies zero_of zeros_of arrays all_there elements field_values constructed field_in element_in eval eval_row base_type with_fields field_types meant field_type type_of is_constant are_constant expr_demands expr_demands_row size_demands base_demands init_demands var_demands steps_of stmt_demands stmt_demands_row stmts_demands has_break has_break_row surely surely_row surely_all argument_rows count_fields element_rows field_rows is_stream find_key hidden-the_row-Expr-0 hidden-the_row-Expr-1 hidden-the_row-Stmt-0 hidden-the_row-Stmt-1 hidden-the_row-Decl-0 hidden find patch_names unit_names own_demands
hidden_type = refl

-- behind int x;: x = x / x;, x = x / 0;, x += true;, x[0] = 1;, x.y = 1;, x = f();, ++x;
abbrev behind_x : Stmt → List Stmt
behind_x a = int_local 12 (codes "x") None ∷ a ∷ []

operations : map in_body (
    behind_x (assign 19 (codes "x") (e.Binary (at 23) o.Divide (read 23 (codes "x")) (read 27 (codes "x"))))
    ∷ behind_x (assign 19 (codes "x") (e.Binary (at 23) o.Divide (read 23 (codes "x")) (number_at 27 (pos 0))))
    ∷ behind_x (x.Simple (i.Assign (record { name = word 19 (codes "x"); steps = [] }) a.Add (yes_at 24)))
    ∷ behind_x (assign 19 (codes "x") (e.Index (at 23) (read 23 (codes "x")) (number_at 25 (pos 0))))
    ∷ behind_x (assign 19 (codes "x") (e.Field (at 23) (read 23 (codes "x")) (word 25 (codes "y"))))
    ∷ behind_x (assign 19 (codes "x") (e.Call (one_name 23 (codes "f")) []))
    ∷ behind_x (x.Simple (i.Before (at 19) c.Increase (record { name = word 21 (codes "x"); steps = [] }))) ∷ [])
    ≡ faulty cause.DivisorNotConstant 27 ∷ faulty cause.DivideByZero 27 ∷ faulty cause.TypeMismatch 19 ∷ faulty cause.NotIndexable 23
    ∷ faulty cause.NoMember 25 ∷ faulty cause.TypeMismatch 23 ∷ [] ∷ []
unfolding type_rows to_signed to_unsigned floor_modulus to_wrap to_clamp to_bool nearest bitwise_and bitwise_or bitwise_xor bitwise_not truncated_quotient quotient remainder floor_quotient left_shift right_shift zero_filled_shift opened within decl_names decl_names_row param_names is_space space_scopes declare_all find_in outward onward is_same are_same scalars scalars_of copies zero_of zeros_of arrays all_there elements field_values constructed field_in element_in eval eval_row base_type with_fields field_types meant field_type type_of is_constant are_constant expr_demands expr_demands_row size_demands base_demands init_demands var_demands steps_of stmt_demands stmt_demands_row stmts_demands has_break has_break_row surely surely_row surely_all argument_rows count_fields element_rows field_rows is_stream find_key hidden-the_row-Expr-0 hidden-the_row-Expr-1 hidden-the_row-Stmt-0 hidden-the_row-Stmt-1 hidden-the_row-Decl-0 hidden find patch_names unit_names own_demands
operations = refl

-- false && 1 / 0 == 0: a part that is never evaluated is at fault too
never_evaluated : in_body (x.If (at 12) (e.Binary (at 16) o.And (e.Truth (at 16) false)
    (e.Binary (at 25) o.Equal (e.Binary (at 25) o.Divide (number_at 25 (pos 1)) (number_at 29 (pos 0))) (number_at 34 (pos 0)))) (x.Empty (at 37)) ∷ []) ≡ faulty cause.DivideByZero 29
unfolding type_rows to_signed to_unsigned floor_modulus to_wrap to_clamp to_bool nearest bitwise_and bitwise_or bitwise_xor bitwise_not truncated_quotient quotient remainder floor_quotient left_shift right_shift zero_filled_shift opened within decl_names decl_names_row param_names is_space space_scopes declare_all find_in outward onward is_same are_same scalars scalars_of copies zero_of zeros_of arrays all_there elements field_values constructed field_in element_in eval eval_row base_type with_fields field_types meant field_type type_of is_constant are_constant expr_demands expr_demands_row size_demands base_demands init_demands var_demands steps_of stmt_demands stmt_demands_row stmts_demands has_break has_break_row surely surely_row surely_all argument_rows count_fields element_rows field_rows is_stream find_key hidden-the_row-Expr-0 hidden-the_row-Expr-1 hidden-the_row-Stmt-0 hidden-the_row-Stmt-1 hidden-the_row-Decl-0 hidden find patch_names unit_names own_demands
never_evaluated = refl

-- int[2](1)[1], int[2](1)[2], int[2](1, 2, 3), int[1]() as a condition, and f(1) of void f() and wrap<5>(true)
abbrev int2 : List Expr → Expr
int2 args = e.Construct (b.Int (at 16)) (number_at 20 (pos 2) ∷ []) args

parts : map (λ (a : Expr). in_body (x.If (at 12) a (x.Empty (at 40)) ∷ [])) (
    e.Index (at 16) (int2 (number_at 23 (pos 1) ∷ [])) (number_at 26 (pos 1)) ∷ e.Index (at 16) (int2 (number_at 23 (pos 1) ∷ [])) (number_at 26 (pos 2))
    ∷ e.Index (at 16) (int2 (number_at 23 (pos 1) ∷ number_at 26 (pos 2) ∷ number_at 29 (pos 3) ∷ [])) (number_at 32 (pos 0)) ∷ int2 []
    ∷ e.Construct (b.Wrap (at 16) (number_at 21 (pos 5))) [] (yes_at 24 ∷ []) ∷ [])
    ≡ [] ∷ faulty cause.IndexRange 26 ∷ faulty cause.ConstructCount 16 ∷ faulty cause.TypeMismatch 16 ∷ [] ∷ []
unfolding type_rows to_signed to_unsigned floor_modulus to_wrap to_clamp to_bool nearest bitwise_and bitwise_or bitwise_xor bitwise_not truncated_quotient quotient remainder floor_quotient left_shift right_shift zero_filled_shift opened within decl_names decl_names_row param_names is_space space_scopes declare_all find_in outward onward is_same are_same scalars scalars_of copies zero_of zeros_of arrays all_there elements field_values constructed field_in element_in eval eval_row base_type with_fields field_types meant field_type type_of is_constant are_constant expr_demands expr_demands_row size_demands base_demands init_demands var_demands steps_of stmt_demands stmt_demands_row stmts_demands has_break has_break_row surely surely_row surely_all argument_rows count_fields element_rows field_rows is_stream find_key hidden-the_row-Expr-0 hidden-the_row-Expr-1 hidden-the_row-Stmt-0 hidden-the_row-Stmt-1 hidden-the_row-Decl-0 hidden find patch_names unit_names own_demands
parts = refl

-- static_assert(false);, static_assert(true);, int x; static_assert(x);
asserts : map in_body (
    (x.Assert (record { place = at 12; condition = e.Truth (at 26) false; text = None }) ∷ []) ∷ (x.Assert (record { place = at 12; condition = yes_at 26; text = None }) ∷ [])
    ∷ behind_x (x.Assert (record { place = at 19; condition = read 33 (codes "x"); text = None })) ∷ [])
    ≡ faulty cause.AssertFailed 26 ∷ [] ∷ faulty cause.NotConstant 33 ∷ []
unfolding type_rows to_signed to_unsigned floor_modulus to_wrap to_clamp to_bool nearest bitwise_and bitwise_or bitwise_xor bitwise_not truncated_quotient quotient remainder floor_quotient left_shift right_shift zero_filled_shift opened within decl_names decl_names_row param_names is_space space_scopes declare_all find_in outward onward is_same are_same scalars scalars_of copies zero_of zeros_of arrays all_there elements field_values constructed field_in element_in eval eval_row base_type with_fields field_types meant field_type type_of is_constant are_constant expr_demands expr_demands_row size_demands base_demands init_demands var_demands steps_of stmt_demands stmt_demands_row stmts_demands has_break has_break_row surely surely_row surely_all argument_rows count_fields element_rows field_rows is_stream find_key hidden-the_row-Expr-0 hidden-the_row-Expr-1 hidden-the_row-Stmt-0 hidden-the_row-Stmt-1 hidden-the_row-Decl-0 hidden find patch_names unit_names own_demands
asserts = refl

-- int[0] a;, int[1048576] a;, int[1048577] a;, wrap<0> a;, and int x; int[x] a;
abbrev array_local : Expr → Stmt
array_local size = x.Local (l.Typed (y.Base (b.Int (at 12)) (size ∷ [])) (record { name = word 30 (codes "a"); value = None } ∷ []))

sizes : map in_body (
    (array_local (number_at 16 (pos 0)) ∷ []) ∷ (array_local (number_at 16 (pos 1048576)) ∷ []) ∷ (array_local (number_at 16 (pos 1048577)) ∷ [])
    ∷ (x.Local (l.Typed (y.Base (b.Wrap (at 12) (number_at 17 (pos 0))) []) (record { name = word 20 (codes "a"); value = None } ∷ [])) ∷ [])
    ∷ behind_x (array_local (read 23 (codes "x"))) ∷ [])
    ≡ faulty cause.SizeRange 16 ∷ [] ∷ faulty cause.TooManyElements 12 ∷ faulty cause.SizeRange 17 ∷ faulty cause.NotConstant 23 ∷ []
unfolding type_rows to_signed to_unsigned floor_modulus to_wrap to_clamp to_bool nearest bitwise_and bitwise_or bitwise_xor bitwise_not truncated_quotient quotient remainder floor_quotient left_shift right_shift zero_filled_shift opened within decl_names decl_names_row param_names is_space space_scopes declare_all find_in outward onward is_same are_same scalars scalars_of copies zero_of zeros_of arrays all_there elements field_values constructed field_in element_in eval eval_row base_type with_fields field_types meant field_type type_of is_constant are_constant expr_demands expr_demands_row size_demands base_demands init_demands var_demands steps_of stmt_demands stmt_demands_row stmts_demands has_break has_break_row surely surely_row surely_all argument_rows count_fields element_rows field_rows is_stream find_key hidden-the_row-Expr-0 hidden-the_row-Expr-1 hidden-the_row-Stmt-0 hidden-the_row-Stmt-1 hidden-the_row-Decl-0 hidden find patch_names unit_names own_demands
sizes = refl

-- for (int i) ;, for (wrap<4> i) ;
counters : map in_body (
    (x.ForType (at 12) (int 17) (word 21 (codes "i")) (x.Empty (at 24)) ∷ []) ∷ (x.ForType (at 12) (y.Base (b.Wrap (at 17) (number_at 22 (pos 4))) []) (word 25 (codes "i")) (x.Empty (at 28)) ∷ []) ∷ [])
    ≡ faulty cause.TypeMismatch 17 ∷ [] ∷ []
unfolding type_rows to_signed to_unsigned floor_modulus to_wrap to_clamp to_bool nearest bitwise_and bitwise_or bitwise_xor bitwise_not truncated_quotient quotient remainder floor_quotient left_shift right_shift zero_filled_shift opened within decl_names decl_names_row param_names is_space space_scopes declare_all find_in outward onward is_same are_same scalars scalars_of copies zero_of zeros_of arrays all_there elements field_values constructed field_in element_in eval eval_row base_type with_fields field_types meant field_type type_of is_constant are_constant expr_demands expr_demands_row size_demands base_demands init_demands var_demands steps_of stmt_demands stmt_demands_row stmts_demands has_break has_break_row surely surely_row surely_all argument_rows count_fields element_rows field_rows is_stream find_key hidden-the_row-Expr-0 hidden-the_row-Expr-1 hidden-the_row-Stmt-0 hidden-the_row-Stmt-1 hidden-the_row-Decl-0 hidden find patch_names unit_names own_demands
counters = refl

-- ---- functions

-- int f() { .. } of some statements
abbrev int_decl : List Stmt → List Decl
int_decl all = d.Function (record { place = at 1; result = Some (int 1); name = word 5 (codes "f"); params = []; body = record { place = at 9; stmts = all } }) ∷ []

abbrev return_at : ℕ → Option Expr → Stmt
return_at column value = x.Return (at column) value

-- { }, { return 1; }, { return; }, { return true; }, { if (true) return 1; else return 2; }, { if (true) return 1; }, { loop { } }, { loop break; },
-- { loop { loop break; } }, and void f() { return 1; }
endings : map faults_of (
    int_decl [] ∷ int_decl (return_at 11 (Some (number_at 18 (pos 1))) ∷ []) ∷ int_decl (return_at 11 None ∷ []) ∷ int_decl (return_at 11 (Some (yes_at 18)) ∷ [])
    ∷ int_decl (x.IfElse (at 11) (yes_at 15) (return_at 21 (Some (number_at 28 (pos 1)))) (return_at 36 (Some (number_at 43 (pos 2)))) ∷ [])
    ∷ int_decl (x.If (at 11) (yes_at 15) (return_at 21 (Some (number_at 28 (pos 1)))) ∷ [])
    ∷ int_decl (x.Loop (at 11) None (x.Block (at 16) []) ∷ []) ∷ int_decl (x.Loop (at 11) None (x.Break (at 16)) ∷ [])
    ∷ int_decl (x.Loop (at 11) None (x.Block (at 16) (x.Loop (at 18) None (x.Break (at 23)) ∷ [])) ∷ [])
    ∷ (void_decl 1 (codes "f") (return_at 12 (Some (number_at 19 (pos 1))) ∷ []) ∷ []) ∷ [])
    ≡ faulty cause.MissingReturn 5 ∷ [] ∷ faulty cause.TypeMismatch 11 ∷ faulty cause.TypeMismatch 18 ∷ [] ∷ faulty cause.MissingReturn 5
    ∷ [] ∷ faulty cause.MissingReturn 5 ∷ [] ∷ faulty cause.TypeMismatch 12 ∷ []
unfolding type_rows to_signed to_unsigned floor_modulus to_wrap to_clamp to_bool nearest bitwise_and bitwise_or bitwise_xor bitwise_not truncated_quotient quotient remainder floor_quotient left_shift right_shift zero_filled_shift opened within decl_names decl_names_row param_names is_space space_scopes declare_all find_in outward onward is_same are_same scalars scalars_of copies zero_of zeros_of arrays all_there elements field_values constructed field_in element_in eval eval_row base_type with_fields field_types meant field_type type_of is_constant are_constant expr_demands expr_demands_row size_demands base_demands init_demands var_demands steps_of stmt_demands stmt_demands_row stmts_demands has_break has_break_row surely surely_row surely_all argument_rows count_fields element_rows field_rows is_stream find_key hidden-the_row-Expr-0 hidden-the_row-Expr-1 hidden-the_row-Stmt-0 hidden-the_row-Stmt-1 hidden-the_row-Decl-0 hidden find patch_names unit_names own_demands
endings = refl

-- using T = int; void f(int x) { f(true); T(1); f(1); }
arguments : faults_of (
    d.Shared (h.Using (at 1) (word 7 (codes "T")) (int 11))
    ∷ d.Function (function 16 (codes "f") (record { ty = int 23; name = word 27 (codes "x") } ∷ []) (
    x.Simple (i.Call (one_name 32 (codes "f")) (yes_at 34 ∷ [])) ∷ x.Simple (i.Call (one_name 41 (codes "T")) (number_at 43 (pos 1) ∷ []))
    ∷ x.Simple (i.Call (one_name 47 (codes "f")) (number_at 49 (pos 1) ∷ [])) ∷ [])) ∷ [])
    ≡ fault cause.TypeMismatch (at 34) ∷ fault cause.NotStatement (at 41) ∷ []
unfolding type_rows to_signed to_unsigned floor_modulus to_wrap to_clamp to_bool nearest bitwise_and bitwise_or bitwise_xor bitwise_not truncated_quotient quotient remainder floor_quotient left_shift right_shift zero_filled_shift opened within decl_names decl_names_row param_names is_space space_scopes declare_all find_in outward onward is_same are_same scalars scalars_of copies zero_of zeros_of arrays all_there elements field_values constructed field_in element_in eval eval_row base_type with_fields field_types meant field_type type_of is_constant are_constant expr_demands expr_demands_row size_demands base_demands init_demands var_demands steps_of stmt_demands stmt_demands_row stmts_demands has_break has_break_row surely surely_row surely_all argument_rows count_fields element_rows field_rows is_stream find_key hidden-the_row-Expr-0 hidden-the_row-Expr-1 hidden-the_row-Stmt-0 hidden-the_row-Stmt-1 hidden-the_row-Decl-0 hidden find patch_names unit_names own_demands
arguments = refl

-- ---- members and parameters

-- processor P (bool a, wrap<4> b) { input stream bool c; input stream int[2] d; int s = true; processor.latency = 65537; }
members : faults_of (d.Processor (unit 1 11 (codes "P")
    (q.Value (y.Base (b.Bool (at 14)) []) (word 19 (codes "a")) ∷ q.Value (y.Base (b.Wrap (at 22) (number_at 27 (pos 4))) []) (word 30 (codes "b")) ∷ []) [] (
    m.Ends (at 35) Input (record { place = at 41; kind = Stream; ty = y.Base (b.Bool (at 48)) []; names = record { name = word 53 (codes "c"); keys = [] } ∷ [] } ∷ [])
    ∷ m.Ends (at 56) Input (record { place = at 62; kind = Stream; ty = y.Base (b.Int (at 69)) (number_at 73 (pos 2) ∷ []); names = record { name = word 76 (codes "d"); keys = [] } ∷ [] } ∷ [])
    ∷ m.State (int 79) (record { name = word 83 (codes "s"); value = Some (yes_at 87) } ∷ [])
    ∷ m.Latency (at 93) (number_at 113 (pos 65537)) ∷ [])) ∷ [])
    ≡ fault cause.ParameterKind (at 22) ∷ fault cause.StreamType (at 48) ∷ fault cause.TypeMismatch (at 87) ∷ fault cause.LatencyRange (at 113) ∷ []
unfolding type_rows to_signed to_unsigned floor_modulus to_wrap to_clamp to_bool nearest bitwise_and bitwise_or bitwise_xor bitwise_not truncated_quotient quotient remainder floor_quotient left_shift right_shift zero_filled_shift opened within decl_names decl_names_row param_names is_space space_scopes declare_all find_in outward onward is_same are_same scalars scalars_of copies zero_of zeros_of arrays all_there elements field_values constructed field_in element_in eval eval_row base_type with_fields field_types meant field_type type_of is_constant are_constant expr_demands expr_demands_row size_demands base_demands init_demands var_demands steps_of stmt_demands stmt_demands_row stmts_demands has_break has_break_row surely surely_row surely_all argument_rows count_fields element_rows field_rows is_stream find_key hidden-the_row-Expr-0 hidden-the_row-Expr-1 hidden-the_row-Stmt-0 hidden-the_row-Stmt-1 hidden-the_row-Decl-0 hidden find patch_names unit_names own_demands
members = refl

abbrev key : List ℕ → ℤ → Key
key name z = record { name = word 5 name; value = Some (kv.Value (number_at 9 z)) }

abbrev name_key : Key
name_key = record { name = word 3 (codes "name"); value = None }

-- an input value of type int called p with these keys; then one of type bool; then an output
abbrev of_keys : List Key → List Fault
of_keys keys = end_faults (around_space [] []) (knows []) Input Value (int 1) (record { name = word 8 (codes "p"); keys = keys })

-- min 5 alone starts at 5; min 5 and max 4; init above max; min above int32
ranges : map of_keys (
    (name_key ∷ key (codes "min") (pos 5) ∷ []) ∷ (name_key ∷ key (codes "min") (pos 5) ∷ key (codes "max") (pos 4) ∷ [])
    ∷ (name_key ∷ key (codes "max") (pos 4) ∷ key (codes "init") (pos 5) ∷ []) ∷ (name_key ∷ key (codes "max") (pos 2147483648) ∷ [])
    ∷ (key (codes "min") (pos 5) ∷ key (codes "max") (pos 4) ∷ []) ∷ (name_key ∷ record { name = word 5 (codes "min"); value = None } ∷ []) ∷ [])
    ≡ [] ∷ faulty cause.ParameterRange 8 ∷ faulty cause.ParameterRange 8 ∷ faulty cause.ParameterRange 8 ∷ [] ∷ faulty cause.NotConstant 5 ∷ []
unfolding type_rows to_signed to_unsigned floor_modulus to_wrap to_clamp to_bool nearest bitwise_and bitwise_or bitwise_xor bitwise_not truncated_quotient quotient remainder floor_quotient left_shift right_shift zero_filled_shift opened within decl_names decl_names_row param_names is_space space_scopes declare_all find_in outward onward is_same are_same scalars scalars_of copies zero_of zeros_of arrays all_there elements field_values constructed field_in element_in eval eval_row base_type with_fields field_types meant field_type type_of is_constant are_constant expr_demands expr_demands_row size_demands base_demands init_demands var_demands steps_of stmt_demands stmt_demands_row stmts_demands has_break has_break_row surely surely_row surely_all argument_rows count_fields element_rows field_rows is_stream find_key hidden-the_row-Expr-0 hidden-the_row-Expr-1 hidden-the_row-Stmt-0 hidden-the_row-Stmt-1 hidden-the_row-Decl-0 hidden find patch_names unit_names own_demands
ranges = refl

bool_parameter : end_faults (around_space [] []) (knows []) Input Value (y.Base (b.Bool (at 1)) []) (record { name = word 8 (codes "p"); keys = name_key ∷ [] }) ≡ faulty cause.ParameterType 8
unfolding type_rows to_signed to_unsigned floor_modulus to_wrap to_clamp to_bool nearest bitwise_and bitwise_or bitwise_xor bitwise_not truncated_quotient quotient remainder floor_quotient left_shift right_shift zero_filled_shift opened within decl_names decl_names_row param_names is_space space_scopes declare_all find_in outward onward is_same are_same scalars scalars_of copies zero_of zeros_of arrays all_there elements field_values constructed field_in element_in eval eval_row base_type with_fields field_types meant field_type type_of is_constant are_constant expr_demands expr_demands_row size_demands base_demands init_demands var_demands steps_of stmt_demands stmt_demands_row stmts_demands has_break has_break_row surely surely_row surely_all argument_rows count_fields element_rows field_rows is_stream find_key hidden-the_row-Expr-0 hidden-the_row-Expr-1 hidden-the_row-Stmt-0 hidden-the_row-Stmt-1 hidden-the_row-Decl-0 hidden find patch_names unit_names own_demands
bool_parameter = refl
