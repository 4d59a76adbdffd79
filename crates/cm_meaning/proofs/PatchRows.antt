-- A whole patch, worked by hand: it has no fault of names, and one of types only where it is given a type that doesn't fit.
use Rattle.std.specs.Prelude.{ℕ, ◌≡◌, ◌+◌, refl, false, pos, List, [], ◌∷◌, ◌++◌, map, flat_map, take, Option, Some, None, option_map, codes}
use Rattle.cm_base.specs.declared.cause.Cause.TheVariants as cause
use Rattle.cm_base.specs.declared.host.Flow.TheVariants.{Output}
use Rattle.cm_base.specs.declared.host.Kind.TheVariants.{Stream}
use Rattle.cm_number.specs.Conversion.{floor_modulus, to_signed, to_unsigned, to_wrap, to_clamp, to_bool, nearest}
use Rattle.cm_number.specs.Bitwise.{bitwise_and, bitwise_or, bitwise_xor, bitwise_not}
use Rattle.cm_number.specs.Division.{truncated_quotient, quotient, remainder}
use Rattle.cm_number.specs.Shift.{floor_quotient, left_shift, right_shift, zero_filled_shift}
use Rattle.cm_tree.specs.declared.operator.Binary.TheVariants as o
use Rattle.cm_tree.specs.declared.operator.Assign.TheVariants as a
use Rattle.cm_tree.specs.declared.expr.Expr.{Expr}
use Rattle.cm_tree.specs.declared.expr.Expr.TheVariants as e
use Rattle.cm_tree.specs.declared.expr.Base.TheVariants as b
use Rattle.cm_tree.specs.declared.type_expr.TypeExpr.TheVariants as y
use Rattle.cm_tree.specs.declared.simple.Simple.TheVariants as i
use Rattle.cm_tree.specs.declared.stmt.Stmt.{Stmt}
use Rattle.cm_tree.specs.declared.stmt.Stmt.TheVariants as x
use Rattle.cm_tree.specs.declared.member.Member.{Member}
use Rattle.cm_tree.specs.declared.member.Member.TheVariants as m
use Rattle.cm_tree.specs.declared.decl.Param.TheVariants as q
use Rattle.cm_tree.specs.declared.decl.Decl.TheVariants as d
use Rattle.cm_tree.specs.declared.expr.Base.TheBlock.{hidden-the_row-Expr-0, hidden-the_row-Expr-1}
use Rattle.cm_tree.specs.declared.stmt.Stmt.TheBlock.{hidden-the_row-Stmt-0, hidden-the_row-Stmt-1}
use Rattle.cm_tree.specs.declared.decl.Decl.TheBlock.{hidden-the_row-Decl-0}
use denote.Hole.Carrier.{hidden}
use Rattle.cm_meaning.specs.Instances.{type_arguments, arguments_of}
use Rattle.cm_meaning.specs.Mains.{DeclaredUnit, main_of}
use Rattle.cm_meaning.specs.NameFaults.{site_faults, clashing}
use Rattle.cm_meaning.specs.NameRows.{repeated, rows}
use Rattle.cm_meaning.specs.PatchSites.{patch_sites, given_all, decl_sites, decl_sites_row}
use Rattle.cm_meaning.specs.BodySites.{init_sites, var_sites, stmt_sites, stmts_row, stmts_sites}
use Rattle.cm_meaning.specs.Sites.{expr_sites, expr_sites_row, argument_sites, base_sites}
use Rattle.cm_meaning.specs.Declared.{Declared}
use Rattle.cm_tree.specs.declared.decl.UnitDecl.{UnitDecl}
use Rattle.cm_tree.specs.declared.file.File.{File}
use Rattle.cm_tree.specs.declared.type_expr.Arg.{Arg}
use Rattle.cm_tree.specs.declared.type_expr.Arg.TheVariants as g
use Rattle.cm_tree.specs.declared.decl.Param.{Param}
use Rattle.cm_base.specs.declared.place.Place.{Place}
use Rattle.cm_meaning.specs.Scopes.{patch_names, opened, within, decl_names, decl_names_row, param_names, is_space, space_scopes, declare_all, find_in, outward, onward, find, unit_names, around_home, in_unit}
use Rattle.cm_meaning.specs.Types.{is_same, are_same, scalars, scalars_of, copies, zero_of, zeros_of, int32, CmType, int64, bool, Number}
use Rattle.cm_meaning.specs.Constants.{arrays, all_there, elements, field_values, constructed, field_in, element_in, eval, eval_row, base_type, with_fields, field_types, meant, Meaning, AsType, AsValue}
use Rattle.cm_meaning.specs.TypeOf.{Knowledge, field_type, type_of, is_constant, are_constant}
use Rattle.cm_meaning.specs.Demands.{expr_demands, expr_demands_row, size_demands, base_demands, init_demands, var_demands, steps_of, stmt_demands, stmt_demands_row, stmts_demands}
use Rattle.cm_meaning.specs.Endings.{has_break, has_break_row, surely, surely_row, surely_all}
use Rattle.cm_meaning.specs.TypeRows.{argument_rows, count_fields, element_rows, field_rows, is_stream, type_rows}
use Rattle.cm_meaning.specs.MemberDemands.{own_demands}
use Rattle.cm_meaning.specs.Parameters.{find_key}
use Rattle.cm_meaning.specs.Faults.{Fault, fault}
use Rattle.cm_meaning.proofs.Trees.{at, word, one_name, read, int, named, function, unit, point, link, file}

-- processor P (using T, int n) { output stream int64 out; T s; void main() { loop { s = s + T(2147483647); out <- s * n; advance(); } } }
abbrev params : List Param
params = q.Type (at 14) (word 20 (codes "T")) ∷ q.Value (int 23) (word 27 (codes "n")) ∷ []

abbrev long_output : ℕ → ℕ → List ℕ → Member
long_output column name text =
    m.Ends (at column) Output (record { place = at (column + 7); kind = Stream; ty = y.Base (b.Int64 (at (column + 14))) []; names = record { name = word name text; keys = [] } ∷ [] } ∷ [])

abbrev loop_body : List Stmt
loop_body =
    x.Simple (i.Assign (record { name = word 83 (codes "s"); steps = [] }) a.Set
    (e.Binary (at 87) o.Add (read 87 (codes "s")) (e.Call (one_name 91 (codes "T")) (e.Number (at 93) (pos 2147483647) false ∷ []))))
    ∷ x.Write (word 106 (codes "out")) (e.Binary (at 113) o.Multiply (read 113 (codes "s")) (read 117 (codes "n")))
    ∷ x.Advance (at 120) ∷ []

abbrev generic : UnitDecl
generic = unit 1 11 (codes "P") params [] (
    long_output 32 52 (codes "out")
    ∷ m.State (named 57 (codes "T")) (record { name = word 59 (codes "s"); value = None } ∷ [])
    ∷ m.Function (function 62 (codes "main") [] (x.Loop (at 76) None (x.Block (at 81) loop_body) ∷ [])) ∷ [])

-- graph G [[main]] { output stream int64 wide; output stream int64 narrow; node a = P(int64, 3); node b = P(int, 3)[2];
-- connection { a.out -> wide; b.out -> narrow; } }
abbrev node_of : ℕ → List ℕ → Arg → Option Expr → Member
node_of column name ty count = m.Nodes (at column) (record {
  name = word (column + 5) name;
  path = one_name (column + 9) (codes "P");
  args = ty ∷ g.Value (e.Number (at (column + 18)) (pos 3) false) ∷ [];
  count = count;
  factor = None;
} ∷ [])

abbrev whole : UnitDecl
whole = unit 136 142 (codes "G") [] (record { name = word 146 (codes "main"); value = None } ∷ []) (
    long_output 155 175 (codes "wide") ∷ long_output 181 201 (codes "narrow")
    ∷ node_of 209 (codes "a") (g.Type (b.Int64 (at 220)) []) None ∷ node_of 232 (codes "b") (g.Type (b.Int (at 243)) []) (Some (e.Number (at 252) (pos 2) false))
    ∷ m.Connection (at 256) (
    link 269 (point 269 (codes "a") (Some (word 271 (codes "out")))) (point 278 (codes "wide") None)
    ∷ link 284 (point 284 (codes "b") (Some (word 286 (codes "out")))) (point 293 (codes "narrow") None) ∷ []) ∷ [])

abbrev patch : List File
patch = file (d.Processor generic ∷ d.Graph whole ∷ [])

names_are_right : site_faults patch ++ clashing [] (patch_names patch) ≡ []
unfolding site_faults clashing rows repeated given_all decl_sites decl_sites_row init_sites var_sites stmt_sites stmts_row stmts_sites expr_sites expr_sites_row argument_sites base_sites opened within decl_names decl_names_row param_names is_space space_scopes declare_all find_in outward onward hidden-the_row-Expr-0 hidden-the_row-Expr-1 hidden-the_row-Stmt-0 hidden-the_row-Stmt-1 hidden-the_row-Decl-0 hidden find patch_names unit_names patch_sites main_of
names_are_right = refl

abbrev place_of : DeclaredUnit → Place
place_of x = x.unit.place

main_is : option_map place_of (main_of patch) ≡ Some (at 136)
unfolding site_faults clashing rows repeated given_all decl_sites decl_sites_row init_sites var_sites stmt_sites stmts_row stmts_sites expr_sites expr_sites_row argument_sites base_sites opened within decl_names decl_names_row param_names is_space space_scopes declare_all find_in outward onward hidden-the_row-Expr-0 hidden-the_row-Expr-1 hidden-the_row-Stmt-0 hidden-the_row-Stmt-1 hidden-the_row-Decl-0 hidden find patch_names unit_names patch_sites main_of
main_is = refl

-- what is known in an instance with these arguments; there are no locals
abbrev knows : List Meaning → Knowledge
knows args = record { look = meant (patch_names patch) args 9; local = λ x. None }

abbrev three : Meaning
three = AsValue (record { ty = int32; value = Number (pos 3) })

-- the arguments of P(int64, 3) and of P(int, 3)
arguments_are : map (λ (ty : Arg). arguments_of (around_home (patch_names patch) (in_unit [] whole)) (knows []) (around_home (patch_names patch) (in_unit [] generic))
    (meant (patch_names patch) (type_arguments (around_home (patch_names patch) (in_unit [] whole)) (knows []) params (ty ∷ g.Value (e.Number (at 227) (pos 3) false) ∷ [])) 9)
    params (ty ∷ g.Value (e.Number (at 227) (pos 3) false) ∷ [])) (g.Type (b.Int64 (at 220)) [] ∷ g.Type (b.Int (at 243)) [] ∷ [])
    ≡ (AsType int64 ∷ three ∷ []) ∷ (AsType int32 ∷ three ∷ []) ∷ []
unfolding type_rows to_signed to_unsigned floor_modulus to_wrap to_clamp to_bool nearest bitwise_and bitwise_or bitwise_xor bitwise_not truncated_quotient quotient remainder floor_quotient left_shift right_shift zero_filled_shift opened within decl_names decl_names_row param_names is_space space_scopes declare_all find_in outward onward is_same are_same scalars scalars_of copies zero_of zeros_of arrays all_there elements field_values constructed field_in element_in eval eval_row base_type with_fields field_types meant field_type type_of is_constant are_constant expr_demands expr_demands_row size_demands base_demands init_demands var_demands steps_of stmt_demands stmt_demands_row stmts_demands has_break has_break_row surely surely_row surely_all argument_rows count_fields element_rows field_rows is_stream find_key hidden-the_row-Expr-0 hidden-the_row-Expr-1 hidden-the_row-Stmt-0 hidden-the_row-Stmt-1 hidden-the_row-Decl-0 hidden find patch_names unit_names own_demands type_arguments arguments_of
arguments_are = refl

-- the faults of P with a type for T
abbrev with_type : CmType → List Fault
with_type t = flat_map (λ (x : Declared). flat_map (type_rows (knows (AsType t ∷ three ∷ []))) (own_demands (patch_names patch) x)) (take 1 (patch_names patch))

types_are_right : map with_type (int64 ∷ int32 ∷ []) ≡ [] ∷ [] ∷ []
unfolding type_rows to_signed to_unsigned floor_modulus to_wrap to_clamp to_bool nearest bitwise_and bitwise_or bitwise_xor bitwise_not truncated_quotient quotient remainder floor_quotient left_shift right_shift zero_filled_shift opened within decl_names decl_names_row param_names is_space space_scopes declare_all find_in outward onward is_same are_same scalars scalars_of copies zero_of zeros_of arrays all_there elements field_values constructed field_in element_in eval eval_row base_type with_fields field_types meant field_type type_of is_constant are_constant expr_demands expr_demands_row size_demands base_demands init_demands var_demands steps_of stmt_demands stmt_demands_row stmts_demands has_break has_break_row surely surely_row surely_all argument_rows count_fields element_rows field_rows is_stream find_key hidden-the_row-Expr-0 hidden-the_row-Expr-1 hidden-the_row-Stmt-0 hidden-the_row-Stmt-1 hidden-the_row-Decl-0 hidden find patch_names unit_names own_demands type_arguments arguments_of
types_are_right = refl

-- two truth values have no sum, and a truth value and a number no product
types_are_wrong : with_type bool ≡ fault cause.TypeMismatch (at 87) ∷ fault cause.TypeMismatch (at 113) ∷ []
unfolding type_rows to_signed to_unsigned floor_modulus to_wrap to_clamp to_bool nearest bitwise_and bitwise_or bitwise_xor bitwise_not truncated_quotient quotient remainder floor_quotient left_shift right_shift zero_filled_shift opened within decl_names decl_names_row param_names is_space space_scopes declare_all find_in outward onward is_same are_same scalars scalars_of copies zero_of zeros_of arrays all_there elements field_values constructed field_in element_in eval eval_row base_type with_fields field_types meant field_type type_of is_constant are_constant expr_demands expr_demands_row size_demands base_demands init_demands var_demands steps_of stmt_demands stmt_demands_row stmts_demands has_break has_break_row surely surely_row surely_all argument_rows count_fields element_rows field_rows is_stream find_key hidden-the_row-Expr-0 hidden-the_row-Expr-1 hidden-the_row-Stmt-0 hidden-the_row-Stmt-1 hidden-the_row-Decl-0 hidden find patch_names unit_names own_demands type_arguments arguments_of
types_are_wrong = refl
