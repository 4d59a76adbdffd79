-- The types of the arms of `?:`, which come from how locals are declared, worked by hand.
use Rattle.std.specs.Prelude.{ℕ, ◌≡◌, refl, true, pos, List, [], ◌∷◌, Some, codes}
use Rattle.cm_base.specs.Players.{stops, Ended}
use Rattle.cm_base.specs.declared.host.Flow.TheVariants as flow
use Rattle.cm_base.specs.declared.host.Kind.TheVariants as kind
use Rattle.cm_number.specs.Conversion.{floor_modulus, to_signed, to_unsigned, to_wrap, to_clamp, to_bool, nearest}
use Rattle.cm_tree.specs.declared.operator.Binary.TheVariants as o
use Rattle.cm_tree.specs.declared.expr.Expr.TheVariants as e
use Rattle.cm_tree.specs.declared.expr.Base.TheVariants as b
use Rattle.cm_tree.specs.declared.type_expr.TypeExpr.{TypeExpr}
use Rattle.cm_tree.specs.declared.type_expr.TypeExpr.TheVariants as y
use Rattle.cm_tree.specs.declared.member.Member.TheVariants as m
use Rattle.cm_tree.specs.declared.decl.Decl.{Decl}
use Rattle.cm_tree.specs.declared.expr.Base.TheBlock.{hidden-the_row-Expr-0, hidden-the_row-Expr-1}
use Rattle.cm_tree.specs.declared.stmt.Stmt.TheBlock.{hidden-the_row-Stmt-0, hidden-the_row-Stmt-1}
use Rattle.cm_tree.specs.declared.decl.Decl.TheBlock.{hidden-the_row-Decl-0}
use denote.Hole.Carrier.{hidden}
use Rattle.cm_meaning.specs.Mains.{main_of}
use Rattle.cm_meaning.specs.Scopes.{patch_names, opened, within, decl_names, decl_names_row, param_names, is_space, space_scopes, declare_all, find_in, outward, onward, find, unit_names}
use Rattle.cm_meaning.specs.Types.{is_same, are_same, scalars, scalars_of, times, flat, flat_of, flat_value, flat_values, copies, zero_of, zeros_of}
use Rattle.cm_meaning.specs.Constants.{arrays, all_there, elements, field_values, constructed, field_in, element_in, eval, eval_row, base_type, with_fields, field_types, meant}
use Rattle.cm_meaning.specs.TypeOf.{field_type, type_of}
use Rattle.cm_meaning.specs.PatchSites.{patch_sites, given_all, decl_sites, decl_sites_row}
use Rattle.cm_meaning.specs.BodySites.{init_sites, var_sites, stmt_sites, stmts_row, stmts_sites}
use Rattle.cm_meaning.specs.Sites.{expr_sites, expr_sites_row, argument_sites, base_sites}
use Rattle.cm_meaning.specs.Instances.{type_arguments, arguments_of}
use Rattle.cm_meaning.specs.Parameters.{find_key}
use Rattle.cm_meaning.specs.Chains.{is_path}
use Rattle.cm_meaning.specs.Eval.{found, values_row}
use Rattle.cm_meaning.specs.Resume.{todos, exec, exec_row}
use Rattle.cm_meaning.proofs.Trees.{at, word, read, processor}
use Rattle.cm_meaning.proofs.Patches.{local, int_of, write, advance, main, silence, outcome, frame}

-- processor P { output stream int64 out; void main() { int64 b = 5L; out <- (b > 0 ? 2147483647 : b) + 1; advance(); } }: both arms have
-- the type of the wider one
abbrev long_type : ℕ → TypeExpr
long_type column = y.Base (b.Int64 (at column)) []

abbrev chooser : List Decl
chooser = processor 1 (codes "P") (
    m.Ends (at 14) flow.Output (record { place = at 21; kind = kind.Stream; ty = long_type 28; names = record { name = word 34 (codes "out"); keys = [] } ∷ [] } ∷ [])
    ∷ main 40 (local (long_type 60) 66 (codes "b") (Some (e.Number (at 70) (pos 5) true))
    ∷ write 80 (codes "out") (e.Binary (at 87) o.Add (e.Paren (at 87) (e.Choice (at 88) (e.Binary (at 88) o.Greater (read 88 (codes "b")) (int_of 92 (pos 0))) (int_of 96 (pos 2147483647)) (read 109 (codes "b")))) (int_of 114 (pos 1)))
    ∷ advance 117 ∷ []) ∷ []) ∷ []

arms_alike : outcome chooser (silence 1) 1000 ≡ Some (record { trace = frame 0 (pos 2147483648) ∷ []; ending = Ended })
unfolding stops found values_row exec exec_row todos floor_modulus to_signed to_unsigned to_wrap to_clamp to_bool nearest hidden-the_row-Expr-0 hidden-the_row-Expr-1 hidden-the_row-Stmt-0 hidden-the_row-Stmt-1 hidden-the_row-Decl-0 hidden main_of patch_names opened within decl_names decl_names_row param_names is_space space_scopes declare_all find_in outward onward find unit_names is_same are_same scalars scalars_of times flat flat_of flat_value flat_values copies zero_of zeros_of arrays all_there elements field_values constructed field_in element_in eval eval_row base_type with_fields field_types meant field_type type_of type_arguments arguments_of find_key is_path patch_sites given_all decl_sites decl_sites_row init_sites var_sites stmt_sites stmts_row stmts_sites expr_sites expr_sites_row argument_sites base_sites
arms_alike = refl
