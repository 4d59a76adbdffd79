-- What is wrong with the names and types of a patch, where it can be computed: each site, each level of declarations, and each
-- declaration of an instance or a namespace, used or not.
use Rattle.std.specs.Prelude.{List, [], ◌∷◌, ◌++◌, flat_map, Option, Some, None}
use Rattle.cm_tree.specs.declared.file.File.{File}
use Rattle.cm_number.specs.Conversion.{floor_modulus, to_signed, to_unsigned, to_wrap, to_clamp, to_bool, nearest}
use Rattle.cm_number.specs.Bitwise.{bitwise_and, bitwise_or, bitwise_xor, bitwise_not}
use Rattle.cm_number.specs.Division.{truncated_quotient, quotient, remainder}
use Rattle.cm_number.specs.Shift.{floor_quotient, left_shift, right_shift, zero_filled_shift}
use Rattle.cm_tree.specs.declared.expr.Base.TheBlock.{hidden-the_row-Expr-0, hidden-the_row-Expr-1}
use Rattle.cm_tree.specs.declared.stmt.Stmt.TheBlock.{hidden-the_row-Stmt-0, hidden-the_row-Stmt-1}
use Rattle.cm_tree.specs.declared.decl.Decl.TheBlock.{hidden-the_row-Decl-0}
use denote.Hole.Carrier.{hidden}
use Rattle.cm_meaning.specs.Mains.{main_of}
use Rattle.cm_meaning.specs.Scopes.{patch_names, opened, within, decl_names, decl_names_row, param_names, is_space, space_scopes, declare_all, find_in, outward, onward, find, unit_names}
use Rattle.cm_meaning.specs.Types.{is_same, are_same, scalars, scalars_of, copies, zero_of, zeros_of}
use Rattle.cm_meaning.specs.Constants.{arrays, all_there, elements, field_values, constructed, field_in, element_in, eval, eval_row, base_type, with_fields, field_types, meant}
use Rattle.cm_meaning.specs.TypeOf.{field_type, type_of, is_constant, are_constant}
use Rattle.cm_meaning.specs.PatchSites.{patch_sites, given_all, decl_sites, decl_sites_row}
use Rattle.cm_meaning.specs.BodySites.{init_sites, var_sites, stmt_sites, stmts_row, stmts_sites}
use Rattle.cm_meaning.specs.Sites.{expr_sites, expr_sites_row, argument_sites, base_sites}
use Rattle.cm_meaning.specs.Instances.{Instance, type_arguments, arguments_of}
use Rattle.cm_meaning.specs.Parameters.{find_key}
use Rattle.cm_meaning.specs.Demands.{expr_demands, expr_demands_row, size_demands, base_demands, init_demands, var_demands, steps_of, stmt_demands, stmt_demands_row, stmts_demands}
use Rattle.cm_meaning.specs.Endings.{has_break, has_break_row, surely, surely_row, surely_all}
use Rattle.cm_meaning.specs.TypeRows.{argument_rows, count_fields, element_rows, field_rows, is_stream, type_rows}
use Rattle.cm_meaning.specs.MemberDemands.{own_demands}
use Rattle.cm_meaning.specs.NameFaults.{member_faults, site_faults, clashing}
use Rattle.cm_meaning.specs.NameRows.{repeated, rows}
use Rattle.cm_meaning.specs.TypeFaults.{own_faults}
use Rattle.cm_meaning.specs.Faults.{Fault}
use Rattle.cm_meaning.specs.Nodes.{Tree, Grown, Groups, NoGroups, Group, Elements, NoElements, Element, root}
use Rattle.cm_meaning.specs.PatchRun.{members_of}

-- of an instance and of its members
abbrev pub instance_faults : List File → Instance → List Fault
instance_faults files i = flat_map (own_faults files i.known) (i.unit.declared ∷ members_of i)

abbrev mutual
  pub tree_faults : List File → Tree → List Fault
  tree_faults files (Grown i factor below) = instance_faults files i ++ group_faults files below

  pub group_faults : List File → Groups → List Fault
  group_faults files NoGroups = []
  group_faults files (Group a elements others) = element_faults files elements ++ group_faults files others

  pub element_faults : List File → Elements → List Fault
  element_faults files NoElements = []
  element_faults files (Element tree others) = tree_faults files tree ++ element_faults files others

unfoldable pub faults_of : List File → Tree → List Fault
unfolding member_faults site_faults clashing rows repeated patch_sites given_all decl_sites decl_sites_row init_sites var_sites stmt_sites stmts_row stmts_sites expr_sites expr_sites_row argument_sites base_sites main_of type_rows to_signed to_unsigned floor_modulus to_wrap to_clamp to_bool nearest bitwise_and bitwise_or bitwise_xor bitwise_not truncated_quotient quotient remainder floor_quotient left_shift right_shift zero_filled_shift opened within decl_names decl_names_row param_names is_space space_scopes declare_all find_in outward onward is_same are_same scalars scalars_of copies zero_of zeros_of arrays all_there elements field_values constructed field_in element_in eval eval_row base_type with_fields field_types meant field_type type_of is_constant are_constant expr_demands expr_demands_row size_demands base_demands init_demands var_demands steps_of stmt_demands stmt_demands_row stmts_demands has_break has_break_row surely surely_row surely_all argument_rows count_fields element_rows field_rows is_stream find_key hidden-the_row-Expr-0 hidden-the_row-Expr-1 hidden-the_row-Stmt-0 hidden-the_row-Stmt-1 hidden-the_row-Decl-0 hidden find patch_names unit_names own_demands type_arguments arguments_of
faults_of files tree = member_faults files ++ site_faults files ++ flat_map (own_faults files (root tree).known) (patch_names files) ++ tree_faults files tree

-- what is there only where nothing is wrong
abbrev pub where_right : {A : Type 0} → List Fault → A → Option A
where_right [] x = Some x
where_right (fault ∷ faults) x = None
