-- The sizes of a patch of the form.
use Rattle.std.proofs.Common.{◌≡◌, ◌≢◌, ◌+◌, ◌/◌, List, false, refl}
use Rattle.cm_tree.specs.declared.expr.Base.TheBlock.{hidden-the_row-Expr-0, hidden-the_row-Expr-1}
use Rattle.cm_tree.specs.declared.stmt.Stmt.TheBlock.{hidden-the_row-Stmt-0, hidden-the_row-Stmt-1}
use Rattle.cm_tree.specs.declared.decl.Decl.TheBlock.{hidden-the_row-Decl-0}
use denote.Hole.Carrier.{hidden}
use Rattle.cm_tree.specs.declared.file.File.{File}
use Rattle.cm_tree.specs.Pieces.{Text}
use Rattle.cm_meaning.specs.Scopes.{param_names, find_in, outward, onward, find, unit_names}
use Rattle.cm_meaning.specs.Types.{is_place, is_same, are_same, scalars, scalars_of, times, flat, flat_of, flat_value, flat_values}
use Rattle.cm_meaning.specs.Constants.{arrays, all_there, base_type, eval, eval_row}
use Rattle.cm_meaning.specs.Demands.{steps_of}
use Rattle.cm_meaning.specs.TypeOf.{Knowledge, type_of, field_type, is_constant, are_constant}
use Rattle.cm_meaning.specs.Eval.{found, values_row}
use Rattle.cm_meaning.specs.Resume.{todos, exec, exec_row}
use Rattle.patch_sizes.specs.Sizes.{bytes_in, bytes_in_fields, is_place as names_place, moves, expr_size, row_size}
use Rattle.patch_sizes.specs.StmtSizes.{stmt_size, stmts_size}
use Rattle.patch_sizes.specs.Splits.{advances, any_advances, splits_in, splits_among}
use Rattle.patch_sizes.specs.PatchSizes.{cost, memory_bytes}
use Rattle.through_meaning.specs.Parts.{Parts}
use Rattle.through_meaning.proofs.Files.{same_text, other_text, same_place}
use Rattle.through_meaning.proofs.Steps.{linked_of}

pub cost_is : (files : List File) (parts : Parts) (input output : Text) (k : Knowledge) → input ≢ output → is_place parts.input.name parts.output.name ≡ false →
    cost (linked_of files parts input output k) ≡ 4352
unfolding param_names find_in outward onward find unit_names is_same are_same scalars scalars_of times flat flat_of flat_value flat_values arrays all_there base_type eval eval_row steps_of type_of field_type is_constant are_constant found values_row todos exec exec_row bytes_in bytes_in_fields names_place moves expr_size row_size stmt_size stmts_size advances any_advances splits_in splits_among hidden-the_row-Expr-0 hidden-the_row-Expr-1 hidden-the_row-Stmt-0 hidden-the_row-Stmt-1 hidden-the_row-Decl-0 hidden
cost_is files parts input output k names places =
    rw (same_text input, other_text input output names, same_text output, places, same_place parts.output.name) refl

pub bytes_are : (files : List File) (parts : Parts) (input output : Text) (k : Knowledge) → input ≢ output → is_place parts.input.name parts.output.name ≡ false →
    (memory_bytes (linked_of files parts input output k) + 65535) / 65536 ≡ 1
unfolding param_names find_in outward onward find unit_names is_same are_same scalars scalars_of times flat flat_of flat_value flat_values arrays all_there base_type eval eval_row steps_of type_of field_type is_constant are_constant found values_row todos exec exec_row bytes_in bytes_in_fields names_place moves expr_size row_size stmt_size stmts_size advances any_advances splits_in splits_among hidden-the_row-Expr-0 hidden-the_row-Expr-1 hidden-the_row-Stmt-0 hidden-the_row-Stmt-1 hidden-the_row-Decl-0 hidden
bytes_are files parts input output k names places =
    rw (same_text input, other_text input output names, same_text output, places, same_place parts.output.name) refl
