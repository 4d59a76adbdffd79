-- Small patches and what they do, worked by hand.
use Rattle.std.specs.Prelude.{◌≡◌, refl, true, pos, negsuc, [], ◌∷◌, Some, codes}
use Rattle.cm_base.specs.Players.{stops, Ended, Out}
use Rattle.cm_base.specs.Parts.{Frame}
use Rattle.cm_number.specs.Conversion.{floor_modulus, to_signed, to_unsigned, to_wrap, to_clamp, to_bool, nearest}
use Rattle.cm_tree.specs.declared.expr.Expr.TheVariants as e
use Rattle.cm_tree.specs.declared.stmt.Stmt.TheVariants as x
use Rattle.cm_tree.specs.declared.expr.Base.TheBlock.{hidden-the_row-Expr-0, hidden-the_row-Expr-1}
use Rattle.cm_tree.specs.declared.stmt.Stmt.TheBlock.{hidden-the_row-Stmt-0, hidden-the_row-Stmt-1}
use Rattle.cm_tree.specs.declared.decl.Decl.TheBlock.{hidden-the_row-Decl-0}
use denote.Hole.Carrier.{hidden}
use Rattle.cm_meaning.specs.Mains.{main_of}
use Rattle.cm_meaning.specs.Scopes.{patch_names, opened, within, decl_names, decl_names_row, param_names, is_space, space_scopes, declare_all, find_in, outward, onward, find, unit_names}
use Rattle.cm_meaning.specs.Types.{is_same, are_same, scalars, scalars_of, times, flat, flat_of, flat_value, flat_values, copies, zero_of, zeros_of}
use Rattle.cm_meaning.specs.Constants.{arrays, all_there, elements, field_values, constructed, field_in, element_in, eval, eval_row, base_type, with_fields, field_types, meant}
use Rattle.cm_meaning.specs.TypeOf.{field_type, type_of}
use Rattle.cm_meaning.specs.Instances.{type_arguments, arguments_of}
use Rattle.cm_meaning.specs.Parameters.{find_key}
use Rattle.cm_meaning.specs.Chains.{is_path}
use Rattle.cm_meaning.specs.Eval.{found, values_row}
use Rattle.cm_meaning.specs.Resume.{todos, exec, exec_row}
use Rattle.cm_meaning.proofs.Trees.{at, read}
use Rattle.cm_meaning.proofs.Patches.{int_of, write, block, loop, loop_count, advance, io, input, silence, outcome, frame}

-- loop { out <- in; advance(); }
copies_input : outcome (io (loop 71 (write 78 (codes "out") (read 85 (codes "in")) ∷ advance 89 ∷ []) ∷ [])) (input (pos 1 ∷ pos 2 ∷ pos 3 ∷ [])) 1000
    ≡ Some (record { trace = frame 0 (pos 1) ∷ frame 1 (pos 2) ∷ frame 2 (pos 3) ∷ []; ending = Ended })
unfolding stops found values_row exec exec_row todos floor_modulus to_signed to_unsigned to_wrap to_clamp to_bool nearest hidden-the_row-Expr-0 hidden-the_row-Expr-1 hidden-the_row-Stmt-0 hidden-the_row-Stmt-1 hidden-the_row-Decl-0 hidden main_of patch_names opened within decl_names decl_names_row param_names is_space space_scopes declare_all find_in outward onward find unit_names is_same are_same scalars scalars_of times flat flat_of flat_value flat_values copies zero_of zeros_of arrays all_there elements field_values constructed field_in element_in eval eval_row base_type with_fields field_types meant field_type type_of type_arguments arguments_of find_key is_path
copies_input = refl

-- the same over no frames
no_frame : outcome (io (loop 71 (write 78 (codes "out") (read 85 (codes "in")) ∷ advance 89 ∷ []) ∷ [])) (silence 0) 1000
    ≡ Some (record { trace = []; ending = Ended })
unfolding stops found values_row exec exec_row todos floor_modulus to_signed to_unsigned to_wrap to_clamp to_bool nearest hidden-the_row-Expr-0 hidden-the_row-Expr-1 hidden-the_row-Stmt-0 hidden-the_row-Stmt-1 hidden-the_row-Decl-0 hidden main_of patch_names opened within decl_names decl_names_row param_names is_space space_scopes declare_all find_in outward onward find unit_names is_same are_same scalars scalars_of times flat flat_of flat_value flat_values copies zero_of zeros_of arrays all_there elements field_values constructed field_in element_in eval eval_row base_type with_fields field_types meant field_type type_of type_arguments arguments_of find_key is_path
no_frame = refl

-- loop { out <- in; out <- 2147483647; advance(); }: writes to a stream add up, and the sum wraps
writes_add_up : outcome (io (loop 71 (write 78 (codes "out") (read 85 (codes "in")) ∷ write 89 (codes "out") (int_of 96 (pos 2147483647)) ∷ advance 108 ∷ []) ∷ [])) (input (pos 1 ∷ [])) 1000
    ≡ Some (record { trace = frame 0 (negsuc 2147483647) ∷ []; ending = Ended })
unfolding stops found values_row exec exec_row todos floor_modulus to_signed to_unsigned to_wrap to_clamp to_bool nearest hidden-the_row-Expr-0 hidden-the_row-Expr-1 hidden-the_row-Stmt-0 hidden-the_row-Stmt-1 hidden-the_row-Decl-0 hidden main_of patch_names opened within decl_names decl_names_row param_names is_space space_scopes declare_all find_in outward onward find unit_names is_same are_same scalars scalars_of times flat flat_of flat_value flat_values copies zero_of zeros_of arrays all_there elements field_values constructed field_in element_in eval eval_row base_type with_fields field_types meant field_type type_of type_arguments arguments_of find_key is_path
writes_add_up = refl

-- loop { loop (2) { out <- 1; advance(); } out <- 5; advance(); }: a count goes on after an advance, and what follows the loop is done
count_goes_on : outcome (io (loop 71 (loop_count 78 (int_of 84 (pos 2)) (write 89 (codes "out") (int_of 96 (pos 1)) ∷ advance 99 ∷ []) ∷ write 113 (codes "out") (int_of 120 (pos 5)) ∷ advance 123 ∷ []) ∷ [])) (silence 6) 1000
    ≡ Some (record { trace = frame 0 (pos 1) ∷ frame 1 (pos 1) ∷ frame 2 (pos 5) ∷ frame 3 (pos 1) ∷ frame 4 (pos 1) ∷ frame 5 (pos 5) ∷ []; ending = Ended })
unfolding stops found values_row exec exec_row todos floor_modulus to_signed to_unsigned to_wrap to_clamp to_bool nearest hidden-the_row-Expr-0 hidden-the_row-Expr-1 hidden-the_row-Stmt-0 hidden-the_row-Stmt-1 hidden-the_row-Decl-0 hidden main_of patch_names opened within decl_names decl_names_row param_names is_space space_scopes declare_all find_in outward onward find unit_names is_same are_same scalars scalars_of times flat flat_of flat_value flat_values copies zero_of zeros_of arrays all_there elements field_values constructed field_in element_in eval eval_row base_type with_fields field_types meant field_type type_of type_arguments arguments_of find_key is_path
count_goes_on = refl

-- out <- 7; advance();: a main that returned writes nothing
main_returns : outcome (io (write 71 (codes "out") (int_of 78 (pos 7)) ∷ advance 81 ∷ [])) (silence 3) 1000
    ≡ Some (record { trace = frame 0 (pos 7) ∷ frame 1 (pos 0) ∷ frame 2 (pos 0) ∷ []; ending = Ended })
unfolding stops found values_row exec exec_row todos floor_modulus to_signed to_unsigned to_wrap to_clamp to_bool nearest hidden-the_row-Expr-0 hidden-the_row-Expr-1 hidden-the_row-Stmt-0 hidden-the_row-Stmt-1 hidden-the_row-Decl-0 hidden main_of patch_names opened within decl_names decl_names_row param_names is_space space_scopes declare_all find_in outward onward find unit_names is_same are_same scalars scalars_of times flat flat_of flat_value flat_values copies zero_of zeros_of arrays all_there elements field_values constructed field_in element_in eval eval_row base_type with_fields field_types meant field_type type_of type_arguments arguments_of find_key is_path
main_returns = refl

-- while (true) {}: a loop without end spends the turns
turns_spent : outcome (io (x.While (at 71) (e.Truth (at 78) true) (block 84 []) ∷ [])) (input (pos 1 ∷ [])) 1000
    ≡ Some (record { trace = []; ending = Out (Frame 0 ((pos 1 ∷ []) ∷ [] ∷ [])) })
unfolding stops found values_row exec exec_row todos floor_modulus to_signed to_unsigned to_wrap to_clamp to_bool nearest hidden-the_row-Expr-0 hidden-the_row-Expr-1 hidden-the_row-Stmt-0 hidden-the_row-Stmt-1 hidden-the_row-Decl-0 hidden main_of patch_names opened within decl_names decl_names_row param_names is_space space_scopes declare_all find_in outward onward find unit_names is_same are_same scalars scalars_of times flat flat_of flat_value flat_values copies zero_of zeros_of arrays all_there elements field_values constructed field_in element_in eval eval_row base_type with_fields field_types meant field_type type_of type_arguments arguments_of find_key is_path
turns_spent = refl
