-- What statements and expressions do in small processors, worked by hand. Each tells one rule of the language.
use Rattle.std.specs.Prelude.{ℕ, ◌+◌, ◌≡◌, refl, true, false, ℤ, pos, List, [], ◌∷◌, Some, None, codes}
use Rattle.cm_base.specs.Players.{stops, Ended}
use Rattle.cm_base.specs.declared.play.Item.{Item}
use Rattle.cm_number.specs.Conversion.{floor_modulus, to_signed, to_unsigned, to_wrap, to_clamp, to_bool, nearest}
use Rattle.cm_tree.specs.declared.operator.Assign.TheVariants as a
use Rattle.cm_tree.specs.declared.operator.Binary.TheVariants as o
use Rattle.cm_tree.specs.declared.expr.Expr.TheVariants as e
use Rattle.cm_tree.specs.declared.expr.Base.TheVariants as b
use Rattle.cm_tree.specs.declared.type_expr.TypeExpr.TheVariants as y
use Rattle.cm_tree.specs.declared.operator.Change.TheVariants as c
use Rattle.cm_tree.specs.declared.simple.Local.TheVariants as l
use Rattle.cm_tree.specs.declared.simple.Simple.TheVariants as i
use Rattle.cm_tree.specs.declared.stmt.Start.TheVariants as f
use Rattle.cm_tree.specs.declared.expr.Expr.{Expr}
use Rattle.cm_tree.specs.declared.stmt.Stmt.{Stmt}
use Rattle.cm_tree.specs.declared.type_expr.Typed.{Typed}
use Rattle.cm_tree.specs.declared.shared.Function.{Function}
use Rattle.cm_tree.specs.declared.simple.Step.TheVariants as st
use Rattle.cm_tree.specs.declared.stmt.Stmt.TheVariants as x
use Rattle.cm_tree.specs.declared.member.Member.{Member}
use Rattle.cm_tree.specs.declared.member.Member.TheVariants as m
use Rattle.cm_tree.specs.declared.decl.Decl.{Decl}
use Rattle.cm_tree.specs.declared.decl.Decl.TheVariants as d
use Rattle.cm_tree.specs.declared.expr.Base.TheBlock.{hidden-the_row-Expr-0, hidden-the_row-Expr-1}
use Rattle.cm_tree.specs.declared.stmt.Stmt.TheBlock.{hidden-the_row-Stmt-0, hidden-the_row-Stmt-1}
use Rattle.cm_tree.specs.declared.decl.Decl.TheBlock.{hidden-the_row-Decl-0}
use denote.Hole.Carrier.{hidden}
use Rattle.cm_meaning.specs.Mains.{main_of}
use Rattle.cm_meaning.specs.Scopes.{patch_names, opened, within, decl_names, decl_names_row, param_names, is_space, space_scopes, declare_all, find_in, outward, onward, find, unit_names}
use Rattle.cm_meaning.specs.Types.{is_same, are_same, scalars, scalars_of, times, flat, flat_of, flat_value, flat_values, copies, zero_of, zeros_of}
use Rattle.cm_meaning.specs.Constants.{arrays, all_there, elements, field_values, constructed, field_in, element_in, eval, eval_row, base_type, with_fields, field_types, meant}
use Rattle.cm_meaning.specs.TypeOf.{field_type, type_of}
use Rattle.cm_meaning.specs.Instances.{type_arguments, arguments_of}
use Rattle.cm_meaning.specs.Parameters.{find_key}
use Rattle.cm_meaning.specs.Chains.{is_path}
use Rattle.cm_meaning.specs.Eval.{found, values_row}
use Rattle.cm_meaning.specs.Resume.{todos, exec, exec_row}
use Rattle.cm_meaning.proofs.Trees.{at, word, one_name, read, int, processor}
use Rattle.cm_meaning.proofs.Patches.{int_of, io, write, block, loop, advance, main, in_and_out, local, state, set, silence, outcome, frame}

-- processor P { input stream int in; output stream int out; .. void main() { .. } }, with members of its own
abbrev with_members : List Member → List Stmt → List Decl
with_members members body = processor 1 (codes "P") (in_and_out (main 357 body ∷ members)) ∷ []

-- what the output has in each frame
abbrev told_after : List Decl → ℕ → List ℤ → Type 0
told_after decls frames values = outcome decls (silence frames) 1000 ≡ Some (record { trace = in_frames 0 values; ending = Ended }) where
  in_frames : ℕ → List ℤ → List Item
  in_frames t [] = []
  in_frames t (z ∷ values) = frame t z ∷ in_frames (t + 1) values

abbrev output : ℕ → Expr → Stmt
output column value = write column (codes "out") value

-- int NAME(..) { .. }
abbrev int_function : ℕ → List ℕ → List Typed → List Stmt → Function
int_function column text params body =
    record { place = at column; result = Some (int column); name = word (column + 4) text; params = params; body = record { place = at (column + 9); stmts = body } }

abbrev answer : ℕ → Expr → Stmt
answer column value = x.Return (at column) (Some value)

-- for (int i = 0; i < 3; i++) { if (i == 1) continue; out <- 5; } advance();: `continue` goes to the third part
to_third_part : told_after (io (
    x.For (at 71) (Some (f.Local (l.Typed (int 76) (record { name = word 80 (codes "i"); value = Some (int_of 84 (pos 0)) } ∷ []))))
    (Some (e.Binary (at 87) o.Less (read 87 (codes "i")) (int_of 91 (pos 3)))) (Some (i.After (record { name = word 94 (codes "i"); steps = [] }) c.Increase))
    (block 99 (x.If (at 101) (e.Binary (at 105) o.Equal (read 105 (codes "i")) (int_of 110 (pos 1))) (x.Continue (at 113)) ∷ output 123 (int_of 130 (pos 5)) ∷ []))
    ∷ advance 140 ∷ [])) 2 (pos 10 ∷ pos 0 ∷ [])
unfolding stops found values_row exec exec_row todos floor_modulus to_signed to_unsigned to_wrap to_clamp to_bool nearest hidden-the_row-Expr-0 hidden-the_row-Expr-1 hidden-the_row-Stmt-0 hidden-the_row-Stmt-1 hidden-the_row-Decl-0 hidden main_of patch_names opened within decl_names decl_names_row param_names is_space space_scopes declare_all find_in outward onward find unit_names is_same are_same scalars scalars_of times flat flat_of flat_value flat_values copies zero_of zeros_of arrays all_there elements field_values constructed field_in element_in eval eval_row base_type with_fields field_types meant field_type type_of type_arguments arguments_of find_key is_path
to_third_part = refl

-- loop { for (wrap<3> i) { out <- i; advance(); } }: 0 to 2 in order, and again
each_value : told_after (io (loop 71 (
    x.ForType (at 78) (y.Base (b.Wrap (at 83) (int_of 88 (pos 3))) []) (word 91 (codes "i")) (block 94 (output 96 (read 103 (codes "i")) ∷ advance 106 ∷ [])) ∷ []) ∷ []))
    5 (pos 0 ∷ pos 1 ∷ pos 2 ∷ pos 0 ∷ pos 1 ∷ [])
unfolding stops found values_row exec exec_row todos floor_modulus to_signed to_unsigned to_wrap to_clamp to_bool nearest hidden-the_row-Expr-0 hidden-the_row-Expr-1 hidden-the_row-Stmt-0 hidden-the_row-Stmt-1 hidden-the_row-Decl-0 hidden main_of patch_names opened within decl_names decl_names_row param_names is_space space_scopes declare_all find_in outward onward find unit_names is_same are_same scalars scalars_of times flat flat_of flat_value flat_values copies zero_of zeros_of arrays all_there elements field_values constructed field_in element_in eval eval_row base_type with_fields field_types meant field_type type_of type_arguments arguments_of find_key is_path
each_value = refl

-- int f() { out <- 100; return 1; } main: if (false && f()) ; if (true || f()) ; out <- 1; advance();: the right side is
-- evaluated only where it is needed
only_where_needed : told_after (with_members (m.Function (int_function 201 (codes "f") [] (output 212 (int_of 219 (pos 100)) ∷ answer 224 (int_of 231 (pos 1)) ∷ [])) ∷ []) (
    x.If (at 371) (e.Binary (at 375) o.And (e.Truth (at 375) false) (e.Call (one_name 384 (codes "f")) [])) (x.Empty (at 389))
    ∷ x.If (at 391) (e.Binary (at 395) o.Or (e.Truth (at 395) true) (e.Call (one_name 403 (codes "f")) [])) (x.Empty (at 408))
    ∷ output 410 (int_of 417 (pos 1)) ∷ advance 420 ∷ [])) 1 (pos 1 ∷ [])
unfolding stops found values_row exec exec_row todos floor_modulus to_signed to_unsigned to_wrap to_clamp to_bool nearest hidden-the_row-Expr-0 hidden-the_row-Expr-1 hidden-the_row-Stmt-0 hidden-the_row-Stmt-1 hidden-the_row-Decl-0 hidden main_of patch_names opened within decl_names decl_names_row param_names is_space space_scopes declare_all find_in outward onward find unit_names is_same are_same scalars scalars_of times flat flat_of flat_value flat_values copies zero_of zeros_of arrays all_there elements field_values constructed field_in element_in eval eval_row base_type with_fields field_types meant field_type type_of type_arguments arguments_of find_key is_path
only_where_needed = refl

-- int[2] a; int f() { a[0] = 5; return 0; } main: out <- a[f()]; advance();: the name of a selection is read last
name_read_last : told_after (with_members (state (y.Base (b.Int (at 181)) (int_of 185 (pos 2) ∷ [])) 188 (codes "a") None
    ∷ m.Function (int_function 201 (codes "f") [] (set 212 (codes "a") (st.Index (at 213) (int_of 214 (pos 0)) ∷ []) a.Set (int_of 219 (pos 5)) ∷ answer 224 (int_of 231 (pos 0)) ∷ [])) ∷ []) (
    output 371 (e.Index (at 378) (read 378 (codes "a")) (e.Call (one_name 380 (codes "f")) [])) ∷ advance 386 ∷ [])) 1 (pos 5 ∷ [])
unfolding stops found values_row exec exec_row todos floor_modulus to_signed to_unsigned to_wrap to_clamp to_bool nearest hidden-the_row-Expr-0 hidden-the_row-Expr-1 hidden-the_row-Stmt-0 hidden-the_row-Stmt-1 hidden-the_row-Decl-0 hidden main_of patch_names opened within decl_names decl_names_row param_names is_space space_scopes declare_all find_in outward onward find unit_names is_same are_same scalars scalars_of times flat flat_of flat_value flat_values copies zero_of zeros_of arrays all_there elements field_values constructed field_in element_in eval eval_row base_type with_fields field_types meant field_type type_of type_arguments arguments_of find_key is_path
name_read_last = refl

-- int s; int f() { s = 10; return 1; } main: s += f(); out <- s; advance();: the old value is read after the right side
old_value_last : told_after (with_members (state (int 181) 188 (codes "s") None
    ∷ m.Function (int_function 201 (codes "f") [] (set 212 (codes "s") [] a.Set (int_of 219 (pos 10)) ∷ answer 224 (int_of 231 (pos 1)) ∷ [])) ∷ []) (
    set 371 (codes "s") [] a.Add (e.Call (one_name 376 (codes "f")) []) ∷ output 381 (read 388 (codes "s")) ∷ advance 391 ∷ [])) 1 (pos 11 ∷ [])
unfolding stops found values_row exec exec_row todos floor_modulus to_signed to_unsigned to_wrap to_clamp to_bool nearest hidden-the_row-Expr-0 hidden-the_row-Expr-1 hidden-the_row-Stmt-0 hidden-the_row-Stmt-1 hidden-the_row-Decl-0 hidden main_of patch_names opened within decl_names decl_names_row param_names is_space space_scopes declare_all find_in outward onward find unit_names is_same are_same scalars scalars_of times flat flat_of flat_value flat_values copies zero_of zeros_of arrays all_there elements field_values constructed field_in element_in eval eval_row base_type with_fields field_types meant field_type type_of type_arguments arguments_of find_key is_path
old_value_last = refl

-- int f(int x) { x += 1; return x; } in front of the processor; main: int x = 3; out <- f(x) * 10 + x; advance();: arguments
-- are copied, and a function's names are its own
arguments_copied : told_after (d.Function (int_function 201 (codes "f") (record { ty = int 207; name = word 211 (codes "x") } ∷ []) (
    set 215 (codes "x") [] a.Add (int_of 220 (pos 1)) ∷ answer 224 (read 231 (codes "x")) ∷ []))
    ∷ io (local (int 71) 75 (codes "x") (Some (int_of 79 (pos 3)))
    ∷ output 82 (e.Binary (at 89) o.Add (e.Binary (at 89) o.Multiply (e.Call (one_name 89 (codes "f")) (read 91 (codes "x") ∷ [])) (int_of 96 (pos 10))) (read 101 (codes "x"))) ∷ advance 104 ∷ [])) 1 (pos 43 ∷ [])
unfolding stops found values_row exec exec_row todos floor_modulus to_signed to_unsigned to_wrap to_clamp to_bool nearest hidden-the_row-Expr-0 hidden-the_row-Expr-1 hidden-the_row-Stmt-0 hidden-the_row-Stmt-1 hidden-the_row-Decl-0 hidden main_of patch_names opened within decl_names decl_names_row param_names is_space space_scopes declare_all find_in outward onward find unit_names is_same are_same scalars scalars_of times flat flat_of flat_value flat_values copies zero_of zeros_of arrays all_there elements field_values constructed field_in element_in eval eval_row base_type with_fields field_types meant field_type type_of type_arguments arguments_of find_key is_path
arguments_copied = refl

-- int x = 1; { int x = 2; out <- x; advance(); } out <- x * 10; advance();: an inner declaration hides an outer one to the end of its
-- block, also where main paused in it
hidden_in_a_block : told_after (io (local (int 71) 75 (codes "x") (Some (int_of 79 (pos 1)))
    ∷ block 82 (local (int 84) 88 (codes "x") (Some (int_of 92 (pos 2))) ∷ output 95 (read 102 (codes "x")) ∷ advance 105 ∷ [])
    ∷ output 118 (e.Binary (at 125) o.Multiply (read 125 (codes "x")) (int_of 129 (pos 10))) ∷ advance 133 ∷ [])) 3 (pos 2 ∷ pos 10 ∷ pos 0 ∷ [])
unfolding stops found values_row exec exec_row todos floor_modulus to_signed to_unsigned to_wrap to_clamp to_bool nearest hidden-the_row-Expr-0 hidden-the_row-Expr-1 hidden-the_row-Stmt-0 hidden-the_row-Stmt-1 hidden-the_row-Decl-0 hidden main_of patch_names opened within decl_names decl_names_row param_names is_space space_scopes declare_all find_in outward onward find unit_names is_same are_same scalars scalars_of times flat flat_of flat_value flat_values copies zero_of zeros_of arrays all_there elements field_values constructed field_in element_in eval eval_row base_type with_fields field_types meant field_type type_of type_arguments arguments_of find_key is_path
hidden_in_a_block = refl

-- loop { int x; x += 1; out <- x; advance(); }: a local is zero each time that its declaration runs
zero_each_time : told_after (io (loop 71 (local (int 78) 82 (codes "x") None ∷ set 85 (codes "x") [] a.Add (int_of 90 (pos 1)) ∷ output 93 (read 100 (codes "x")) ∷ advance 103 ∷ []) ∷ [])) 3 (pos 1 ∷ pos 1 ∷ pos 1 ∷ [])
unfolding stops found values_row exec exec_row todos floor_modulus to_signed to_unsigned to_wrap to_clamp to_bool nearest hidden-the_row-Expr-0 hidden-the_row-Expr-1 hidden-the_row-Stmt-0 hidden-the_row-Stmt-1 hidden-the_row-Decl-0 hidden main_of patch_names opened within decl_names decl_names_row param_names is_space space_scopes declare_all find_in outward onward find unit_names is_same are_same scalars scalars_of times flat flat_of flat_value flat_values copies zero_of zeros_of arrays all_there elements field_values constructed field_in element_in eval eval_row base_type with_fields field_types meant field_type type_of type_arguments arguments_of find_key is_path
zero_each_time = refl

-- loop { int k = 1; loop { int m = 2; advance(); break; } out <- k; advance(); }: `break` ends the inner loop alone, and drops its scopes
breaks_one_loop : told_after (io (loop 71 (local (int 78) 82 (codes "k") (Some (int_of 86 (pos 1)))
    ∷ loop 89 (local (int 96) 100 (codes "m") (Some (int_of 104 (pos 2))) ∷ advance 107 ∷ x.Break (at 118) ∷ []) ∷ output 127 (read 134 (codes "k")) ∷ advance 137 ∷ []) ∷ [])) 5
    (pos 0 ∷ pos 1 ∷ pos 0 ∷ pos 1 ∷ pos 0 ∷ [])
unfolding stops found values_row exec exec_row todos floor_modulus to_signed to_unsigned to_wrap to_clamp to_bool nearest hidden-the_row-Expr-0 hidden-the_row-Expr-1 hidden-the_row-Stmt-0 hidden-the_row-Stmt-1 hidden-the_row-Decl-0 hidden main_of patch_names opened within decl_names decl_names_row param_names is_space space_scopes declare_all find_in outward onward find unit_names is_same are_same scalars scalars_of times flat flat_of flat_value flat_values copies zero_of zeros_of arrays all_there elements field_values constructed field_in element_in eval eval_row base_type with_fields field_types meant field_type type_of type_arguments arguments_of find_key is_path
breaks_one_loop = refl

-- int s; main: loop { s += 1; { advance(); if (s > 1) return; } out <- s; }: `return` drops all, out of any loop and block
returns_from_within : told_after (with_members (state (int 181) 188 (codes "s") None ∷ []) (
    loop 371 (set 378 (codes "s") [] a.Add (int_of 383 (pos 1)) ∷ block 386 (advance 388 ∷ x.If (at 399) (e.Binary (at 403) o.Greater (read 403 (codes "s")) (int_of 407 (pos 1))) (x.Return (at 410) None) ∷ [])
    ∷ output 420 (read 427 (codes "s")) ∷ []) ∷ [])) 4 (pos 0 ∷ pos 1 ∷ pos 0 ∷ pos 0 ∷ [])
unfolding stops found values_row exec exec_row todos floor_modulus to_signed to_unsigned to_wrap to_clamp to_bool nearest hidden-the_row-Expr-0 hidden-the_row-Expr-1 hidden-the_row-Stmt-0 hidden-the_row-Stmt-1 hidden-the_row-Decl-0 hidden main_of patch_names opened within decl_names decl_names_row param_names is_space space_scopes declare_all find_in outward onward find unit_names is_same are_same scalars scalars_of times flat flat_of flat_value flat_values copies zero_of zeros_of arrays all_there elements field_values constructed field_in element_in eval eval_row base_type with_fields field_types meant field_type type_of type_arguments arguments_of find_key is_path
returns_from_within = refl

-- void init() { n = 7; } int n; main: out <- n; advance();: `init` comes before the first frame
init_first : told_after (with_members (state (int 181) 188 (codes "n") None
    ∷ m.Function (record { place = at 201; result = None; name = word 206 (codes "init"); params = []; body = record { place = at 213; stmts = set 215 (codes "n") [] a.Set (int_of 219 (pos 7)) ∷ [] } }) ∷ []) (
    output 371 (read 378 (codes "n")) ∷ advance 381 ∷ [])) 1 (pos 7 ∷ [])
unfolding stops found values_row exec exec_row todos floor_modulus to_signed to_unsigned to_wrap to_clamp to_bool nearest hidden-the_row-Expr-0 hidden-the_row-Expr-1 hidden-the_row-Stmt-0 hidden-the_row-Stmt-1 hidden-the_row-Decl-0 hidden main_of patch_names opened within decl_names decl_names_row param_names is_space space_scopes declare_all find_in outward onward find unit_names is_same are_same scalars scalars_of times flat flat_of flat_value flat_values copies zero_of zeros_of arrays all_there elements field_values constructed field_in element_in eval eval_row base_type with_fields field_types meant field_type type_of type_arguments arguments_of find_key is_path
init_first = refl
