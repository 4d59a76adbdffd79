-- Small graphs and what they do, worked by hand: delays, latencies, events, parameters and arguments.
use Rattle.std.specs.Prelude.{ℕ, ◌+◌, ◌≡◌, refl, true, pos, negsuc, List, [], ◌∷◌, Some, None, codes}
use Rattle.cm_base.specs.Players.{stops, Ended, Out}
use Rattle.cm_base.specs.Parts.{Frame}
use Rattle.cm_base.specs.declared.host.Flow.TheVariants as flow
use Rattle.cm_base.specs.declared.host.Kind.TheVariants as kind
use Rattle.cm_base.specs.declared.play.Item.TheVariants as item
use Rattle.cm_number.specs.Conversion.{floor_modulus, to_signed, to_unsigned, to_wrap, to_clamp, to_bool, nearest}
use Rattle.cm_tree.specs.declared.operator.Assign.TheVariants as a
use Rattle.cm_tree.specs.declared.operator.Binary.TheVariants as o
use Rattle.cm_tree.specs.declared.operator.Unary.TheVariants as u
use Rattle.cm_tree.specs.declared.expr.Expr.TheVariants as e
use Rattle.cm_tree.specs.declared.expr.Base.TheVariants as b
use Rattle.cm_tree.specs.declared.type_expr.TypeExpr.TheVariants as y
use Rattle.cm_tree.specs.declared.type_expr.Arg.TheVariants as g
use Rattle.cm_tree.specs.declared.simple.Step.TheVariants as st
use Rattle.cm_tree.specs.declared.stmt.Stmt.TheVariants as x
use Rattle.cm_tree.specs.declared.member.KeyValue.TheVariants as kv
use Rattle.cm_tree.specs.declared.member.Key.{Key}
use Rattle.cm_tree.specs.declared.member.Member.{Member}
use Rattle.cm_tree.specs.declared.member.Member.TheVariants as m
use Rattle.cm_tree.specs.declared.decl.Param.TheVariants as q
use Rattle.cm_tree.specs.declared.decl.Decl.{Decl}
use Rattle.cm_tree.specs.declared.decl.Decl.TheVariants as d
use Rattle.cm_tree.specs.declared.expr.Base.TheBlock.{hidden-the_row-Expr-0, hidden-the_row-Expr-1}
use Rattle.cm_tree.specs.declared.stmt.Stmt.TheBlock.{hidden-the_row-Stmt-0, hidden-the_row-Stmt-1}
use Rattle.cm_tree.specs.declared.decl.Decl.TheBlock.{hidden-the_row-Decl-0}
use denote.Hole.Carrier.{hidden}
use Rattle.cm_meaning.specs.Mains.{main_of}
use Rattle.cm_meaning.specs.Scopes.{patch_names, opened, within, decl_names, decl_names_row, param_names, is_space, space_scopes, declare_all, find_in, outward, onward, find, unit_names}
use Rattle.cm_meaning.specs.Types.{is_same, are_same, scalars, scalars_of, times, flat, flat_of, flat_value, flat_values, copies, zero_of, zeros_of}
use Rattle.cm_meaning.specs.Constants.{arrays, all_there, elements, field_values, constructed, field_in, element_in, eval, eval_row, base_type, with_fields, field_types, meant}
use Rattle.cm_meaning.specs.TypeOf.{field_type, type_of}
use Rattle.cm_meaning.specs.Instances.{type_arguments, arguments_of}
use Rattle.cm_meaning.specs.Parameters.{find_key}
use Rattle.cm_meaning.specs.Chains.{is_path}
use Rattle.cm_meaning.specs.Eval.{found, values_row}
use Rattle.cm_meaning.specs.Resume.{todos, exec, exec_row}
use Rattle.cm_meaning.proofs.Trees.{at, word, one_name, read, int, named, unit, processor, endpoint, node, link}
use Rattle.cm_meaning.proofs.Patches.{int_of, write, block, loop, advance, main, in_and_out, state, set, main_graph, of_node, own, delayed, connections, io_graph, input, silence, outcome, frame}

-- processor P { output event int e; void main() { e <- 9; while (true) {} } }: an event is told before the turns are spent
abbrev teller : List Decl
teller = processor 1 (codes "P") (endpoint flow.Output kind.Event 14 27 31 (codes "e")
    ∷ main 57 (write 71 (codes "e") (int_of 76 (pos 9)) ∷ x.While (at 80) (e.Truth (at 87) true) (block 93 []) ∷ []) ∷ []) ∷ []

told_before : outcome teller (silence 1) 1000 ≡ Some (record { trace = item.Event 0 0 (pos 9 ∷ []) ∷ []; ending = Out (Frame 0 ([] ∷ [])) })
unfolding stops found values_row exec exec_row todos floor_modulus to_signed to_unsigned to_wrap to_clamp to_bool nearest hidden-the_row-Expr-0 hidden-the_row-Expr-1 hidden-the_row-Stmt-0 hidden-the_row-Stmt-1 hidden-the_row-Decl-0 hidden main_of patch_names opened within decl_names decl_names_row param_names is_space space_scopes declare_all find_in outward onward find unit_names is_same are_same scalars scalars_of times flat flat_of flat_value flat_values copies zero_of zeros_of arrays all_there elements field_values constructed field_in element_in eval eval_row base_type with_fields field_types meant field_type type_of type_arguments arguments_of find_key is_path
told_before = refl

-- loop { out <- in; advance(); }
abbrev copier : Decl
copier = processor 1 (codes "Q") (in_and_out (main 57 (loop 71 (write 78 (codes "out") (read 85 (codes "in")) ∷ advance 89 ∷ []) ∷ []) ∷ []))

-- node a = Q; connection { in -> a.in; a.out -> [1] -> a.in; a.out -> out; }: what is fed back comes a frame later
fed_back : outcome (copier ∷ io_graph (node 560 (codes "a") 569 (codes "Q") [] ∷ []) (
    link 610 (own 610 (codes "in")) (of_node 616 (codes "a") (codes "in"))
    ∷ delayed 622 1 (of_node 622 (codes "a") (codes "out")) (of_node 638 (codes "a") (codes "in"))
    ∷ link 644 (of_node 644 (codes "a") (codes "out")) (own 653 (codes "out")) ∷ []) ∷ []) (input (pos 1 ∷ pos 1 ∷ pos 1 ∷ [])) 1000
    ≡ Some (record { trace = frame 0 (pos 1) ∷ frame 1 (pos 2) ∷ frame 2 (pos 3) ∷ []; ending = Ended })
unfolding stops found values_row exec exec_row todos floor_modulus to_signed to_unsigned to_wrap to_clamp to_bool nearest hidden-the_row-Expr-0 hidden-the_row-Expr-1 hidden-the_row-Stmt-0 hidden-the_row-Stmt-1 hidden-the_row-Decl-0 hidden main_of patch_names opened within decl_names decl_names_row param_names is_space space_scopes declare_all find_in outward onward find unit_names is_same are_same scalars scalars_of times flat flat_of flat_value flat_values copies zero_of zeros_of arrays all_there elements field_values constructed field_in element_in eval eval_row base_type with_fields field_types meant field_type type_of type_arguments arguments_of find_key is_path
fed_back = refl

-- int a, b; processor.latency = 2; void main() { loop { out <- b; b = a; a = in; advance(); } }
abbrev late : Decl
late = processor 1 (codes "D") (in_and_out (state (int 57) 61 (codes "a") None ∷ state (int 57) 64 (codes "b") None ∷ m.Latency (at 67) (int_of 87 (pos 2))
    ∷ main 90 (loop 104 (write 111 (codes "out") (read 118 (codes "b")) ∷ set 121 (codes "b") [] a.Set (read 125 (codes "a"))
    ∷ set 128 (codes "a") [] a.Set (read 132 (codes "in")) ∷ advance 136 ∷ []) ∷ []) ∷ []))

-- node a = D; connection { in -> a.in; a.out -> out; in -> out; }: the input waits for the leaf
latency_filled : outcome (late ∷ io_graph (node 560 (codes "a") 569 (codes "D") [] ∷ []) (
    link 610 (own 610 (codes "in")) (of_node 616 (codes "a") (codes "in")) ∷ link 622 (of_node 622 (codes "a") (codes "out")) (own 631 (codes "out"))
    ∷ link 637 (own 637 (codes "in")) (own 643 (codes "out")) ∷ []) ∷ []) (input (pos 1 ∷ pos 2 ∷ pos 3 ∷ pos 4 ∷ [])) 1000
    ≡ Some (record { trace = frame 0 (pos 0) ∷ frame 1 (pos 0) ∷ frame 2 (pos 2) ∷ frame 3 (pos 4) ∷ []; ending = Ended })
unfolding stops found values_row exec exec_row todos floor_modulus to_signed to_unsigned to_wrap to_clamp to_bool nearest hidden-the_row-Expr-0 hidden-the_row-Expr-1 hidden-the_row-Stmt-0 hidden-the_row-Stmt-1 hidden-the_row-Decl-0 hidden main_of patch_names opened within decl_names decl_names_row param_names is_space space_scopes declare_all find_in outward onward find unit_names is_same are_same scalars scalars_of times flat flat_of flat_value flat_values copies zero_of zeros_of arrays all_there elements field_values constructed field_in element_in eval eval_row base_type with_fields field_types meant field_type type_of type_arguments arguments_of find_key is_path
latency_filled = refl

-- output stream int x, y, z; wrap<5> w; clamp<5> c = 4; int[3] a; int i = -1;
-- void main() { w -= 1; c += 1; a[2] = 8; x <- w; y <- c; z <- a[i]; advance(); }: what is stored is converted
abbrev converting : List Decl
converting = processor 1 (codes "P") (endpoint flow.Output kind.Stream 14 28 32 (codes "x") ∷ endpoint flow.Output kind.Stream 14 28 35 (codes "y")
    ∷ endpoint flow.Output kind.Stream 14 28 38 (codes "z") ∷ state (y.Base (b.Wrap (at 41) (int_of 46 (pos 5))) []) 49 (codes "w") None
    ∷ state (y.Base (b.Clamp (at 52) (int_of 58 (pos 5))) []) 61 (codes "c") (Some (int_of 65 (pos 4)))
    ∷ state (y.Base (b.Int (at 68)) (int_of 72 (pos 3) ∷ [])) 75 (codes "a") None
    ∷ state (int 78) 82 (codes "i") (Some (e.Unary (at 86) u.Minus (int_of 87 (pos 1))))
    ∷ main 90 (set 104 (codes "w") [] a.Subtract (int_of 109 (pos 1)) ∷ set 112 (codes "c") [] a.Add (int_of 117 (pos 1))
    ∷ set 120 (codes "a") (st.Index (at 121) (int_of 122 (pos 2)) ∷ []) a.Set (int_of 127 (pos 8)) ∷ write 130 (codes "x") (read 135 (codes "w"))
    ∷ write 138 (codes "y") (read 143 (codes "c")) ∷ write 146 (codes "z") (e.Index (at 151) (read 151 (codes "a")) (read 153 (codes "i"))) ∷ advance 157 ∷ []) ∷ []) ∷ []

converted : outcome converting (silence 1) 1000 ≡ Some (record { trace = item.Frame 0 (pos 4 ∷ pos 4 ∷ pos 8 ∷ []) ∷ []; ending = Ended })
unfolding stops found values_row exec exec_row todos floor_modulus to_signed to_unsigned to_wrap to_clamp to_bool nearest hidden-the_row-Expr-0 hidden-the_row-Expr-1 hidden-the_row-Stmt-0 hidden-the_row-Stmt-1 hidden-the_row-Decl-0 hidden main_of patch_names opened within decl_names decl_names_row param_names is_space space_scopes declare_all find_in outward onward find unit_names is_same are_same scalars scalars_of times flat flat_of flat_value flat_values copies zero_of zeros_of arrays all_there elements field_values constructed field_in element_in eval eval_row base_type with_fields field_types meant field_type type_of type_arguments arguments_of find_key is_path
converted = refl

-- processor A { output event int e; void main() { loop { e <- 1; advance(); } } }
abbrev sender : Decl
sender = processor 1 (codes "A") (endpoint flow.Output kind.Event 14 27 31 (codes "e") ∷ main 40 (loop 54 (write 60 (codes "e") (int_of 65 (pos 1)) ∷ advance 68 ∷ []) ∷ []) ∷ [])

-- processor B { input stream int in; input event int e; output stream int out; event e (int v) { out <- in; }
-- void main() { loop { out <- 10 * in; advance(); } } }
abbrev hearer : Decl
hearer = processor 201 (codes "B") (endpoint flow.Input kind.Stream 214 227 231 (codes "in") ∷ endpoint flow.Input kind.Event 235 248 252 (codes "e")
    ∷ endpoint flow.Output kind.Stream 255 268 272 (codes "out")
    ∷ m.Handler (at 277) (word 283 (codes "e")) (record { ty = int 286; name = word 290 (codes "v") }) (record { place = at 293; stmts = write 295 (codes "out") (read 302 (codes "in")) ∷ [] })
    ∷ main 310 (loop 324 (write 330 (codes "out") (e.Binary (at 337) o.Multiply (int_of 337 (pos 10)) (read 342 (codes "in"))) ∷ advance 346 ∷ []) ∷ []) ∷ [])

-- node a = A; node b = B; connection { a.e -> b.e; in -> b.in; b.out -> out; }: a handler runs before the turn of its leaf, and
-- has the input of the last frame
handled_first : outcome (sender ∷ hearer ∷ io_graph (node 560 (codes "a") 569 (codes "A") [] ∷ node 580 (codes "b") 589 (codes "B") [] ∷ []) (
    link 610 (of_node 610 (codes "a") (codes "e")) (of_node 616 (codes "b") (codes "e")) ∷ link 622 (own 622 (codes "in")) (of_node 628 (codes "b") (codes "in"))
    ∷ link 637 (of_node 637 (codes "b") (codes "out")) (own 643 (codes "out")) ∷ []) ∷ []) (input (pos 1 ∷ pos 2 ∷ pos 3 ∷ [])) 1000
    ≡ Some (record { trace = frame 0 (pos 10) ∷ frame 1 (pos 21) ∷ frame 2 (pos 32) ∷ []; ending = Ended })
unfolding stops found values_row exec exec_row todos floor_modulus to_signed to_unsigned to_wrap to_clamp to_bool nearest hidden-the_row-Expr-0 hidden-the_row-Expr-1 hidden-the_row-Stmt-0 hidden-the_row-Stmt-1 hidden-the_row-Decl-0 hidden main_of patch_names opened within decl_names decl_names_row param_names is_space space_scopes declare_all find_in outward onward find unit_names is_same are_same scalars scalars_of times flat flat_of flat_value flat_values copies zero_of zeros_of arrays all_there elements field_values constructed field_in element_in eval eval_row base_type with_fields field_types meant field_type type_of type_arguments arguments_of find_key is_path
handled_first = refl

-- processor P (using T, int n) { output stream int64 out; T s; void main() { loop { s = s + T(2147483647); out <- s * n; advance(); } } }
abbrev long_output : ℕ → List ℕ → Member
long_output column text =
    m.Ends (at column) flow.Output (record { place = at (column + 7); kind = kind.Stream; ty = y.Base (b.Int64 (at (column + 14))) []; names = record { name = word (column + 20) text; keys = [] } ∷ [] } ∷ [])

abbrev generic : Decl
generic = d.Processor (unit 1 11 (codes "P") (q.Type (at 14) (word 20 (codes "T")) ∷ q.Value (int 23) (word 27 (codes "n")) ∷ []) [] (
    long_output 32 (codes "out") ∷ state (named 57 (codes "T")) 59 (codes "s") None
    ∷ main 62 (loop 76 (set 83 (codes "s") [] a.Set (e.Binary (at 87) o.Add (read 87 (codes "s")) (e.Call (one_name 91 (codes "T")) (int_of 93 (pos 2147483647) ∷ [])))
    ∷ write 106 (codes "out") (e.Binary (at 113) o.Multiply (read 113 (codes "s")) (read 117 (codes "n"))) ∷ advance 120 ∷ []) ∷ []) ∷ []))

-- node a = P(int64, 3); node b = P(int, 3)[2]; connection { a.out -> wide; b.out -> narrow; }: each instance has its own types,
-- and the elements of an array add up
instances : outcome (generic ∷ main_graph (long_output 520 (codes "wide") ∷ long_output 550 (codes "narrow")
    ∷ node 560 (codes "a") 569 (codes "P") (g.Type (b.Int64 (at 571)) [] ∷ g.Value (int_of 578 (pos 3)) ∷ [])
    ∷ m.Nodes (at 580) (record { name = word 585 (codes "b"); path = one_name 589 (codes "P"); args = g.Type (b.Int (at 591)) [] ∷ g.Value (int_of 596 (pos 3)) ∷ []; count = Some (int_of 599 (pos 2)); factor = None } ∷ [])
    ∷ connections (link 610 (of_node 610 (codes "a") (codes "out")) (own 619 (codes "wide")) ∷ link 625 (of_node 625 (codes "b") (codes "out")) (own 634 (codes "narrow")) ∷ []) ∷ []) ∷ []) (silence 2) 1000
    ≡ Some (record { trace = item.Frame 0 (pos 6442450941 ∷ pos 4294967290 ∷ []) ∷ item.Frame 1 (pos 12884901882 ∷ negsuc 11 ∷ []) ∷ []; ending = Ended })
unfolding stops found values_row exec exec_row todos floor_modulus to_signed to_unsigned to_wrap to_clamp to_bool nearest hidden-the_row-Expr-0 hidden-the_row-Expr-1 hidden-the_row-Stmt-0 hidden-the_row-Stmt-1 hidden-the_row-Decl-0 hidden main_of patch_names opened within decl_names decl_names_row param_names is_space space_scopes declare_all find_in outward onward find unit_names is_same are_same scalars scalars_of times flat flat_of flat_value flat_values copies zero_of zeros_of arrays all_there elements field_values constructed field_in element_in eval eval_row base_type with_fields field_types meant field_type type_of type_arguments arguments_of find_key is_path
instances = refl

-- input value int gain [[ name: "Gain", min: 0, max: 10, init: 3 ]]; output stream int out; void main() { loop { out <- gain; advance(); } }
abbrev gain_keys : List Key
gain_keys = record { name = word 38 (codes "name"); value = Some (kv.Text (at 44) (codes "Gain")) } ∷ record { name = word 52 (codes "min"); value = Some (kv.Value (int_of 57 (pos 0))) }
    ∷ record { name = word 60 (codes "max"); value = Some (kv.Value (int_of 65 (pos 10))) } ∷ record { name = word 69 (codes "init"); value = Some (kv.Value (int_of 75 (pos 3))) } ∷ []

abbrev parameter : List Decl
parameter = processor 1 (codes "P") (m.Ends (at 14) flow.Input (record { place = at 20; kind = kind.Value; ty = int 26; names = record { name = word 30 (codes "gain"); keys = gain_keys } ∷ [] } ∷ [])
    ∷ endpoint flow.Output kind.Stream 80 94 98 (codes "out") ∷ main 103 (loop 117 (write 124 (codes "out") (read 131 (codes "gain")) ∷ advance 137 ∷ []) ∷ []) ∷ []) ∷ []

starts_at_init : outcome parameter (silence 1) 1000 ≡ Some (record { trace = frame 0 (pos 3) ∷ []; ending = Ended })
unfolding stops found values_row exec exec_row todos floor_modulus to_signed to_unsigned to_wrap to_clamp to_bool nearest hidden-the_row-Expr-0 hidden-the_row-Expr-1 hidden-the_row-Stmt-0 hidden-the_row-Stmt-1 hidden-the_row-Decl-0 hidden main_of patch_names opened within decl_names decl_names_row param_names is_space space_scopes declare_all find_in outward onward find unit_names is_same are_same scalars scalars_of times flat flat_of flat_value flat_values copies zero_of zeros_of arrays all_there elements field_values constructed field_in element_in eval eval_row base_type with_fields field_types meant field_type type_of type_arguments arguments_of find_key is_path
starts_at_init = refl

-- it changes before frame 1
changes : outcome parameter (record (silence 2) { values = record { frame = 1; endpoint = 0; value = pos 7 ∷ [] } ∷ [] }) 1000
    ≡ Some (record { trace = frame 0 (pos 3) ∷ frame 1 (pos 7) ∷ []; ending = Ended })
unfolding stops found values_row exec exec_row todos floor_modulus to_signed to_unsigned to_wrap to_clamp to_bool nearest hidden-the_row-Expr-0 hidden-the_row-Expr-1 hidden-the_row-Stmt-0 hidden-the_row-Stmt-1 hidden-the_row-Decl-0 hidden main_of patch_names opened within decl_names decl_names_row param_names is_space space_scopes declare_all find_in outward onward find unit_names is_same are_same scalars scalars_of times flat flat_of flat_value flat_values copies zero_of zeros_of arrays all_there elements field_values constructed field_in element_in eval eval_row base_type with_fields field_types meant field_type type_of type_arguments arguments_of find_key is_path
changes = refl

-- int n; void main() { loop { n += 1; out <- n; advance(); } } as node a = P * 3; connection a.out -> out;: the output of the
-- last of three inner frames is heard
inner_frames : outcome (processor 1 (codes "P") (endpoint flow.Output kind.Stream 14 27 31 (codes "out") ∷ state (int 57) 61 (codes "n") None
    ∷ main 65 (loop 80 (set 85 (codes "n") [] a.Add (int_of 90 (pos 1)) ∷ write 93 (codes "out") (read 100 (codes "n")) ∷ advance 103 ∷ []) ∷ []) ∷ [])
    ∷ io_graph (m.Nodes (at 560) (record { name = word 565 (codes "a"); path = one_name 569 (codes "P"); args = []; count = None; factor = Some (int_of 573 (pos 3)) } ∷ []) ∷ []) (
    link 610 (of_node 610 (codes "a") (codes "out")) (own 619 (codes "out")) ∷ []) ∷ []) (silence 2) 1000
    ≡ Some (record { trace = frame 0 (pos 3) ∷ frame 1 (pos 6) ∷ []; ending = Ended })
unfolding stops found values_row exec exec_row todos floor_modulus to_signed to_unsigned to_wrap to_clamp to_bool nearest hidden-the_row-Expr-0 hidden-the_row-Expr-1 hidden-the_row-Stmt-0 hidden-the_row-Stmt-1 hidden-the_row-Decl-0 hidden main_of patch_names opened within decl_names decl_names_row param_names is_space space_scopes declare_all find_in outward onward find unit_names is_same are_same scalars scalars_of times flat flat_of flat_value flat_values copies zero_of zeros_of arrays all_there elements field_values constructed field_in element_in eval eval_row base_type with_fields field_types meant field_type type_of type_arguments arguments_of find_key is_path
inner_frames = refl
