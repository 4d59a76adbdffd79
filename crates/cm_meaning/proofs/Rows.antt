-- The faults of small patches, worked by hand.
use Rattle.std.specs.Prelude.{◌≡◌, refl, true, List, [], ◌∷◌, map, Some, None, codes}
use Rattle.cm_base.specs.declared.cause.Cause.TheVariants as cause
use Rattle.cm_base.specs.declared.host.Flow.TheVariants.{Input, Output}
use Rattle.cm_base.specs.declared.host.Kind.TheVariants.{Stream, Event}
use Rattle.cm_tree.specs.declared.expr.Expr.TheVariants as e
use Rattle.cm_tree.specs.declared.stmt.Stmt.TheVariants as x
use Rattle.cm_tree.specs.declared.expr.Base.TheVariants as b
use Rattle.cm_tree.specs.declared.type_expr.TypeExpr.TheVariants as y
use Rattle.cm_tree.specs.declared.type_expr.Arg.TheVariants as g
use Rattle.cm_tree.specs.declared.simple.Local.TheVariants as l
use Rattle.cm_tree.specs.declared.simple.Simple.TheVariants as i
use Rattle.cm_tree.specs.declared.stmt.Start.TheVariants as start
use Rattle.cm_tree.specs.declared.operator.Change.TheVariants as change
use Rattle.cm_tree.specs.declared.shared.Shared.TheVariants as h
use Rattle.cm_tree.specs.declared.member.KeyValue.TheVariants as kv
use Rattle.cm_tree.specs.declared.member.Member.TheVariants as m
use Rattle.cm_tree.specs.declared.decl.Param.TheVariants as q
use Rattle.cm_tree.specs.declared.decl.Decl.{Decl}
use Rattle.cm_tree.specs.declared.decl.Decl.TheVariants as d
use Rattle.cm_tree.specs.declared.file.File.{File}
use Rattle.cm_tree.specs.declared.expr.Base.TheBlock.{hidden-the_row-Expr-0, hidden-the_row-Expr-1}
use Rattle.cm_tree.specs.declared.stmt.Stmt.TheBlock.{hidden-the_row-Stmt-0, hidden-the_row-Stmt-1}
use Rattle.cm_tree.specs.declared.decl.Decl.TheBlock.{hidden-the_row-Decl-0}
use denote.Hole.Carrier.{hidden}
use Rattle.cm_meaning.specs.Scopes.{patch_names, opened, within, decl_names, decl_names_row, param_names, is_space, space_scopes, declare_all, find_in, outward, onward, find, unit_names}
use Rattle.cm_meaning.specs.Sites.{expr_sites, expr_sites_row, argument_sites, base_sites}
use Rattle.cm_meaning.specs.BodySites.{init_sites, var_sites, stmt_sites, stmts_row, stmts_sites}
use Rattle.cm_meaning.specs.PatchSites.{given_all, decl_sites, decl_sites_row, patch_sites}
use Rattle.cm_meaning.specs.Faults.{fault}
use Rattle.cm_meaning.specs.NameRows.{repeated, rows}
use Rattle.cm_meaning.specs.NameFaults.{site_faults, clashing, member_faults}
use Rattle.cm_meaning.proofs.Trees.{at, word, path, one_name, read, number, int, named, let_decl, using_decl, int_local, assign, call, function, void_decl, unit, processor, graph, endpoint, handler, node, point, link, file, body, faulty}

-- ---- what is visible

-- let a = 1; void f() { int a = a; a = 1; }: the local hides the constant behind its declaration
abbrev inner_hides : List File
inner_hides = file (
    let_decl 1 (codes "a") (number 9)
    ∷ void_decl 12 (codes "f") (int_local 23 (codes "a") (Some (read 31 (codes "a"))) ∷ assign 34 (codes "a") (number 38) ∷ [])
    ∷ [])

-- let a = 1; void f() { a = 1; int a; }: the constant is found at the assignment
abbrev not_yet_declared : List File
not_yet_declared = file (
    let_decl 1 (codes "a") (number 9)
    ∷ void_decl 12 (codes "f") (assign 23 (codes "a") (number 27) ∷ int_local 30 (codes "a") None ∷ [])
    ∷ [])

-- void f() { { int a; } a = 1; }: the block's local is gone
abbrev block_ends : List File
block_ends = body (x.Block (at 12) (int_local 14 (codes "a") None ∷ []) ∷ assign 23 (codes "a") (number 27) ∷ [])

-- void f() { if (true) int a; else int a; }: each arm has its own scope
abbrev two_arms : List File
two_arms = body (x.IfElse (at 12) (e.Truth (at 16) true) (int_local 22 (codes "a") None) (int_local 34 (codes "a") None) ∷ [])

-- void f() { int a; int a; }
abbrev twice_in_a_block : List File
twice_in_a_block = body (int_local 12 (codes "a") None ∷ int_local 19 (codes "a") None ∷ [])

-- void f(int a) { int a; }: the body is a scope in that of the parameters
abbrev parameter_hidden : List File
parameter_hidden = file (d.Function (function 1 (codes "f") (record { ty = int 8; name = word 12 (codes "a") } ∷ []) (int_local 17 (codes "a") None ∷ [])) ∷ [])

-- void f() { for (int i; ; ) { int i; } i = 1; }: the variable of a `for` is gone behind it, and its body may hide it
abbrev for_ends : List File
for_ends = body (
    x.For (at 12) (Some (start.Local (l.Typed (int 17) (record { name = word 21 (codes "i"); value = None } ∷ [])))) None None (x.Block (at 28) (int_local 30 (codes "i") None ∷ []))
    ∷ assign 39 (codes "i") (number 43) ∷ [])

visible : map site_faults (inner_hides ∷ not_yet_declared ∷ block_ends ∷ two_arms ∷ twice_in_a_block ∷ parameter_hidden ∷ for_ends ∷ [])
    ≡ [] ∷ faulty cause.AssignTarget 23 ∷ faulty cause.UnknownName 23 ∷ [] ∷ faulty cause.DuplicateName 23 ∷ [] ∷ faulty cause.UnknownName 39 ∷ []
unfolding site_faults rows repeated given_all decl_sites decl_sites_row init_sites var_sites stmt_sites stmts_row stmts_sites expr_sites expr_sites_row argument_sites base_sites opened within decl_names decl_names_row param_names is_space space_scopes declare_all find_in outward onward hidden-the_row-Expr-0 hidden-the_row-Expr-1 hidden-the_row-Stmt-0 hidden-the_row-Stmt-1 hidden-the_row-Decl-0 hidden find patch_names unit_names patch_sites
visible = refl

-- ---- namespaces

-- namespace N { let a = 1; } namespace N { let b = a; } let c = N::b;: the parts are one scope
abbrev two_parts : List File
two_parts = file (
    d.Namespace (at 1) (one_name 11 (codes "N")) (let_decl 15 (codes "a") (number 23) ∷ [])
    ∷ d.Namespace (at 28) (one_name 38 (codes "N")) (let_decl 42 (codes "b") (read 50 (codes "a")) ∷ [])
    ∷ let_decl 55 (codes "c") (e.Name (path 63 (codes "N" ∷ codes "b" ∷ []))) ∷ [])

-- namespace N::M { let a = 1; } let b = N::M::a;
abbrev inner_namespace : List File
inner_namespace = file (
    d.Namespace (at 1) (path 11 (codes "N" ∷ codes "M" ∷ [])) (let_decl 18 (codes "a") (number 26) ∷ [])
    ∷ let_decl 31 (codes "b") (e.Name (path 39 (codes "N" ∷ codes "M" ∷ codes "a" ∷ []))) ∷ [])

-- let a = 1; namespace N { } let b = N::a;: a further name is searched in the namespace alone
abbrev not_outward : List File
not_outward = file (
    let_decl 1 (codes "a") (number 9) ∷ d.Namespace (at 12) (one_name 22 (codes "N")) []
    ∷ let_decl 28 (codes "b") (e.Name (path 36 (codes "N" ∷ codes "a" ∷ []))) ∷ [])

-- using T = int; let b = T::a;: a type has no names in it
abbrev no_namespace : List File
no_namespace = file (using_decl 1 (codes "T") (int 11) ∷ let_decl 16 (codes "b") (e.Name (path 24 (codes "T" ∷ codes "a" ∷ []))) ∷ [])

spaces : map site_faults (two_parts ∷ inner_namespace ∷ not_outward ∷ no_namespace ∷ [])
    ≡ [] ∷ [] ∷ faulty cause.UnknownName 36 ∷ faulty cause.UnknownName 24 ∷ []
unfolding site_faults rows repeated given_all decl_sites decl_sites_row init_sites var_sites stmt_sites stmts_row stmts_sites expr_sites expr_sites_row argument_sites base_sites opened within decl_names decl_names_row param_names is_space space_scopes declare_all find_in outward onward hidden-the_row-Expr-0 hidden-the_row-Expr-1 hidden-the_row-Stmt-0 hidden-the_row-Stmt-1 hidden-the_row-Decl-0 hidden find patch_names unit_names patch_sites
spaces = refl

-- using N = int; namespace N { } namespace N { }: at each namespace behind the type; parts alone don't clash
clashes_named : clashing [] (patch_names (file (using_decl 1 (codes "N") (int 11) ∷ d.Namespace (at 16) (one_name 26 (codes "N")) [] ∷ d.Namespace (at 32) (one_name 42 (codes "N")) [] ∷ [])))
    ≡ fault cause.DuplicateName (at 26) ∷ fault cause.DuplicateName (at 42) ∷ []
unfolding clashing is_space opened within decl_names decl_names_row hidden-the_row-Decl-0 hidden patch_names
clashes_named = refl

parts_are_one : clashing [] (patch_names two_parts) ≡ []
unfolding clashing is_space opened within decl_names decl_names_row hidden-the_row-Decl-0 hidden patch_names
parts_are_one = refl

-- ---- what each place takes

-- using T = int; let a = T;
abbrev type_read : List File
type_read = file (using_decl 1 (codes "T") (int 11) ∷ let_decl 16 (codes "a") (read 24 (codes "T")) ∷ [])

-- let a = 1; using T = a;
abbrev constant_as_type : List File
constant_as_type = file (let_decl 1 (codes "a") (number 9) ∷ using_decl 12 (codes "T") (named 22 (codes "a")) ∷ [])

-- void f() { f(1); }
abbrev one_too_many : List File
one_too_many = body (x.Simple (i.Call (one_name 12 (codes "f")) (number 14 ∷ [])) ∷ [])

-- using T = int; void f(int x) { f(T); }: two causes hold
abbrev type_as_argument : List File
type_as_argument = file (
    using_decl 1 (codes "T") (int 11)
    ∷ d.Function (function 16 (codes "f") (record { ty = int 23; name = word 27 (codes "x") } ∷ []) (x.Simple (i.Call (one_name 32 (codes "f")) (read 34 (codes "T") ∷ [])) ∷ []))
    ∷ [])

-- void f() { break; loop break; }
abbrev jumps : List File
jumps = body (x.Break (at 12) ∷ x.Loop (at 19) None (x.Break (at 24)) ∷ [])

-- void f() { for (wrap<1> i) i = 1; }
abbrev counter_assigned : List File
counter_assigned = body (x.ForType (at 12) (y.Base (b.Wrap (at 17) (number 22)) []) (word 25 (codes "i")) (assign 28 (codes "i") (number 32)) ∷ [])

taken : map site_faults (type_read ∷ constant_as_type ∷ one_too_many ∷ type_as_argument ∷ jumps ∷ counter_assigned ∷ [])
    ≡ faulty cause.WrongName 24 ∷ faulty cause.WrongName 22 ∷ faulty cause.ArgumentCount 12
    ∷ (fault cause.ArgumentKind (at 34) ∷ fault cause.WrongName (at 34) ∷ []) ∷ faulty cause.LoopPlace 12 ∷ faulty cause.AssignTarget 28 ∷ []
unfolding site_faults rows repeated given_all decl_sites decl_sites_row init_sites var_sites stmt_sites stmts_row stmts_sites expr_sites expr_sites_row argument_sites base_sites opened within decl_names decl_names_row param_names is_space space_scopes declare_all find_in outward onward hidden-the_row-Expr-0 hidden-the_row-Expr-1 hidden-the_row-Stmt-0 hidden-the_row-Stmt-1 hidden-the_row-Decl-0 hidden find patch_names unit_names patch_sites
taken = refl

-- ---- processors

-- processor P { input event int e; output stream int o; void main() { o <- e; e <- 1; advance(); } void g() { advance(); main(); } }
abbrev uses_endpoints : List File
uses_endpoints = file (processor 1 (codes "P") (
    endpoint Input Event 15 27 31 (codes "e") ∷ endpoint Output Stream 34 48 52 (codes "o")
    ∷ m.Function (function 55 (codes "main") [] (x.Write (word 69 (codes "o")) (read 74 (codes "e")) ∷ x.Write (word 77 (codes "e")) (number 82) ∷ x.Advance (at 85) ∷ []))
    ∷ m.Function (function 98 (codes "g") [] (x.Advance (at 109) ∷ call 120 (codes "main") ∷ []))
    ∷ []) ∷ [])

-- processor P { void main(int x) { } processor.latency = 1; processor.latency = 1; }
abbrev two_latencies : List File
two_latencies = file (processor 1 (codes "P") (
    m.Function (function 15 (codes "main") (record { ty = int 25; name = word 29 (codes "x") } ∷ []) [])
    ∷ m.Latency (at 36) (number 56) ∷ m.Latency (at 59) (number 79) ∷ []) ∷ [])

-- processor P { input event int e; output stream int o; event e (int v) { } event e (int v) { } event o (int v) { } event n (int v) { } }
abbrev handlers : List File
handlers = file (processor 1 (codes "P") (
    endpoint Input Event 15 27 31 (codes "e") ∷ endpoint Output Stream 34 48 52 (codes "o")
    ∷ handler 55 61 (codes "e") ∷ handler 75 81 (codes "e") ∷ handler 95 101 (codes "o") ∷ handler 115 121 (codes "n")
    ∷ []) ∷ [])

processors : map site_faults (uses_endpoints ∷ two_latencies ∷ handlers ∷ [])
    ≡ (fault cause.EndpointUse (at 74) ∷ fault cause.EndpointUse (at 77) ∷ fault cause.AdvancePlace (at 109) ∷ fault cause.AdvancePlace (at 120) ∷ [])
    ∷ (fault cause.DuplicateName (at 59) ∷ fault cause.MainShape (at 15) ∷ [])
    ∷ (fault cause.DuplicateName (at 81) ∷ fault cause.WrongName (at 101) ∷ fault cause.UnknownName (at 121) ∷ []) ∷ []
unfolding site_faults rows repeated given_all decl_sites decl_sites_row init_sites var_sites stmt_sites stmts_row stmts_sites expr_sites expr_sites_row argument_sites base_sites opened within decl_names decl_names_row param_names is_space space_scopes declare_all find_in outward onward hidden-the_row-Expr-0 hidden-the_row-Expr-1 hidden-the_row-Stmt-0 hidden-the_row-Stmt-1 hidden-the_row-Decl-0 hidden find patch_names unit_names patch_sites
processors = refl

-- ---- graphs

-- processor P (using T) { output stream int out; }
abbrev generic : Decl
generic = d.Processor (unit 1 11 (codes "P") (q.Type (at 14) (word 20 (codes "T")) ∷ []) [] (endpoint Output Stream 25 39 43 (codes "out") ∷ []))

-- and then graph G { node a = P; }
abbrev lacks_argument : List File
lacks_argument = file (generic ∷ graph 50 (codes "G") (node 60 (codes "a") 69 (codes "P") [] ∷ []) ∷ [])

-- .. graph G { node a = P(1); }
abbrev value_for_type : List File
value_for_type = file (generic ∷ graph 50 (codes "G") (node 60 (codes "a") 69 (codes "P") (g.Value (number 71) ∷ []) ∷ []) ∷ [])

-- .. graph G { output stream int o; node a = P(int); connection { a.out -> o; a -> o; a.in -> P; o.out -> a.out; } }
abbrev points : List File
points = file (generic ∷ graph 50 (codes "G") (
    endpoint Output Stream 60 74 78 (codes "o") ∷ node 81 (codes "a") 90 (codes "P") (g.Type (b.Int (at 92)) [] ∷ [])
    ∷ m.Connection (at 98) (
    link 111 (point 111 (codes "a") (Some (word 113 (codes "out")))) (point 120 (codes "o") None)
    ∷ link 123 (point 123 (codes "a") None) (point 128 (codes "o") None)
    ∷ link 131 (point 131 (codes "a") (Some (word 133 (codes "in")))) (point 139 (codes "P") None)
    ∷ link 142 (point 142 (codes "o") (Some (word 144 (codes "out")))) (point 151 (codes "a") (Some (word 153 (codes "out")))) ∷ [])
    ∷ []) ∷ [])

-- graph H { } graph G { node a = H * 1; node b = c; node c = G::x; }
abbrev nodes : List File
nodes = file (graph 1 (codes "H") [] ∷ graph 13 (codes "G") (
    m.Nodes (at 23) (record { name = word 28 (codes "a"); path = one_name 32 (codes "H"); args = []; count = None; factor = Some (number 36) } ∷ [])
    ∷ node 39 (codes "b") 48 (codes "c") []
    ∷ m.Nodes (at 51) (record { name = word 56 (codes "c"); path = path 60 (codes "G" ∷ codes "x" ∷ []); args = []; count = None; factor = None } ∷ [])
    ∷ []) ∷ [])

graphs : map site_faults (lacks_argument ∷ value_for_type ∷ points ∷ nodes ∷ [])
    ≡ faulty cause.ArgumentCount 65 ∷ faulty cause.ArgumentKind 71
    ∷ (fault cause.UnknownName (at 123) ∷ fault cause.UnknownName (at 131) ∷ fault cause.UnknownName (at 139) ∷ fault cause.UnknownName (at 142) ∷ [])
    ∷ (fault cause.FactorTarget (at 36) ∷ fault cause.WrongName (at 48) ∷ fault cause.UnknownName (at 60) ∷ []) ∷ []
unfolding site_faults rows repeated given_all decl_sites decl_sites_row init_sites var_sites stmt_sites stmts_row stmts_sites expr_sites expr_sites_row argument_sites base_sites opened within decl_names decl_names_row param_names is_space space_scopes declare_all find_in outward onward hidden-the_row-Expr-0 hidden-the_row-Expr-1 hidden-the_row-Stmt-0 hidden-the_row-Stmt-1 hidden-the_row-Decl-0 hidden find patch_names unit_names patch_sites
graphs = refl

-- ---- scopes of functions, structs and annotations

-- using T = int; void f(int T, T x) { }: a parameter is visible in the types of the function
abbrev type_hidden : List File
type_hidden = file (
    using_decl 1 (codes "T") (int 11)
    ∷ d.Function (function 16 (codes "f") (record { ty = int 23; name = word 27 (codes "T") } ∷ record { ty = named 30 (codes "T"); name = word 32 (codes "x") } ∷ []) [])
    ∷ [])

-- struct S { int a, b; int a; }
abbrev field_twice : List File
field_twice = file (d.Shared (h.Struct (at 1) (word 8 (codes "S"))
    (record { ty = int 12; names = word 16 (codes "a") ∷ word 19 (codes "b") ∷ [] } ∷ record { ty = int 22; names = word 26 (codes "a") ∷ [] } ∷ [])) ∷ [])

-- processor P (using n, n m) [[ gain: k ]] { int n; }: the parameter and the member are in one scope, a later parameter's type
-- and the annotation are in it too, and every path of an annotation is looked up
abbrev one_scope : List File
one_scope = file (d.Processor (unit 1 11 (codes "P")
    (q.Type (at 14) (word 20 (codes "n")) ∷ q.Value (named 23 (codes "n")) (word 25 (codes "m")) ∷ [])
    (record { name = word 31 (codes "gain"); value = Some (kv.Value (read 37 (codes "k"))) } ∷ [])
    (m.State (int 44) (record { name = word 48 (codes "n"); value = None } ∷ []) ∷ [])) ∷ [])

-- namespace N { static_assert(x); }: its names are looked up
abbrev names_alone : List File
names_alone = file (d.Namespace (at 1) (one_name 11 (codes "N")) (d.Shared (h.Assert (record { place = at 15; condition = read 29 (codes "x"); text = None })) ∷ []) ∷ [])

-- void f() { int b = 1, c = b; c++; ++d; }
abbrev in_one_declaration : List File
in_one_declaration = body (
    x.Local (l.Typed (int 12) (record { name = word 16 (codes "b"); value = Some (number 20) } ∷ record { name = word 23 (codes "c"); value = Some (read 27 (codes "b")) } ∷ []))
    ∷ x.Simple (i.After (record { name = word 30 (codes "c"); steps = [] }) change.Increase) ∷ x.Simple (i.Before (at 35) change.Increase (record { name = word 37 (codes "d"); steps = [] })) ∷ [])

scopes : map site_faults (type_hidden ∷ field_twice ∷ one_scope ∷ names_alone ∷ in_one_declaration ∷ [])
    ≡ faulty cause.WrongName 30 ∷ faulty cause.DuplicateName 26 ∷ (fault cause.DuplicateName (at 48) ∷ fault cause.UnknownName (at 37) ∷ [])
    ∷ faulty cause.UnknownName 29 ∷ faulty cause.UnknownName 37 ∷ []
unfolding site_faults rows repeated given_all decl_sites decl_sites_row init_sites var_sites stmt_sites stmts_row stmts_sites expr_sites expr_sites_row argument_sites base_sites opened within decl_names decl_names_row param_names is_space space_scopes declare_all find_in outward onward hidden-the_row-Expr-0 hidden-the_row-Expr-1 hidden-the_row-Stmt-0 hidden-the_row-Stmt-1 hidden-the_row-Decl-0 hidden find patch_names unit_names patch_sites
scopes = refl

-- struct S { } processor P (using T, int n) { } and graph G { node a = P(S, S); node b = P(1, P); node c = P(x, 1); }
abbrev node_arguments : List File
node_arguments = file (
    d.Shared (h.Struct (at 1) (word 8 (codes "S")) [])
    ∷ d.Processor (unit 14 24 (codes "P") (q.Type (at 27) (word 33 (codes "T")) ∷ q.Value (int 36) (word 40 (codes "n")) ∷ []) [] [])
    ∷ graph 46 (codes "G") (
    node 56 (codes "a") 65 (codes "P") (g.Value (read 67 (codes "S")) ∷ g.Value (read 70 (codes "S")) ∷ [])
    ∷ node 74 (codes "b") 83 (codes "P") (g.Value (number 85) ∷ g.Value (read 88 (codes "P")) ∷ [])
    ∷ node 92 (codes "c") 101 (codes "P") (g.Value (read 103 (codes "x")) ∷ g.Value (number 106) ∷ []) ∷ []) ∷ [])

given : site_faults node_arguments
    ≡ fault cause.ArgumentKind (at 70) ∷ fault cause.ArgumentKind (at 85) ∷ fault cause.WrongName (at 88) ∷ fault cause.UnknownName (at 103) ∷ []
unfolding site_faults rows repeated given_all decl_sites decl_sites_row init_sites var_sites stmt_sites stmts_row stmts_sites expr_sites expr_sites_row argument_sites base_sites opened within decl_names decl_names_row param_names is_space space_scopes declare_all find_in outward onward hidden-the_row-Expr-0 hidden-the_row-Expr-1 hidden-the_row-Stmt-0 hidden-the_row-Stmt-1 hidden-the_row-Decl-0 hidden find patch_names unit_names patch_sites
given = refl

-- of them the building of scopes refuses these
refused_members : map member_faults (one_scope ∷ field_twice ∷ two_parts ∷ []) ≡ faulty cause.DuplicateName 48 ∷ [] ∷ [] ∷ []
unfolding member_faults clashing repeated opened within decl_names decl_names_row param_names is_space patch_names unit_names hidden-the_row-Decl-0 hidden
refused_members = refl
