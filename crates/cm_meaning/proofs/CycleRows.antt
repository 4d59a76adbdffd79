-- What needs itself in small patches, worked by hand, and which declaration is the main one.
use Rattle.std.specs.Prelude.{ℕ, ◌≡◌, refl, Bool, true, false, IsTrue, List, [], ◌∷◌, map, Some, None, option_map, Contains, codes, Option, filter_map}
use Rattle.std.proofs.Common.{arith, ◌+◌, subst, sym}
use Rattle.cm_base.specs.declared.cause.Cause.TheVariants as cause
use Rattle.cm_base.specs.declared.place.Place.{Place}
use Rattle.cm_base.specs.declared.host.Flow.TheVariants.{Output}
use Rattle.cm_base.specs.declared.host.Kind.TheVariants.{Stream}
use Rattle.cm_tree.specs.declared.expr.Expr.TheVariants as e
use Rattle.cm_tree.specs.declared.expr.Base.TheVariants as b
use Rattle.cm_tree.specs.declared.type_expr.TypeExpr.TheVariants as y
use Rattle.cm_tree.specs.declared.stmt.Stmt.TheVariants as x
use Rattle.cm_tree.specs.declared.shared.Function.{Function as FunctionDecl}
use Rattle.cm_tree.specs.declared.member.Key.{Key}
use Rattle.cm_tree.specs.declared.member.Member.TheVariants as m
use Rattle.cm_tree.specs.declared.decl.Param.TheVariants as q
use Rattle.cm_tree.specs.declared.decl.Decl.TheVariants as d
use Rattle.cm_tree.specs.declared.file.File.{File}
use Rattle.cm_tree.specs.declared.expr.Base.TheBlock.{hidden-the_row-Expr-0, hidden-the_row-Expr-1}
use Rattle.cm_tree.specs.declared.stmt.Stmt.TheBlock.{hidden-the_row-Stmt-0, hidden-the_row-Stmt-1}
use Rattle.cm_tree.specs.declared.decl.Decl.TheBlock.{hidden-the_row-Decl-0}
use denote.Hole.Carrier.{hidden}
use Rattle.cm_meaning.specs.Declared.{Named, Function, Declared, is_function}
use Rattle.cm_meaning.specs.Scopes.{declared, in_space, opened, within, decl_names, decl_names_row, param_names, is_space, space_scopes, declare_all, find_in, outward, onward, find, patch_names, unit_names}
use Rattle.cm_meaning.specs.Sites.{Part, Writes, Site, expr_sites, expr_sites_row, argument_sites, base_sites}
use Rattle.cm_meaning.specs.BodySites.{init_sites, var_sites, stmt_sites, stmts_row, stmts_sites}
use Rattle.cm_meaning.specs.PatchSites.{given_all, decl_sites, decl_sites_row, patch_sites}
use Rattle.cm_meaning.specs.Needs.{Need, definition_needs, graph_needs, call_needs, Reaches, here, along, IsOnCycle}
use Rattle.cm_meaning.specs.NameFaults.{IsNameFault, recursion}
use Rattle.cm_meaning.specs.Mains.{DeclaredUnit, main_of, marked, without_parameters, lacks_main, further}
use Rattle.cm_meaning.proofs.Trees.{at, word, one_name, read, number, let_decl, using_decl, call, function, void_decl, unit, processor, graph, endpoint, node, file}

first_of : {A : Type 0} (x : A) (xs : List A) → Contains (x ∷ xs) x
first_of x xs = (0, omega arith, refl)

second_of : {A : Type 0} (x y : A) (xs : List A) → Contains (x ∷ y ∷ xs) y
second_of x y xs = (1, omega arith, refl)

-- a need of itself
of_itself : (sort : Named → Bool) (n : Need) (more : List Need) → IsTrue (sort n.from.named) → n.to.word.place ≡ n.from.word.place → IsOnCycle (n ∷ more) sort n.at
of_itself sort n more sorted same = record {
  need = n;
  is_need = first_of n more;
  at = refl;
  other = n;
  is_other = first_of n more;
  sorted = sorted;
  there = subst (Reaches (n ∷ more) n.to.word.place) same (here n.to.word.place);
  back = here n.from.word.place;
}

-- void f() { f(); }
abbrev calls_itself : List File
calls_itself = file (void_decl 1 (codes "f") (call 12 (codes "f") ∷ []) ∷ [])

abbrev f_of : List ℕ → ℕ → FunctionDecl → Declared
f_of name column f = declared (in_space []) (word column name) (Function f)

abbrev the_call : Need
the_call = record {
  from = f_of (codes "f") 6 (function 1 (codes "f") [] (call 12 (codes "f") ∷ []));
  at = at 12;
  to = f_of (codes "f") 6 (function 1 (codes "f") [] (call 12 (codes "f") ∷ []));
}

one_call : call_needs calls_itself ≡ the_call ∷ []
unfolding given_all decl_sites decl_sites_row init_sites var_sites stmt_sites stmts_row stmts_sites expr_sites expr_sites_row argument_sites base_sites opened within decl_names decl_names_row param_names is_space space_scopes declare_all find_in outward onward hidden-the_row-Expr-0 hidden-the_row-Expr-1 hidden-the_row-Stmt-0 hidden-the_row-Stmt-1 hidden-the_row-Decl-0 hidden find patch_names unit_names patch_sites main_of
one_call = refl

is_recursion : IsNameFault calls_itself cause.Recursion (at 12)
is_recursion = recursion (at 12) (subst (λ needs. IsOnCycle needs is_function (at 12)) (sym one_call) (of_itself is_function the_call [] refl refl))

-- a need as the places of the two names and of the use between them
abbrev told : Need → Place × Place × Place
told n = (n.from.word.place, n.at, n.to.word.place)

-- void f() { g(); } void g() { h(); } void h() { f(); }
abbrev three_calls : List File
three_calls = file (void_decl 1 (codes "f") (call 12 (codes "g") ∷ []) ∷ void_decl 19 (codes "g") (call 30 (codes "h") ∷ []) ∷ void_decl 37 (codes "h") (call 48 (codes "f") ∷ []) ∷ [])

-- let a = b; let b = a;
abbrev two_constants : List File
two_constants = file (let_decl 1 (codes "a") (read 9 (codes "b")) ∷ let_decl 12 (codes "b") (read 20 (codes "a")) ∷ [])

-- let a = T(1); using T = int[a];
abbrev of_both_kinds : List File
of_both_kinds = file (let_decl 1 (codes "a") (e.Call (one_name 9 (codes "T")) (number 11 ∷ [])) ∷ using_decl 15 (codes "T") (y.Base (b.Int (at 25)) (read 29 (codes "a") ∷ [])) ∷ [])

-- let a = f(); int f() { return a; }: a cycle through a function is none of names
abbrev through_function : List File
through_function = file (let_decl 1 (codes "a") (e.Call (one_name 9 (codes "f")) []) ∷ void_decl 14 (codes "f") (x.Return (at 25) (Some (read 32 (codes "a"))) ∷ []) ∷ [])

-- graph G { node a = H; } graph H { node a = G; }
abbrev two_graphs : List File
two_graphs = file (graph 1 (codes "G") (node 11 (codes "a") 20 (codes "H") [] ∷ []) ∷ graph 25 (codes "H") (node 35 (codes "a") 44 (codes "G") [] ∷ []) ∷ [])

calls_told : map told (call_needs three_calls) ≡ (at 6, at 12, at 24) ∷ (at 24, at 30, at 42) ∷ (at 42, at 48, at 6) ∷ []
unfolding given_all decl_sites decl_sites_row init_sites var_sites stmt_sites stmts_row stmts_sites expr_sites expr_sites_row argument_sites base_sites opened within decl_names decl_names_row param_names is_space space_scopes declare_all find_in outward onward hidden-the_row-Expr-0 hidden-the_row-Expr-1 hidden-the_row-Stmt-0 hidden-the_row-Stmt-1 hidden-the_row-Decl-0 hidden find patch_names unit_names patch_sites main_of
calls_told = refl

constants_told : map (λ (f : List File). map told (definition_needs f)) (two_constants ∷ of_both_kinds ∷ through_function ∷ [])
    ≡ ((at 5, at 9, at 16) ∷ (at 16, at 20, at 5) ∷ []) ∷ ((at 5, at 9, at 21) ∷ (at 21, at 29, at 5) ∷ []) ∷ [] ∷ []
unfolding given_all decl_sites decl_sites_row init_sites var_sites stmt_sites stmts_row stmts_sites expr_sites expr_sites_row argument_sites base_sites opened within decl_names decl_names_row param_names is_space space_scopes declare_all find_in outward onward hidden-the_row-Expr-0 hidden-the_row-Expr-1 hidden-the_row-Stmt-0 hidden-the_row-Stmt-1 hidden-the_row-Decl-0 hidden find patch_names unit_names patch_sites main_of
constants_told = refl

graphs_told : map told (graph_needs two_graphs) ≡ (at 7, at 20, at 31) ∷ (at 31, at 44, at 7) ∷ []
unfolding given_all decl_sites decl_sites_row init_sites var_sites stmt_sites stmts_row stmts_sites expr_sites expr_sites_row argument_sites base_sites opened within decl_names decl_names_row param_names is_space space_scopes declare_all find_in outward onward hidden-the_row-Expr-0 hidden-the_row-Expr-1 hidden-the_row-Stmt-0 hidden-the_row-Stmt-1 hidden-the_row-Decl-0 hidden find patch_names unit_names patch_sites main_of
graphs_told = refl

-- three needs in a ring
of_three : (sort : Named → Bool) (a b c : Need) → IsTrue (sort a.from.named) → a.to.word.place ≡ b.from.word.place → b.to.word.place ≡ c.from.word.place → c.to.word.place ≡ a.from.word.place
    → IsOnCycle (a ∷ b ∷ c ∷ []) sort a.at
of_three sort a b c sorted ab bc ca =
    let needs : List Need = a ∷ b ∷ c ∷ [] in
    let last : Reaches needs c.from.word.place a.from.word.place = along c _ (2, omega arith, refl) (subst (λ p. Reaches needs c.to.word.place p) ca (here _)) in
    let middle : Reaches needs b.from.word.place a.from.word.place = along b _ (1, omega arith, refl) (subst (λ p. Reaches needs p a.from.word.place) (sym bc) last) in
    record {
      need = a;
      is_need = (0, omega arith, refl);
      at = refl;
      other = a;
      is_other = (0, omega arith, refl);
      sorted = sorted;
      there = subst (λ p. Reaches needs p a.from.word.place) (sym ab) middle;
      back = here a.from.word.place;
    }

abbrev calls : List ℕ → ℕ → ℕ → List ℕ → Declared
calls name column place other = f_of name (column + 5) (function column name [] (call place other ∷ []))

abbrev needs_call : Declared → ℕ → Declared → Need
needs_call from place to = record { from = from; at = at place; to = to }

three_needs : call_needs three_calls
    ≡ needs_call (calls (codes "f") 1 12 (codes "g")) 12 (calls (codes "g") 19 30 (codes "h"))
    ∷ needs_call (calls (codes "g") 19 30 (codes "h")) 30 (calls (codes "h") 37 48 (codes "f"))
    ∷ needs_call (calls (codes "h") 37 48 (codes "f")) 48 (calls (codes "f") 1 12 (codes "g")) ∷ []
unfolding given_all decl_sites decl_sites_row init_sites var_sites stmt_sites stmts_row stmts_sites expr_sites expr_sites_row argument_sites base_sites opened within decl_names decl_names_row param_names is_space space_scopes declare_all find_in outward onward hidden-the_row-Expr-0 hidden-the_row-Expr-1 hidden-the_row-Stmt-0 hidden-the_row-Stmt-1 hidden-the_row-Decl-0 hidden find patch_names unit_names patch_sites main_of
three_needs = refl

-- each of three functions needs itself
is_recursion_of_three : IsNameFault three_calls cause.Recursion (at 12)
is_recursion_of_three = recursion (at 12) (subst (λ needs. IsOnCycle needs is_function (at 12)) (sym three_needs) (of_three is_function _ _ _ refl refl refl refl))

-- ---- writes of an init

-- processor P { output stream int o; void init() { g(); } void g() { o <- 1; } void main() { o <- 1; } }
abbrev init_writes : List File
init_writes = file (processor 1 (codes "P") (
    endpoint Output Stream 15 29 33 (codes "o")
    ∷ m.Function (function 36 (codes "init") [] (call 50 (codes "g") ∷ []))
    ∷ m.Function (function 57 (codes "g") [] (x.Write (word 68 (codes "o")) (number 73) ∷ []))
    ∷ m.Function (function 78 (codes "main") [] (x.Write (word 92 (codes "o")) (number 97) ∷ [])) ∷ []) ∷ [])

-- the only call is that of g
init_calls : map told (call_needs init_writes) ≡ (at 41, at 50, at 62) ∷ []
unfolding given_all decl_sites decl_sites_row init_sites var_sites stmt_sites stmts_row stmts_sites expr_sites expr_sites_row argument_sites base_sites opened within decl_names decl_names_row param_names is_space space_scopes declare_all find_in outward onward hidden-the_row-Expr-0 hidden-the_row-Expr-1 hidden-the_row-Stmt-0 hidden-the_row-Stmt-1 hidden-the_row-Decl-0 hidden find patch_names unit_names patch_sites main_of
init_calls = refl

-- a write, and the function in which it stands: `init` reaches that of g
abbrev write_told : Site → Option (Place × Place)
write_told s = of_part s.part s.around.inside where
  of_part : Part → Option Declared → Option (Place × Place)
  of_part (Writes w) (Some d) = Some (w.place, d.word.place)
  of_part _ _ = None

writes_told : filter_map write_told (patch_sites init_writes) ≡ (at 68, at 62) ∷ (at 92, at 83) ∷ []
unfolding given_all decl_sites decl_sites_row init_sites var_sites stmt_sites stmts_row stmts_sites expr_sites expr_sites_row argument_sites base_sites opened within decl_names decl_names_row param_names is_space space_scopes declare_all find_in outward onward hidden-the_row-Expr-0 hidden-the_row-Expr-1 hidden-the_row-Stmt-0 hidden-the_row-Stmt-1 hidden-the_row-Decl-0 hidden find patch_names unit_names patch_sites main_of
writes_told = refl

-- ---- the main declaration

abbrev mark : Key
mark = record { name = word 15 (codes "main"); value = None }

-- processor P { } graph G { }; then P marked; then both marked; then G alone with a parameter; the same, marked
abbrev unmarked : List File
unmarked = file (processor 1 (codes "P") [] ∷ graph 17 (codes "G") [] ∷ [])

abbrev one_marked : List File
one_marked = file (d.Processor (unit 1 11 (codes "P") [] (mark ∷ []) []) ∷ graph 30 (codes "G") [] ∷ [])

abbrev two_marked : List File
two_marked = file (d.Processor (unit 1 11 (codes "P") [] (mark ∷ []) []) ∷ d.Graph (unit 30 36 (codes "G") [] (mark ∷ []) []) ∷ [])

abbrev beside_parameters : List File
beside_parameters = file (d.Processor (unit 1 11 (codes "P") (q.Type (at 14) (word 20 (codes "T")) ∷ []) [] []) ∷ graph 30 (codes "G") [] ∷ [])

abbrev place_of : DeclaredUnit → Place
place_of x = x.unit.place

mains : map (λ (f : List File). option_map place_of (main_of f)) (unmarked ∷ one_marked ∷ two_marked ∷ beside_parameters ∷ [])
    ≡ None ∷ Some (at 1) ∷ None ∷ Some (at 30) ∷ []
unfolding opened within decl_names decl_names_row hidden-the_row-Decl-0 hidden patch_names main_of
mains = refl

missing : map (λ (f : List File). lacks_main (marked f) (without_parameters f)) (unmarked ∷ one_marked ∷ two_marked ∷ beside_parameters ∷ []) ≡ true ∷ false ∷ false ∷ false ∷ []
unfolding opened within decl_names decl_names_row hidden-the_row-Decl-0 hidden patch_names main_of
missing = refl

seconds : map place_of (further (marked two_marked)) ≡ at 30 ∷ []
unfolding opened within decl_names decl_names_row hidden-the_row-Decl-0 hidden patch_names main_of
seconds = refl
