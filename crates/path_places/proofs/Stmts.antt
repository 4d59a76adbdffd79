-- What is looked up in a statement stands at its tokens, in their order.
use Rattle.std.proofs.Common.{List, [], ◌∷◌, refl}
use Rattle.std.specs.Prelude.{Option}
use Rattle.cm_tree.specs.declared.token.Token.{Token}
use Rattle.cm_tree.specs.declared.type_expr.TypeExpr.{TypeExpr}
use Rattle.cm_tree.specs.declared.type_expr.Typed.{Typed}
use Rattle.cm_tree.specs.declared.simple.Init.{Init}
use Rattle.cm_tree.specs.declared.simple.Var.{Var}
use Rattle.cm_tree.specs.declared.simple.Local.{Local}
use Rattle.cm_tree.specs.declared.simple.Step.{Step}
use Rattle.cm_tree.specs.declared.simple.Target.{Target}
use Rattle.cm_tree.specs.declared.simple.Simple.{Simple}
use Rattle.cm_tree.specs.declared.stmt.Assert.{Assert}
use Rattle.cm_tree.specs.declared.stmt.Start.{Start}
use Rattle.cm_tree.specs.declared.stmt.Block.{Block}
use Rattle.cm_tree.specs.declared.stmt.Stmt.{Stmt}
use Rattle.cm_tree.specs.Lists as lists
use Rattle.cm_tree.specs.Lists.{Optional, Further, Listed}
use Rattle.cm_tree.specs.StmtSpelling.{SpellsTyped, SpellsInit, SpellsVar, SpellsLocal, SpellsStep, SpellsTarget, SpellsSimple, SpellsAssert, SpellsStart, SpellsStmt, SpellsStmts, SpellsBlock}
use Rattle.cm_tree.specs.StmtSpelling as g
use Rattle.cm_meaning.specs.Declared.{Home, Declared}
use Rattle.cm_meaning.specs.Scopes.{Around, scoped, looped, declare, local_constant, inferred_local, typed_local}
use Rattle.cm_meaning.specs.Sites.{expr_sites, optional_sites}
use Rattle.cm_meaning.specs.BodySites.{init_sites, var_sites, local_sites, step_sites, target_sites, simple_sites, start_sites, next_sites, after, after_start, counter, stmt_sites, stmts_sites, block_sites}
use Rattle.cm_meaning.specs.SiteEquations.{stmt_sites-Block, stmt_sites-Empty, stmt_sites-Local, stmt_sites-Simple, stmt_sites-Assert, stmt_sites-If, stmt_sites-IfElse, stmt_sites-Loop, stmt_sites-While, stmt_sites-ForType, stmt_sites-For, stmt_sites-Break, stmt_sites-Continue, stmt_sites-Return, stmt_sites-Advance, stmt_sites-Write}
use Rattle.cm_meaning.specs.PatchSites.{typed_sites}
use Rattle.path_places.proofs.Follow.{Follow, none, past, plain, ahead, both, at_path, at_word, at_every}
use Rattle.path_places.proofs.Exprs.{at_expr, at_args, at_optional, at_type}

-- ---- locals

at_further_inits : (named : Home → Init → Declared) (r : Around) {all : List Init} {tokens : List Token} → Further SpellsInit all tokens → Follow (init_sites named r all) tokens
unfolding init_sites
at_further_inits named r lists.none = none
at_further_inits named r (lists.more a all comma first others is (g.init w v t equals value h1 h2 spelled) further) =
    past (plain refl (past (past (both (at_expr r spelled) (at_further_inits named (declare r (named r.home a)) further)))))

pub at_inits : (named : Home → Init → Declared) (r : Around) {all : List Init} {tokens : List Token} → Listed SpellsInit all tokens → Follow (init_sites named r all) tokens
unfolding init_sites
at_inits named r (lists.listed a all first others (g.init w v t equals value h1 h2 spelled) further) =
    plain refl (past (past (both (at_expr r spelled) (at_further_inits named (declare r (named r.home a)) further))))

pub at_var : (r : Around) {a : Var} {tokens : List Token} → SpellsVar a tokens → Follow (optional_sites r a.value) tokens
at_var r (g.bare w t is) = none
at_var r (g.init w a t equals value h1 h2 spelled) = past (past (at_expr r spelled))

at_further_vars : (start : Around) (ty : TypeExpr) (r : Around) {all : List Var} {tokens : List Token} → Further SpellsVar all tokens → Follow (var_sites start ty r all) tokens
unfolding var_sites
at_further_vars start ty r lists.none = none
at_further_vars start ty r (lists.more a all comma first others is spelled further) =
    past (plain refl (both (at_var r spelled) (at_further_vars start ty (declare r (typed_local r.home ty a)) further)))

pub at_vars : (start : Around) (ty : TypeExpr) (r : Around) {all : List Var} {tokens : List Token} → Listed SpellsVar all tokens → Follow (var_sites start ty r all) tokens
unfolding var_sites
at_vars start ty r (lists.listed a all first others spelled further) =
    plain refl (both (at_var r spelled) (at_further_vars start ty (declare r (typed_local r.home ty a)) further))

pub at_local : (r : Around) {a : Local} {tokens : List Token} → SpellsLocal a tokens → Follow (local_sites r a) tokens
at_local r (g.constants all t others is spelled) = past (at_inits local_constant r spelled)
at_local r (g.variables all t others is spelled) = past (at_inits inferred_local r spelled)
at_local r (g.typed ty all front others h spelled) = both (at_type r h) (at_vars r ty r spelled)

-- ---- what a statement is made of

at_step : (r : Around) (a : Step) (tokens : List Token) → SpellsStep a tokens → Follow (step_sites r a) tokens
at_step r a tokens (g.field w dot t h1 h2) = none
at_step r a tokens (g.index v o c inner h1 spelled h2) = past (ahead (c ∷ []) (at_expr r spelled))

at_target : (r : Around) {a : Target} {tokens : List Token} → SpellsTarget a tokens → Follow (target_sites r a) tokens
at_target r (g.target w steps t others is spelled) = at_word refl is (at_every (step_sites r) (at_step r) spelled)

pub at_simple : (r : Around) {a : Simple} {tokens : List Token} → SpellsSimple a tokens → Follow (simple_sites r a) tokens
at_simple r (g.assign v op a t front value spelled h given) = both (at_target r spelled) (past (at_expr r given))
at_simple r (g.after v op t front spelled h) = ahead (t ∷ []) (at_target r spelled)
at_simple r (g.before v op t others h spelled) = past (at_target r spelled)
at_simple r (g.call q args o c front inner at h1 spelled h2) = at_path refl at (past (ahead (c ∷ []) (at_args r spelled)))

pub at_assert : (r : Around) {a : Assert} {tokens : List Token} → SpellsAssert a tokens → Follow (expr_sites r a.condition) tokens
at_assert r (g.bare a t o c end inner h1 h2 spelled h3 h4) = past (past (ahead (c ∷ end ∷ []) (at_expr r spelled)))
at_assert r (g.told a text t o comma v c end inner h1 h2 spelled h3 h4 h5 h6) = past (past (ahead (comma ∷ v ∷ c ∷ end ∷ []) (at_expr r spelled)))

at_start : (r : Around) {a : Option Start} {tokens : List Token} → Optional SpellsStart a tokens → Follow (start_sites r a) tokens
at_start r lists.absent = none
at_start r (lists.present x tokens (g.declared a all spelled)) = at_local r spelled
at_start r (lists.present x tokens (g.simple a all spelled)) = at_simple r spelled

at_next : (r : Around) {a : Option Simple} {tokens : List Token} → Optional SpellsSimple a tokens → Follow (next_sites r a) tokens
at_next r lists.absent = none
at_next r (lists.present x tokens spelled) = at_simple r spelled

-- ---- statements

mutual
  unfolding stmts_sites

  pub at_stmt : (r : Around) {a : Stmt} {tokens : List Token} → SpellsStmt a tokens → Follow (stmt_sites r a) tokens
  at_stmt r (g.block all o c inner h1 spelled h2) = rw stmt_sites-Block (past (ahead (c ∷ []) (at_stmts (scoped r []) spelled)))
  at_stmt r (g.empty t is) = rw stmt_sites-Empty none
  at_stmt r (g.declared a end front spelled is) = rw stmt_sites-Local (ahead (end ∷ []) (at_local r spelled))
  at_stmt r (g.simple a end front spelled is) = rw stmt_sites-Simple (ahead (end ∷ []) (at_simple r spelled))
  at_stmt r (g.asserted a tokens spelled) = rw stmt_sites-Assert (at_assert r spelled)
  at_stmt r (g.if_only c a t o p test body h1 h2 tested h3 spelled) =
      rw stmt_sites-If (past (past (both (at_expr r tested) (past (at_stmt (scoped r []) spelled)))))
  at_stmt r (g.if_else c a b t o p v test body tail h1 h2 tested h3 spelled h4 h5 other) =
      rw stmt_sites-IfElse (past (past (both (at_expr r tested) (past (both (at_stmt (scoped r []) spelled) (past (at_stmt (scoped r []) other)))))))
  at_stmt r (g.forever a t body is spelled) = rw stmt_sites-Loop (past (at_stmt (scoped (looped r) []) spelled))
  at_stmt r (g.times c a t o p count body h1 h2 counted h3 spelled) =
      rw stmt_sites-Loop (past (past (both (at_expr r counted) (past (at_stmt (scoped (looped r) []) spelled)))))
  at_stmt r (g.while c a t o p test body h1 h2 tested h3 spelled) =
      rw stmt_sites-While (past (past (both (at_expr r tested) (past (at_stmt (scoped (looped r) []) spelled)))))
  at_stmt r (g.for_type ty w a t o n p front body h1 h2 typed h3 h4 spelled) =
      rw stmt_sites-ForType (past (past (both (at_type r typed) (plain refl (past (past (at_stmt (scoped (scoped (looped r) (counter r ty w ∷ [])) []) spelled)))))))
  at_stmt r (g.for_parts b c n a t o u v p first test next body h1 h2 begun h3 tested h4 stepped h5 spelled) =
      rw stmt_sites-For (past (past (both (at_start (scoped r []) begun)
      (past (both (at_optional (after_start (scoped r []) b) tested)
      (past (both (at_next (after_start (scoped r []) b) stepped)
      (past (at_stmt (scoped (looped (after_start (scoped r []) b)) []) spelled)))))))))
  at_stmt r (g.break t end h1 h2) = rw stmt_sites-Break (plain refl none)
  at_stmt r (g.continue t end h1 h2) = rw stmt_sites-Continue (plain refl none)
  at_stmt r (g.return c t end value h1 spelled h2) = rw stmt_sites-Return (past (ahead (end ∷ []) (at_optional r spelled)))
  at_stmt r (g.advance t o p end h1 h2 h3 h4) = rw stmt_sites-Advance (plain refl none)
  at_stmt r (g.write w a t arrow end value is h1 spelled h2) = rw stmt_sites-Write (at_word refl is (past (ahead (end ∷ []) (at_expr r spelled))))

  pub at_stmts : (r : Around) {all : List Stmt} {tokens : List Token} → SpellsStmts all tokens → Follow (stmts_sites r all) tokens
  at_stmts r g.no_stmts = none
  at_stmts r (g.stmts a all first others spelled further) = both (at_stmt r spelled) (at_stmts (after r a) further)

pub at_block : (r : Around) {a : Block} {tokens : List Token} → SpellsBlock a tokens → Follow (block_sites r a) tokens
at_block r (g.block all o c inner h1 spelled h2) = past (ahead (c ∷ []) (at_stmts (scoped r []) spelled))

-- ---- what a function or a member begins with

pub at_typed : (r : Around) (a : Typed) (tokens : List Token) → SpellsTyped a tokens → Follow (typed_sites r a) tokens
at_typed r a tokens (g.typed ty w t front spelled is) = ahead (t ∷ []) (at_type r spelled)
