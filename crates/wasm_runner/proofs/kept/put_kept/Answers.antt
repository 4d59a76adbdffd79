-- Global by global.
use Rattle.std.proofs.Common.{◌≡◌, ◌+◌, to_z, of_z, rules, sym, ◌∙◌, subst}
use Rattle.std.specs.Int.{w64}
use Rattle.wasm_runner.proofs.MutableGlobals as M
use Rattle.wasm_runner.proofs.kept.put_kept.Goals as goal
use Rattle.wasm_runner.proofs.kept.put_kept.Goals.{then-var, else-var}

pub overflow_add-at : goal.overflow_add-at
overflow_add-at c = let few = c.loop-i.invariant.few in let i = c.loop-i-test.true in search rules

pub loop-i-preserved : goal.loop-i-preserved
loop-i-preserved c = elim c.if-var.branch [
  | then-var w ↦
      (let round : to_z w64 (of_z w64 w.signed.result) ≡ w.signed.result = search rules in
      subst (λ n. M.AreKept c.args.vars.now c.args.globals.now (c.loop-i.i + 1) n c.if-var.into) (sym w.at-is)
      (M.written c.args.vars.now c.args.globals.now c.loop-i.i c.loop-i.at c.loop-i.into c.loop-i.invariant c.index-vars-i.result c.loop-i-test.true c.index-vars-i.is
      w.if-var.true (to_z w64 (of_z w64 w.signed.result)) c.if-var.into (round ∙ w.signed.ensures) (w.into-is ∙ w.set.ensures)))
  | else-var w ↦
      subst (λ n. M.AreKept c.args.vars.now c.args.globals.now (c.loop-i.i + 1) n c.if-var.into) (sym w.at-is)
      (subst (λ zs. M.AreKept c.args.vars.now c.args.globals.now (c.loop-i.i + 1) c.loop-i.at zs) (sym w.into-is)
      (M.passed c.args.vars.now c.args.globals.now c.loop-i.i c.loop-i.at c.loop-i.into c.loop-i.invariant c.index-vars-i.result c.loop-i-test.true c.index-vars-i.is w.if-var.false))
]
