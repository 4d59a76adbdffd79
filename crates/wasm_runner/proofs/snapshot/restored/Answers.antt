-- Global by global.
use Rattle.std.proofs.Common.{◌≡◌, ◌+◌, ◌++◌, ◌∷◌, [], get_or, ℤ, pos, to_z, of_z, ap, sym, ◌∙◌, subst, rules}
use Rattle.std.specs.Int.{w64}
use Rattle.wasm_runner.proofs.First.{constant_fits}
use Rattle.wasm_runner.proofs.Restored as R
use Rattle.wasm_runner.proofs.snapshot.restored.Goals as goal
use Rattle.wasm_runner.proofs.snapshot.restored.Goals.{then-var+in_ok-push, else-var+in_ok-push-2}

pub loop-var-preserved : goal.loop-var-preserved
loop-var-preserved c = elim c.if-var.branch [
  | then-var+in_ok-push w ↦
      (let z : ℤ = to_z w64 (of_z w64 (get_or c.args.kept.now c.loop-var.at (pos 0))) in
      let is : z ≡ get_or c.args.kept.now c.loop-var.at (pos 0) = search rules in
      let items : c.if-var.globals.items ≡ c.loop-var.globals.items ++ w.bits.result ∷ [] = ap (λ v. v.items) w.globals-is ∙ w.in_ok-push.ensures.items in
      subst (λ n. R.AreRestored c.args.vars.now c.args.kept.now (c.loop-var.var-index + 1) n c.if-var.globals.items) (sym w.at-is)
      (R.from_snapshot c.args.vars.now c.args.kept.now c.loop-var.var-index c.loop-var.at c.loop-var.globals.items c.loop-var.invariant c.var-item.result c.loop-var-test.true c.var-item.is
      w.if-var.true z w.bits.result c.if-var.globals.items is w.bits.ensures.value w.bits.ensures.fits items))
  | else-var+in_ok-push-2 w ↦
      (let constant = R.constant_here c.args.vars.now c.args.kept.now c.loop-var.var-index c.loop-var.at c.loop-var.globals.items c.loop-var.invariant c.var-item.result c.loop-var-test.true c.var-item.is in
      let items : c.if-var.globals.items ≡ c.loop-var.globals.items ++ w.constant.result ∷ [] = ap (λ v. v.items) w.globals-is ∙ w.in_ok-push-2.ensures.items in
      subst (λ n. R.AreRestored c.args.vars.now c.args.kept.now (c.loop-var.var-index + 1) n c.if-var.globals.items) (sym w.at-is)
      (R.from_module c.args.vars.now c.args.kept.now c.loop-var.var-index c.loop-var.at c.loop-var.globals.items c.loop-var.invariant c.var-item.result c.loop-var-test.true c.var-item.is
      w.if-var.false w.constant.result c.if-var.globals.items w.constant.ensures.value
      (constant_fits c.var-item.result.ty c.var-item.result.value w.constant.result constant w.constant.ensures.fits32 w.constant.ensures.fits64) items))
]
