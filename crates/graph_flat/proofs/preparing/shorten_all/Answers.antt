use Rattle.std.proofs.Common.{ℕ, ◌-◌, sym, ◌∙◌, arith, refl, subst, length}
use Rattle.graph_flat.specs.Wires.{IsReady}
use Rattle.graph_flat.proofs.preparing.shorten_all.Goals as goal

pub shorten-requires-clause-ready : goal.shorten-requires-clause-ready
shorten-requires-clause-ready c = subst (λ (n : ℕ). IsReady n c.loop-step.wires) c.loop-step.invariant.same.count c.loop-step.invariant.ready

pub shorten-requires-clause-few : goal.shorten-requires-clause-few
shorten-requires-clause-few c = let s = c.loop-step.invariant.same.count in let f = c.requires.few in omega (arith, s, f)

pub shorten-requires-clause-within : goal.shorten-requires-clause-within
shorten-requires-clause-within c =
    let lt = c.loop-step-test.true in
    let w = c.requires.within (length c.args.order.now - 1 - c.loop-step.step) 0 (omega (arith, lt)) in
    let s = c.loop-step.invariant.same.count in
    omega (arith, w, s)

pub loop-step-preserved : goal.loop-step-preserved
loop-step-preserved c =
    let old = c.loop-step.invariant.same in
    let new = c.shorten.ensures.same in
    record {
      count = refl;
      ready = subst (λ (n : ℕ). IsReady n c.shorten.new.self) (sym old.count) c.shorten.ensures.ready;
      same = record { connections = old.connections ∙ new.connections; targets = old.targets ∙ new.targets; count = old.count ∙ new.count };
    }
