use Rattle.std.proofs.Common.{◌++◌, ◌+◌, ap, sym, ◌∙◌}
use Rattle.wasm_valid.specs.CallEdges.{calls_in}
use Rattle.wasm_valid.proofs.CallLemmas.{calls_on}
use Rattle.wasm_valid.proofs.calls.call_edges.Goals as goal

pub loop-at-preserved : goal.loop-at-preserved
loop-at-preserved c =
    calls_on c.loop-at.edges.items c.add_calls.new.edges.items c.args.bodies.now c.loop-at.at c.index-bodies-at.result c.loop-at-test.true c.index-bodies-at.is c.loop-at.invariant
    (c.in_ok-add_calls.ensures ∙ ap (λ code. c.loop-at.edges.items ++ calls_in (c.loop-at.at + 1) code) c.as_slice.ensures
    ∙ ap (λ body. c.loop-at.edges.items ++ calls_in (c.loop-at.at + 1) body.code) (sym c.index-bodies-at.is))
