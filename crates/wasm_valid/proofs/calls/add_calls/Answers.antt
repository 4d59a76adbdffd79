use Rattle.std.proofs.Common.{◌++◌, ap, ◌∙◌, []}
use Rattle.std.specs.List.{cons_option}
use Rattle.wasm_valid.proofs.CallLemmas.{calls_grow}
use Rattle.wasm_valid.proofs.calls.add_calls.Goals as goal

pub loop-instr-preserved : goal.loop-instr-preserved
loop-instr-preserved c =
    calls_grow c.args.edges.now.items c.loop-instr.edges.items c.put.new.edges.items c.args.from c.args.code.now c.loop-instr.instr-index c.instr-item.result c.loop-instr-test.true c.instr-item.is c.loop-instr.invariant
    (c.in_ok-put.ensures ∙ ap (λ edge. c.loop-instr.edges.items ++ cons_option edge []) c.call_of.ensures)
