use Rattle.std.proofs.Common.{◌∙◌, sym, arith}
use Rattle.wasm_valid.proofs.ChangeLemmas.{all_begin}
use Rattle.wasm_valid.proofs.operands.Operands.take_all.Goals as goal

pub returns-clause-took : goal.returns-clause-took
returns-clause-took c = sym c.loop-ty.invariant.same ∙ all_begin c.loop-ty.self c.args.types.now c.loop-ty.ty-index (omega arith) c.loop-ty.invariant.open_
