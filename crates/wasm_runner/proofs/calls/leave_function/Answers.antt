-- An end is the reduction that gives back.
use Rattle.std.proofs.Common.{refl}
use Rattle.wasm_runner.specs.Activations.{stacks}
use Rattle.wasm_runner.proofs.Leaving as L
use Rattle.wasm_runner.proofs.calls.leave_function.Goals as goal

pub returns : goal.returns
returns c = λ scope codes blocks globals memory k g. L.ends scope codes (stacks c.args.cells.now blocks c.args.callers.now globals memory) c.args.from c.args.sp k g c.requires.there.waits _ (L.mark_here _ _ _ _ c.requires.there.waits refl) _ _ c.give_over.ensures.results c.give_over.ensures.long refl
