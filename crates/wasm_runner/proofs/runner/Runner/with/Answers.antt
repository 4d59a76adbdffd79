-- What is taken at the start suffices.
use Rattle.std.proofs.Common.{◌≡◌, ◌<◌, length, rules, subst}
use Rattle.std.specs.List.{AllByRecursion}
use Rattle.wasm_runner.proofs.First as F
use Rattle.wasm_runner.proofs.runner.Runner.with.Goals as goal

pub invariant_of-result : goal.invariant_of-result
invariant_of-result c =
    let cells : length c.in_ok-cells.cells.items ≡ c.args.valid.stack = search rules in
    let blocks : length c.in_ok-blocks.blocks.items ≡ c.args.valid.marks = search rules in
    let callers : length c.in_ok-callers.callers.items ≡ c.args.valid.marks = search rules in
    let slice : c.as_slice.result.now ≡ c.args.memory.items = search rules in
    let bytes : AllByRecursion (λ byte. byte < 256) c.args.memory.items = subst (AllByRecursion (λ byte. byte < 256)) slice c.are_bytes.ensures in
    F.can_run c.args.valid (record { valid = c.«module».ensures.valid; bounds = c.stack.ensures.bounds }) _ c.«module».ensures.same _ _ _ _ _ _
    c.in_ok-functions.ensures c.requires.long bytes c.requires.typed cells blocks callers
