use Rattle.std.proofs.Common.{sym, subst}
use Rattle.std.specs.List.{AllByRecursion}
use Rattle.wasm_runner.specs.Entries.{IsShaped}
use Rattle.wasm_runner.proofs.Slotted as S
use Rattle.wasm_runner.proofs.runner.Runner.read_slot.Goals as goal

pub read_at-requires-clause-shaped : goal.read_at-requires-clause-shaped
read_at-requires-clause-shaped c = subst (AllByRecursion IsShaped) (sym c.table.ensures) (S.shaped c.self.inside.valid.of c.self.inside.valid.section c.module-module.ensures.valid)
