use Rattle.std.proofs.Common.{sym, subst}
use Rattle.std.specs.List.{AllByRecursion}
use Rattle.wasm_runner.specs.Entries.{IsShaped}
use Rattle.wasm_runner.proofs.Slotted as S
use Rattle.module_player.proofs.player.Player.new.Goals as goal

pub new-requires-2 : goal.new-requires-2
new-requires-2 c = subst (AllByRecursion IsShaped) (sym c.table.ensures) (S.shaped c.args.valid.of c.args.valid.section c.module-module.ensures.valid)
