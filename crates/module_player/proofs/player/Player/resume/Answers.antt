-- The endpoints of a valid module are lawful, and the snapshot is one of the module.
use Rattle.std.proofs.Common.{sym, subst}
use Rattle.std.specs.List.{AllByRecursion}
use Rattle.wasm_runner.specs.Entries.{IsShaped}
use Rattle.wasm_runner.proofs.Slotted as S
use Rattle.module_player.proofs.player.Player.resume.Goals as goal

pub new-requires : goal.new-requires
new-requires c = subst (AllByRecursion IsShaped) (sym c.table.ensures) (S.shaped c.args.valid.of c.args.valid.section c.module-module.ensures.valid)
