-- The current values have their shapes.
use Rattle.std.proofs.Common.{◌≡◌, subst, rules}
use Rattle.cm_base.specs.HostEnds.{IsLawful}
use Rattle.wasm_tree.specs.HostRun.{zeros_of}
use Rattle.wasm_tree.specs.Stopped.{restored_current}
use Rattle.module_player.specs.Writing.{ends_in}
use Rattle.module_player.specs.Given.{numbers_from}
use Rattle.module_player.proofs.Resuming.{given_resumed}
use Rattle.module_player.proofs.given.InputState.resume.Goals as goal

pub invariant_of-result : goal.invariant_of-result
invariant_of-result c =
    let lawful : IsLawful (ends_in c.args.slots) = subst IsLawful c.host.ensures.same c.host.ensures.lawful in
    let current : c.in_ok-current.current.items ≡ restored_current (ends_in c.args.slots) c.args.kept.now = search rules in
    let rooms : c.in_ok-rooms.rooms.items ≡ zeros_of (ends_in c.args.slots) = search rules in
    let numbers : c.in_ok-numbers.numbers.items ≡ numbers_from 0 c.args.slots = search rules in
    given_resumed c.args.slots c.args.kept.now c.in_ok-current.current.items c.in_ok-rooms.rooms.items c.in_ok-numbers.numbers.items lawful c.requires current rooms numbers
