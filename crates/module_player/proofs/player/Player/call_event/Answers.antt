-- The event has a number among the event inputs.
use Rattle.std.proofs.Common.{◌<◌, List, sym, ap, ◌∙◌, subst, ℤ}
use Rattle.cm_base.specs.declared.host.Kind.TheVariants as kinds
use Rattle.cm_base.specs.Tasks.{IsTaken}
use Rattle.wasm_tree.specs.Host.{event_inputs}
use Rattle.wasm_tree.specs.Section.{Slot, ends_of}
use Rattle.wasm_tree.specs.Slots.{event_number}
use Rattle.module_player.specs.Playing.{Playing}
use Rattle.module_player.specs.Writing.{ends_in}
use Rattle.module_player.proofs.States.{taken_below}
use Rattle.module_player.proofs.player.Player.call_event.Goals as goal

pub call_part-requires-clause-offers : goal.call_part-requires-clause-offers
call_part-requires-clause-offers g c =
    let slots : List Slot = c.self.inside.runner.of.section.slots in
    let taken : IsTaken kinds.Event (ends_in slots) c.args.endpoint c.requires.taken.0 = subst (λ (p : Playing). IsTaken kinds.Event (ends_of p.of.section) c.args.endpoint c.requires.taken.0) (sym c.self.view_is) c.requires.taken.1 in
    subst (λ n. n < event_inputs (ends_in slots)) (sym (c.event_number-number.ensures ∙ ap (λ (s : List Slot). event_number s c.args.endpoint) c.self.invariant.writes)) (taken_below slots c.args.endpoint c.requires.taken.0 taken)
