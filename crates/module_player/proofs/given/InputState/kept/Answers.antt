-- There is a current value for each endpoint.
use Rattle.std.proofs.Common.{◌≡◌, length, sym, ap, ◌∙◌, subst}
use Rattle.std.proofs.lemmas.List.{length-map}
use Rattle.wasm_tree.specs.Section.{Slot}
use Rattle.module_player.proofs.Written.{values_length}
use Rattle.module_player.proofs.given.InputState.kept.Goals as goal

pub kept-requires : goal.kept-requires
kept-requires c =
    ap length c.deref.ensures.value
    ∙ (values_length c.self.inside.slots c.self.inside.current.items c.self.invariant.values
    ∙ sym (ap length (c.as_slice.ensures ∙ c.host.ensures.same) ∙ length-map c.self.inside.slots (λ (slot : Slot). slot.end)))
