use Rattle.std.proofs.Common.{◌≡◌, ◌∙◌, ap, length}
use Rattle.module_player.proofs.RoomLemmas as R
use Rattle.module_player.proofs.outputs.Outputs.tell_frame.Goals as goal

pub invariant_of-self : goal.invariant_of-self
invariant_of-self g c =
    let same : c.value_of.result ≡ c.read_outputs.new.into = c.value_of.ensures in
    record {
      shaped = c.self.invariant.shaped;
      each = c.read_outputs.ensures.rooms;
      whole = ap length (same ∙ c.read_outputs.ensures.read) ∙ R.outputs_length c.self.inside.slots c.args.entry c.args.memory.now;
    }
