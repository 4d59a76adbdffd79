use Rattle.std.proofs.Common.{◌≡◌, ◌∙◌, ◌<◌, ◌^◌, ap, sym, subst, rules, length}
use Rattle.std.specs.Prelude.{sum_by}
use Rattle.std.specs.List.{AllByRecursion}
use Rattle.wasm_runner.specs.Entries.{IsShaped}
use Rattle.module_player.specs.Rooms.{HaveRooms, AreRooms, output_size, frame_size}
use Rattle.module_player.proofs.RoomLemmas as R
use Rattle.module_player.proofs.outputs.Outputs.new.Goals as goal

pub size_of_frame-size-requires-clause-small : goal.size_of_frame-size-requires-clause-small
size_of_frame-size-requires-clause-small c =
    subst (AllByRecursion (λ end. length end.shape < 2 ^ 24)) (sym (c.as_slice-2.ensures ∙ c.host-2.ensures.same)) (R.small_ends c.args.slots.now c.requires)

pub invariant_of-result : goal.invariant_of-result
invariant_of-result c =
    let slots : c.in_ok-slots.slots ≡ c.args.slots.now = c.in_ok-slots.ensures in
    let long : length c.from_vec-frame.result ≡ c.size_of_frame-size.result = search rules in
    record {
      shaped = subst (AllByRecursion IsShaped) (sym slots) c.requires;
      each = subst (λ l. HaveRooms l c.in_ok-rooms.rooms.items) (sym slots)
          (R.rooms_of_ends c.args.slots.now c.in_ok-rooms.rooms.items (subst (λ l. AreRooms l c.in_ok-rooms.rooms.items) (c.as_slice.ensures ∙ c.host.ensures.same) c.in_ok-rooms.ensures));
      whole = long ∙ (c.size_of_frame-size.ensures ∙ (ap (sum_by output_size) (c.as_slice-2.ensures ∙ c.host-2.ensures.same) ∙ (R.frame_sum c.args.slots.now ∙ ap frame_size (sym slots))));
    }
