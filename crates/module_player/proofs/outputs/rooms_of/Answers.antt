use Rattle.std.proofs.Common.{◌≡◌, ◌∙◌, ◌+◌, ◌++◌, [], ◌∷◌, ap, sym, rules, length, subst, take}
use Rattle.std.proofs.lemmas.List.{take_more}
use Rattle.module_player.specs.Rooms.{AreRooms}
use Rattle.module_player.proofs.RoomLemmas as R
use Rattle.module_player.proofs.outputs.rooms_of.Goals as goal

pub loop-end-preserved : goal.loop-end-preserved
loop-end-preserved c =
    let ends = c.args.ends.now in
    let long : length c.from_vec.result ≡ length c.end-item.result.shape = search rules in
    let items : c.push.new.self.items ≡ c.loop-end.rooms.items ++ c.from_vec.result ∷ [] = search rules in
    let more : take (c.loop-end.end-index + 1) ends ≡ take c.loop-end.end-index ends ++ c.end-item.result ∷ [] =
    take_more ends c.loop-end.end-index c.end-item.result c.loop-end-test.true ∙ ap (λ e. take c.loop-end.end-index ends ++ e ∷ []) (sym c.end-item.is) in
    subst (λ l. AreRooms l c.push.new.self.items) (sym more)
    (subst (λ l. AreRooms (take c.loop-end.end-index ends ++ c.end-item.result ∷ []) l) (sym items)
    (R.rooms_more (take c.loop-end.end-index ends) c.loop-end.rooms.items c.end-item.result c.from_vec.result c.loop-end.invariant long))
