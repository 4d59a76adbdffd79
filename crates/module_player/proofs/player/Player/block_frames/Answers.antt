use Rattle.std.proofs.Common.{◌≡◌, ◌++◌, List, take, sym, ap, ◌∙◌, subst}
use Rattle.cm_base.specs.declared.play.Item.{Item}
use Rattle.cm_base.specs.Parts.{Task, following}
use Rattle.wasm_tree.specs.Section.{Slot, ends_of, block_length}
use Rattle.wasm_valid.specs.Views.{interface_number}
use Rattle.module_player.specs.Coming.{Comes, frame_list}
use Rattle.module_player.specs.Playing.{Playing, playing, goes, instance_of}
use Rattle.module_player.specs.Given.{Given, inputs_from}
use Rattle.module_player.proofs.PartsPlayed.{block_all}
use Rattle.module_player.proofs.player.Player.block_frames.Goals as goal

pub returns-clause-comes : goal.returns-clause-comes
returns-clause-comes g c =
    let q : Playing = playing c.call_frames.new.runner c.self.inside.steps c.write_block.new.self.current in
    let two = subst (λ (x : Playing). interface_number x.of.section.interface ≡ 2) (sym c.self.view_is) c.requires.interface in
    let current : q.current ≡ c.self.inside.given.current = ap (λ (x : Given). x.current) c.write_block.ensures.same in
    let comes =
    block_all {T = g.row.T.Denot} g.T.Teller.tells c.self.inside.runner c.write_block.new.runner c.self.inside.given c.self.inside.steps c.args.frame c.args.count c.args.streams.now q c.args.teller.now c.call_frames.result c.call_frames.new.teller
    c.self.invariant.writes current two c.requires.some c.write_block.ensures.written c.write_block.ensures.runner c.call_frames.ensures.told in
    subst (λ (x : Playing).
    (left : List Task) → take (block_length x.of.section.interface) (inputs_from (ends_of x.of.section) c.args.streams.now c.args.frame c.args.count ++ following left) ≡ inputs_from (ends_of x.of.section) c.args.streams.now c.args.frame c.args.count → (trace : List Item) →
    Comes {Teller = g.row.T.Denot} g.T.Teller.tells trace (goes x left) (goes x (frame_list c.args.frame (inputs_from (ends_of x.of.section) c.args.streams.now c.args.frame c.args.count) ++ left) (instance_of x trace)) c.args.teller.now c.call_frames.result q.globals q.memory q.current c.call_frames.new.teller) c.self.view_is comes
