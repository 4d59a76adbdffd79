-- One frame, or a block of them.
use Rattle.std.proofs.Common.{◌≡◌, ◌+◌, ◌++◌, ℕ, List, sym, ap, ◌∙◌, subst, arith, rules, ℤ}
use Rattle.cm_base.specs.Parts.{Begin, Frame, inputs_at}
use Rattle.cm_base.specs.Tasks.{AreInputs}
use Rattle.wasm_tree.specs.Section.{ends_of, block_length}
use Rattle.module_player.specs.Cursors.{tasks_left}
use Rattle.module_player.proofs.Going.{frame_inputs, single_block}
use Rattle.module_player.proofs.run.play_frames.Goals as goal

pub single_frame-requires-clause-inputs : goal.single_frame-requires-clause-inputs
single_frame-requires-clause-inputs g c =
    let ends = ends_of c.args.player.now.of.section in
    subst (λ (s : List (List ℤ)). AreInputs ends (inputs_at ends s c.args.frame)) (sym c.as_slice-streams.ensures) (frame_inputs ends c.args.script.now c.args.frame c.requires.lawful c.requires.script)

pub block_frames-requires-clause-inputs : goal.block_frames-requires-clause-inputs
block_frames-requires-clause-inputs g c = λ at.
    let ends = ends_of c.args.player.now.of.section in
    subst (λ (s : List (List ℤ)). AreInputs ends (inputs_at ends s at)) (sym c.as_slice-streams.ensures) (frame_inputs ends c.args.script.now at c.requires.lawful c.requires.script)
