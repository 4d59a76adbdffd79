use Rattle.std.proofs.Common.{◌≡◌, ◌+◌, ◌<◌, ◌^◌, length}
use Rattle.serde_json.specs.View.{members_view}
use Rattle.input_script.specs.Script.{given_from, placed_in}
use Rattle.input_script.proofs.streams.place_streams.Given as goal

abbrev pub invariant-loop-name : goal.invariant-loop-name
invariant-loop-name l =
    (goal.iterator-loop-name).can_next l.name-iterator ×
    (goal.iterator-loop-name).is_finite l.name-iterator ×
    (placed_in l.streams (given_from l.inputs l.frames l.index (members_view l.name-iterator)) ≡ placed_in l.fn.streams (given_from l.inputs l.frames 0 (members_view l.members.entries))) ×
    (length l.streams ≡ length l.inputs) ×
    (l.index + length l.name-iterator < 2 ^ 63)
