use Rattle.std.proofs.Common.{◌≡◌, length}
use Rattle.serde_json.specs.View.{members_view}
use Rattle.json_value.specs.Form.{with_front}
use Rattle.saved_state.specs.Version1.{saved_from}
use Rattle.saved_state.proofs.version_1.saved_from.Given as goal

abbrev pub invariant-loop-name : goal.invariant-loop-name
invariant-loop-name l =
    (goal.iterator-loop-name).can_next l.name-iterator ×
    (goal.iterator-loop-name).is_finite l.name-iterator ×
    (with_front l.saved (saved_from (length l.saved) (members_view l.name-iterator)) ≡ saved_from 0 (members_view l.members.entries))
