use Rattle.std.proofs.Common.{◌≡◌, drop}
use Rattle.serde_json.specs.View.{items_view}
use Rattle.json_value.specs.Form.{with_front}
use Rattle.input_script.specs.Script.{frames_of}
use Rattle.input_script.proofs.streams.push_frames.Given as goal

abbrev pub invariant-loop-value : goal.invariant-loop-value
invariant-loop-value l =
    with_front l.into (frames_of l.fn.at l.end (items_view (drop l.value-index l.values)))
    ≡ with_front l.fn.into (frames_of l.fn.at l.end (items_view l.values))
