use Rattle.std.proofs.Common.{◌≡◌, drop}
use Rattle.serde_json.specs.View.{items_view}
use Rattle.json_value.specs.Form.{with_front}
use Rattle.input_script.specs.Script.{scalars_of}
use Rattle.input_script.proofs.values.push_scalars.Given as goal

abbrev pub invariant-loop-index : goal.invariant-loop-index
invariant-loop-index l =
    with_front l.into (scalars_of l.fn.at l.fn.range (drop l.index l.shape) (items_view (drop l.index l.values)))
    ≡ with_front l.fn.into (scalars_of l.fn.at l.fn.range l.shape (items_view l.values))
