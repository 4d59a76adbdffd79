use Rattle.std.proofs.Common.{◌≡◌, ◌≤◌, [], drop}
use Rattle.serde_json.specs.View.{items_view}
use Rattle.json_value.specs.Form.{with_front}
use Rattle.input_script.specs.Script.{settings_from}
use Rattle.input_script.proofs.settings.settings_from.Given as goal

abbrev pub invariant-loop-index : goal.invariant-loop-index
invariant-loop-index l =
    (l.first ≤ l.index) ×
    (with_front l.settings (settings_from l.kind l.inputs l.frames l.index l.frame l.first (items_view (drop l.index l.values)))
    ≡ with_front [] (settings_from l.kind l.inputs l.frames 0 0 0 (items_view l.values)))
