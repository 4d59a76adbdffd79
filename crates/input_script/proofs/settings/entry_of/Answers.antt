use Rattle.std.proofs.Common.{◌≡◌, ◌<◌, ◌≤◌, Some, length, sym, rules}
use Rattle.serde_json.specs.Find.{as_array}
use Rattle.serde_json.specs.View.{view, items_view}
use Rattle.input_script.proofs.Steps.{entry_short, entry_long}
use Rattle.input_script.proofs.settings.entry_of.Goals as goal
use Rattle.input_script.proofs.settings.entry_of.Goals.{in_default-via-then-as_slice-lt3, in_default-via-else-as_slice-lt3+else-this-lt4}

pub returns-in_default : goal.returns-in_default
returns-in_default c =
    let values = c.as_slice.result.now in
    let is : as_array (view c.args.value.now) ≡ Some (items_view values) = search rules in
    elim c.in_default.branch [
      | in_default-via-then-as_slice-lt3 w ↦ (let few : length values < 3 = search rules in rw is (sym (entry_short values few)))
      | in_default-via-else-as_slice-lt3+else-this-lt4 w ↦ (let many : 4 ≤ length values = search rules in rw is (sym (entry_long values many)))
    ]
