use Rattle.std.proofs.Common.{◌≡◌, ◌≢◌, Some, length, refl, rules}
use Rattle.serde_json.specs.Find.{as_array}
use Rattle.serde_json.specs.View.{view, items_view}
use Rattle.input_script.proofs.Steps.{array_whole, array_other}
use Rattle.input_script.proofs.values.push_array.Goals as goal

pub returns-then-len-shape : goal.returns-then-len-shape
returns-then-len-shape c =
    let values = c.as_slice.result.now in
    let is : as_array (view c.args.value.now) ≡ Some (items_view values) = search rules in
    let many : length values ≡ length c.args.shape.now = search rules in
    rw (array_whole c.args.at c.args.range c.args.shape.now (view c.args.value.now) values is many) c.push_scalars.ensures

pub returns-else-len-shape : goal.returns-else-len-shape
returns-else-len-shape c =
    let values = c.in-Some.values.now.items in
    let is : as_array (view c.args.value.now) ≡ Some (items_view values) = search rules in
    let other : length values ≢ length c.args.shape.now = search rules in
    rw (c.fails-else-len-shape.ensures, array_other c.args.at c.args.range c.args.shape.now (view c.args.value.now) values is other) refl
