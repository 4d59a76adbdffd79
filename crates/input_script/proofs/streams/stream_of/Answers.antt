use Rattle.std.proofs.Common.{◌≡◌, ◌≤◌, ◌<◌, Some, length, refl, rules}
use Rattle.serde_json.specs.Find.{as_array}
use Rattle.serde_json.specs.View.{view, items_view}
use Rattle.input_script.proofs.Steps.{stream_few, stream_many}
use Rattle.input_script.proofs.streams.stream_of.Goals as goal

pub returns-then-len-frames : goal.returns-then-len-frames
returns-then-len-frames c =
    let values = c.as_slice.result.now in
    let is : as_array (view c.args.value.now) ≡ Some (items_view values) = search rules in
    let few : length values ≤ c.args.frames = search rules in
    rw (stream_few c.args.at c.args.frames c.args.end.now (view c.args.value.now) values is few) c.frames_of.ensures

pub returns-else-len-frames : goal.returns-else-len-frames
returns-else-len-frames c =
    let values = c.in-Some.values.now.items in
    let is : as_array (view c.args.value.now) ≡ Some (items_view values) = search rules in
    let many : c.args.frames < length values = search rules in
    rw (c.fails-else-len-frames.ensures, stream_many c.args.at c.args.frames c.args.end.now (view c.args.value.now) values is many) refl
