use Rattle.type_places.proofs.Shapes.{are_of_shapes}
use Rattle.type_places.proofs.laws.widths_are_of_shapes.Goals as goal

pub returns : goal.returns
returns c = are_of_shapes
