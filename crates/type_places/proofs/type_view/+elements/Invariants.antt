use Rattle.std.proofs.Common.{length}
use Rattle.type_places.proofs.type_view.+elements.Given as goal

abbrev pub decreases-elements : goal.decreases-elements
decreases-elements l = length l.lengths.now
