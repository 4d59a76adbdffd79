-- Parameters that nothing is saved for.
use Rattle.std.proofs.Common.{List, [], ◌∷◌, Option, Some, None}
use Rattle.std.specs.List.{AllByRecursion}
use Rattle.cm_base.specs.declared.host.HostEnd.{HostEnd}
use Rattle.cm_base.specs.declared.host.Range.{Range}
use Rattle.cm_base.specs.HostEnds.{IsLawful, IsLawfulEnd, IsLawfulRange}
use Rattle.cm_base.specs.Scripts.{AreSaved, IsSavedIn}

one_unsaved : (end : HostEnd) (range : Option Range) → IsLawfulRange end range → IsSavedIn end range []
one_unsaved end None lawful = tt
one_unsaved end (Some range) lawful = (lawful.above, lawful.below)

each_unsaved : (ends : List HostEnd) → AllByRecursion IsLawfulEnd ends → AreSaved ends []
each_unsaved [] lawful = tt
each_unsaved (end ∷ ends) lawful = (one_unsaved end end.parameter lawful.0.parameter, each_unsaved ends lawful.1)

-- they begin in their ranges
pub unsaved : (ends : List HostEnd) → IsLawful ends → AreSaved ends []
unsaved ends lawful = each_unsaved ends lawful.each
