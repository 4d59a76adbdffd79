use Rattle.path_places.proofs.Rise.{paths_rise as paths, uses_rise as uses}
use Rattle.path_places.proofs.paths_rise.Goals as goal

pub returns : goal.returns
returns c = record { paths = paths; uses = uses }
