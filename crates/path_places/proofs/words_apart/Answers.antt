use Rattle.path_places.proofs.Apart.{words_apart as words}
use Rattle.path_places.proofs.words_apart.Goals as goal

pub returns : goal.returns
returns c = words
