use Rattle.token_places.proofs.Rise.{rise}
use Rattle.token_places.proofs.tokens_rise.Goals as goal

-- src/lib.rt:7:1
pub returns : goal.returns
returns c = rise
