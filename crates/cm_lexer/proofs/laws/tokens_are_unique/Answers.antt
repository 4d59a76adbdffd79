use Rattle.cm_lexer.proofs.Unique.{one_list}
use Rattle.cm_lexer.proofs.laws.tokens_are_unique.Goals as goal

pub returns : goal.returns
returns c = one_list
