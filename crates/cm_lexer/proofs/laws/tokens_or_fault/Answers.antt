use Rattle.cm_lexer.proofs.Total.{tokens_or_fault}
use Rattle.cm_lexer.proofs.laws.tokens_or_fault.Goals as goal

pub returns : goal.returns
returns c = tokens_or_fault
