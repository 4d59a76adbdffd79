use Rattle.cm_lexer.proofs.Unique.{no_fault}
use Rattle.cm_lexer.proofs.laws.no_fault_beside_tokens.Goals as goal

pub returns : goal.returns
returns c = no_fault
