use Rattle.file_grammar.proofs.FarDecls.{local_decls}
use Rattle.file_grammar.proofs.laws.reads_no_further.Goals as goal

pub returns : goal.returns
returns c = local_decls
