use Rattle.file_grammar.proofs.Declarations.{file_sound, file_complete, file_fault}
use Rattle.file_grammar.proofs.laws.reads_files.Goals as goal

pub returns-clause-spelled : goal.returns-clause-spelled
returns-clause-spelled c = λ n ts all rest is. let w = file_sound n ts all rest is in (w.none, w.file)

pub returns-clause-answered : goal.returns-clause-answered
returns-clause-answered c = file_complete

pub returns-clause-refused : goal.returns-clause-refused
returns-clause-refused c = file_fault
