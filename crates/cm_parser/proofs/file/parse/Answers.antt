use Rattle.cm_parser.proofs.FileLemmas.{file_found, file_only, file_refused}
use Rattle.cm_parser.proofs.file.parse.Goals as goal

pub returns-clause-found : goal.returns-clause-found
returns-clause-found c = file_found c.reading.result c.args.tokens.now.list c.reads_files.ensures.spelled c.reading.ensures.found

pub returns-clause-only : goal.returns-clause-only
returns-clause-only c = file_only c.reading.result c.args.tokens.now.list c.args.tokens.now.last c.reads_files.ensures.answered c.reading.ensures.found c.reading.ensures.refused

pub returns-clause-refused : goal.returns-clause-refused
returns-clause-refused c = file_refused c.reading.result c.args.tokens.now.list c.args.tokens.now.last c.reads_files.ensures.refused c.reading.ensures.refused
