use Rattle.std.proofs.Common.{map, string_bytes, sym, subst}
use Rattle.commands.specs.declared.status.Status.{Status}
use Rattle.commands.specs.Steps.{EndsWords}
use Rattle.commands.specs.Words.{command_of}
use Rattle.commands.proofs.EndLemmas.{words_may, words_explained, words_caused, words_others, words_unwritten}
use Rattle.commands.proofs.dispatch.run.Goals as goal

pub returns-in-Err-clause-may_answer : goal.returns-in-Err-clause-may_answer
returns-in-Err-clause-may_answer g c = words_may (command_of (map string_bytes c.args.words.now)) _ _ c.report.result (subst (λ (s : Status). EndsWords (command_of (map string_bytes c.args.words.now)) (g.F.Folder.seen c.args.folder.now) (g.F.Folder.seen c.carry_out.new.folder) s) (sym c.report.ensures) c.in-Err.ensures.ends)

pub returns-in-Err-clause-explained : goal.returns-in-Err-clause-explained
returns-in-Err-clause-explained g c = words_explained (map string_bytes c.args.words.now) _ _ c.report.result (subst (λ (s : Status). EndsWords (command_of (map string_bytes c.args.words.now)) (g.F.Folder.seen c.args.folder.now) (g.F.Folder.seen c.carry_out.new.folder) s) (sym c.report.ensures) c.in-Err.ensures.ends)

pub returns-in-Err-clause-caused : goal.returns-in-Err-clause-caused
returns-in-Err-clause-caused g c = words_caused (command_of (map string_bytes c.args.words.now)) _ _ c.report.result (subst (λ (s : Status). EndsWords (command_of (map string_bytes c.args.words.now)) (g.F.Folder.seen c.args.folder.now) (g.F.Folder.seen c.carry_out.new.folder) s) (sym c.report.ensures) c.in-Err.ensures.ends)

pub returns-in-Err-clause-others : goal.returns-in-Err-clause-others
returns-in-Err-clause-others g c = words_others (command_of (map string_bytes c.args.words.now)) _ _ _ c.in-Err.ensures.ends

pub returns-in-Err-clause-unwritten : goal.returns-in-Err-clause-unwritten
returns-in-Err-clause-unwritten g c = words_unwritten (command_of (map string_bytes c.args.words.now)) _ _ c.report.result (subst (λ (s : Status). EndsWords (command_of (map string_bytes c.args.words.now)) (g.F.Folder.seen c.args.folder.now) (g.F.Folder.seen c.carry_out.new.folder) s) (sym c.report.ensures) c.in-Err.ensures.ends)
