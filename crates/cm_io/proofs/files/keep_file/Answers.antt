use Rattle.std.proofs.Common.{◌≡◌, sym, subst, arith}
use Rattle.std.proofs.lemmas.Grind.{common_steps}
use Rattle.cm_io.specs.Files.{with_file, HasDistinctNames}
use Rattle.cm_io.proofs.FileLemmas.{names_stay_distinct}
use Rattle.cm_io.proofs.files.keep_file.Goals as goal

pub returns-in_ok-push-in-None-clause-distinct : goal.returns-in_ok-push-in-None-clause-distinct
returns-in_ok-push-in-None-clause-distinct c =
    let pushed : c.push.new.self ≡ with_file c.args.files.now c.args.name.now c.args.bytes.now = grind (arith, common_steps, c.in-None.ensures.absent c.args.bytes.now) in
    λ distinct. subst HasDistinctNames (sym pushed) (names_stay_distinct c.args.files.now c.args.name.now c.args.bytes.now distinct)
