use Rattle.std.proofs.Common.{◌≡◌, ◌≢◌, ◌+◌, drop, None, arith}
use Rattle.std.proofs.lemmas.Grind.{common_steps}
use Rattle.cm_io.specs.Files.{file_at}
use Rattle.cm_io.proofs.FileLemmas.{distinct_more, distinct_no_more}
use Rattle.cm_io.proofs.files.has_distinct_names.Goals as goal

pub returns-then-is_some : goal.returns-then-is_some
returns-then-is_some c =
    let again : file_at (drop (c.loop-at.at + 1) c.as_slice-files.result.now) c.index-files-at.result.0 ≢ None = λ absent. grind (arith, common_steps) in
    (λ e. cc, λ all. absurd (distinct_no_more _ _ c.loop-at.at c.index-files-at.result c.loop-at-test.true c.index-files-at.is again c.loop-at.invariant all))

pub loop-at-preserved : goal.loop-at-preserved
loop-at-preserved c =
    let absent : file_at (drop (c.loop-at.at + 1) c.as_slice-files.result.now) c.index-files-at.result.0 ≡ None = grind (arith, common_steps) in
    distinct_more _ _ c.loop-at.at c.index-files-at.result c.loop-at-test.true c.index-files-at.is absent c.loop-at.invariant
