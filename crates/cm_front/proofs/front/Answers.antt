use Rattle.std.proofs.lemmas.Result.{err_from_is_err_and}
use Rattle.cm_front.proofs.TextLemmas.{spans_few, parsing_refused, uncovered_refused}
use Rattle.cm_front.proofs.WithinLemmas.{names_within}
use Rattle.cm_front.proofs.front.Goals as goal

pub parsed-requires : goal.parsed-requires
parsed-requires c = rw c.as_slice-2.ensures (spans_few c.args.sources.now _ (rw c.as_slice.ensures at c.in_ok-tokens.ensures.spans) c.requires.bytes)

pub returns-in_err-files-clause-refused : goal.returns-in_err-files-clause-refused
returns-in_err-files-clause-refused c =
    let p = err_from_is_err_and c.from_residual-in_err-files.result c.from_residual-in_err-files.ensures.1 in
    let tokens = rw c.as_slice.ensures at c.in_ok-tokens.ensures.found in
    rw (p.1, p.2) (parsing_refused _ _ _ tokens (rw c.as_slice-2.ensures at c.in_err-files.ensures.refused))

pub returns-clause-refused : goal.returns-clause-refused
returns-clause-refused c =
    let tokens = rw c.as_slice.ensures at c.in_ok-tokens.ensures.found in
    let trees = rw c.as_slice-2.ensures at c.in_ok-files.ensures.found in
    uncovered_refused _ _ _ c.through.result tokens trees (rw c.as_slice-3.ensures at c.through.ensures.refused)

pub returns-clause-within : goal.returns-clause-within
returns-clause-within c =
    let spans = rw c.as_slice.ensures at c.in_ok-tokens.ensures.spans in
    let trees = rw c.as_slice-2.ensures at c.in_ok-files.ensures.found in
    names_within _ _ _ c.through.result spans trees (rw c.as_slice-3.ensures at c.through.ensures.ok)
