use Rattle.cm_front.proofs.FormLemmas.{two_decls}
use Rattle.cm_front.proofs.form.only_decl.Goals as goal

pub returns-then-not-is_empty : goal.returns-then-not-is_empty
returns-then-not-is_empty c =
    two_decls c.args.files.now c.loop-file.file-index c.file-item.result c.loop-file.found.now c.as_slice-decls.result.now c.loop-file-test.true c.file-item.is c.loop-file.invariant c.as_slice-decls.ensures
    c.if-is_empty.ensures c.if-not-is_empty.ensures
