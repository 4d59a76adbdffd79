use Rattle.std.proofs.Common.{◌≡◌, take}
use Rattle.cm_front.specs.Form.{decls_of}
use Rattle.cm_front.proofs.form.only_decl.Given as goal

abbrev pub invariant-loop-file : goal.invariant-loop-file
invariant-loop-file l = decls_of (take l.file-index l.files) ≡ l.found
