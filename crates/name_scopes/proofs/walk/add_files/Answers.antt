use Rattle.std.proofs.Common.{arith}
use Rattle.std.proofs.lemmas.Result.{err_from_is_err_and}
use Rattle.name_scopes.specs.Members.{file_names}
use Rattle.name_scopes.proofs.AddLemmas.{adds-start, adds-next, adds-stop, adds-all}
use Rattle.name_scopes.proofs.walk.add_files.Goals as goal

pub loop-file-init : goal.loop-file-init
loop-file-init c = adds-start file_names c.args.files.now 0 c.args.members.now

pub returns-in_err-add_file : goal.returns-in_err-add_file
returns-in_err-add_file c =
    let p = err_from_is_err_and c.from_residual.result c.from_residual.ensures.1 in
    rw (p.1, p.2) (adds-stop (Unit {0}) file_names c.args.files.now 0 c.loop-file.file-index c.file-item.result c.args.members.now c.loop-file.members c.add_file.new.members c.add_file.new.members
    c.in_err-add_file.field-0.0 c.requires c.loop-file-test.true c.file-item.is c.loop-file.invariant c.in_err-add_file.ensures)

pub loop-file-preserved : goal.loop-file-preserved
loop-file-preserved c = adds-next file_names c.args.files.now 0 c.loop-file.file-index c.file-item.result c.args.members.now c.loop-file.members c.add_file.new.members
    c.requires c.loop-file-test.true c.file-item.is c.loop-file.invariant c.in_ok-add_file.ensures

pub returns : goal.returns
returns c = adds-all file_names c.args.files.now 0 c.loop-file.file-index c.args.members.now c.loop-file.members
    (let w = c.loop-file-test.false in let e = c.loop-file.auto.file-index-end in omega arith) c.loop-file.invariant
