use Rattle.declaration_walk.proofs.SpaceLemmas.{row-all, row-next, row-start}
use Rattle.declaration_walk.specs.Declares.{file_sites}
use Rattle.std.proofs.Common.{arith}
use Rattle.declaration_walk.proofs.patch.walk_files.Goals as goal

pub loop-file-init : goal.loop-file-init
loop-file-init c = row-start file_sites c.args.files.now c.args.steps.now

pub loop-file-preserved : goal.loop-file-preserved
loop-file-preserved c = row-next file_sites c.args.files.now c.loop-file.file-index c.file-item.result c.args.steps.now c.loop-file.steps c.walk_file.new.steps c.loop-file-test.true c.file-item.is c.loop-file.invariant c.in_ok-walk_file.ensures

pub returns : goal.returns
returns c = row-all file_sites c.args.files.now c.loop-file.file-index c.args.steps.now c.loop-file.steps (let w = c.loop-file-test.false in let e = c.loop-file.auto.file-index-end in omega arith) c.loop-file.invariant
