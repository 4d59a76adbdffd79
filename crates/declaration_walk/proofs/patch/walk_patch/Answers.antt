use Rattle.declaration_walk.proofs.SpaceLemmas.{whole-patch}
use Rattle.declaration_walk.proofs.patch.walk_patch.Goals as goal

pub returns : goal.returns
returns c = whole-patch c.new-steps.result c.walk_files.new.steps c.args.files.now c.new-steps.ensures c.in_ok-walk_files.ensures
