use Rattle.name_scopes.specs.Members.{names_of}
use Rattle.path_names.proofs.PatchLemmas.{patch-members, patch-uses}
use Rattle.path_names.proofs.patch.find_paths.Goals as goal

pub returns-clause-members : goal.returns-clause-members
returns-clause-members c = patch-members c.find_all.result c.args.scopes (names_of c.into_members.result) c.into_members.ensures c.find_all.ensures.members

pub returns-clause-uses : goal.returns-clause-uses
returns-clause-uses c = patch-uses c.find_all.result c.args.scopes c.files.result.now (names_of c.into_members.result) c.in_ok-steps.steps c.files.ensures c.into_members.ensures c.in_ok-steps.ensures c.find_all.ensures.uses
