use Rattle.std.proofs.Common.{◌≡◌, List, [], take, flat_map}
use Rattle.cm_meaning.specs.Declared.{Space}
use Rattle.name_scopes.proofs.BuildLemmas.{member_faults_in}
use Rattle.name_scopes.proofs.scopes.check_members.Given as goal

abbrev pub invariant-loop-member : goal.invariant-loop-member
invariant-loop-member l = (spaces : List Space) → flat_map (member_faults_in spaces) (take l.member-index l.members) ≡ []
