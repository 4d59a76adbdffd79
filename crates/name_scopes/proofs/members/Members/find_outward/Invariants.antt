use Rattle.std.proofs.Common.{◌≡◌, ◌<◌, length, Some}
use Rattle.std.specs.Option.{ForSome}
use Rattle.cm_meaning.specs.Scopes.{outward}
use Rattle.name_scopes.proofs.FindLemmas.{scopes_from}
use Rattle.name_scopes.proofs.members.Members.find_outward.Given as goal

abbrev pub invariant-loop-inner : goal.invariant-loop-inner
invariant-loop-inner l = record {
  below : ForSome l.inner (λ n. n < length l.self.spaces);
  same : outward l.text (scopes_from l.self (Some l.fn.space)) ≡ outward l.text (scopes_from l.self l.inner);
}

abbrev pub decreases-loop-inner : goal.decreases-loop-inner
decreases-loop-inner l = length (scopes_from l.self l.inner)
