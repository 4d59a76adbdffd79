use Rattle.name_scopes.proofs.SpaceLemmas.{rooted-none, spaces-none}
use Rattle.name_scopes.proofs.spaces.Spaces.new.Goals as goal

pub invariant_of-result : goal.invariant_of-result
invariant_of-result c = rooted-none c.new.result.keys c.new.ensures.empty

pub returns : goal.returns
returns c = spaces-none c.new.result.keys c.new.ensures.empty
