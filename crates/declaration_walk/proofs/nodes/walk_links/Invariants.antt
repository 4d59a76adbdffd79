use Rattle.cm_meaning.specs.PatchSites.{link_sites}
use Rattle.scope_walk.specs.Steps.{Reads}
use Rattle.std.proofs.Common.{flat_map, take}
use Rattle.declaration_walk.proofs.nodes.walk_links.Given as goal

abbrev pub invariant-loop-link : goal.invariant-loop-link
invariant-loop-link l = Reads l.fn.steps l.steps (λ r. flat_map (link_sites r) (take l.link-index l.links))
