use Rattle.cm_meaning.specs.PatchSites.{given_all, node_sites, takes}
use Rattle.cm_meaning.specs.Sites.{DeclaresNode, optional_sites, site}
use Rattle.scope_walk.proofs.ScopeLemmas.{then-part}
use Rattle.scope_walk.proofs.StepLemmas.{meet-then}
use Rattle.std.proofs.Common.{ap, sym, ◌++◌, ◌∷◌}
use Rattle.declaration_walk.proofs.nodes.walk_node.Goals as goal

pub returns : goal.returns
returns c = meet-then c.args.steps.now c.meet.new.self c.walk_counts.new.steps (DeclaresNode c.args.node.now) (λ r. given_all r (takes r c.args.node.now.path) c.as_slice.result.now ++ (optional_sites r c.args.node.now.count ++ optional_sites r c.args.node.now.factor)) (λ r. node_sites r c.args.node.now) c.walk_counts.result
    (λ r. ap (λ z. site r (DeclaresNode c.args.node.now) ∷ (given_all r (takes r c.args.node.now.path) z ++ (optional_sites r c.args.node.now.count ++ optional_sites r c.args.node.now.factor))) (sym c.as_slice.ensures)) c.in_ok-meet.ensures
    (then-part c.meet.new.self c.walk_args.new.steps c.walk_counts.new.steps (λ r. given_all r (takes r c.args.node.now.path) c.as_slice.result.now) (λ r. optional_sites r c.args.node.now.count ++ optional_sites r c.args.node.now.factor) c.walk_counts.result c.in_ok-walk_args.ensures c.walk_counts.ensures)
