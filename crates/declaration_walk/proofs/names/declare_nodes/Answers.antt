use Rattle.cm_meaning.specs.Declared.{Node}
use Rattle.cm_meaning.specs.Scopes.{node_name}
use Rattle.declaration_walk.proofs.NameLemmas.{declares-one, last-map, last-next, last-start}
use Rattle.std.proofs.Common.{[], arith, length, refl, rules, ◌-◌, ◌∷◌}
use Rattle.cm_tree.specs.declared.member.Node.{Node as NodeDecl}
use Rattle.declaration_walk.proofs.names.declare_nodes.Goals as goal

pub loop-index-init : goal.loop-index-init
loop-index-init c = last-start (λ h (x : NodeDecl). node_name h x ∷ []) c.args.nodes.now (length c.args.nodes.now) c.args.steps.now refl

pub loop-index-preserved : goal.loop-index-preserved
loop-index-preserved c = last-next (λ h (x : NodeDecl). node_name h x ∷ []) c.args.nodes.now (c.loop-index.index - 1) c.loop-index.index c.index-nodes-index.result c.args.steps.now c.loop-index.steps c.declare.new.self
    (omega (arith, c.loop-index-test.true)) (search rules) c.index-nodes-index.is c.loop-index.invariant
    (declares-one c.loop-index.steps c.declare.new.self c.index-nodes-index.result.name (Node c.index-nodes-index.result) (λ h. node_name h c.index-nodes-index.result ∷ []) (λ h. refl) (c.in_ok-declare.ensures))

pub returns : goal.returns
returns c = last-map (λ h. node_name h) c.args.nodes.now c.loop-index.index c.args.steps.now c.loop-index.steps (let w = c.loop-index-test.false in omega arith) c.loop-index.invariant
