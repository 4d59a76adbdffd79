use Rattle.cm_meaning.specs.Scopes.{inferred_state}
use Rattle.cm_tree.specs.declared.simple.Init.{Init}
use Rattle.declaration_walk.specs.Declares.{Declares}
use Rattle.std.proofs.Common.{[], drop, flat_map, ◌∷◌}
use Rattle.declaration_walk.proofs.names.declare_states.Given as goal

abbrev pub invariant-loop-index : goal.invariant-loop-index
invariant-loop-index l = Declares l.fn.steps l.steps (λ h. flat_map (λ (x : Init). inferred_state h x ∷ []) (drop l.index l.inits))
