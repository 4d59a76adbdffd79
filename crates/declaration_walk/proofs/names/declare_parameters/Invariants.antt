use Rattle.cm_meaning.specs.Scopes.{parameter}
use Rattle.cm_tree.specs.declared.type_expr.Typed.{Typed}
use Rattle.declaration_walk.specs.Declares.{Declares}
use Rattle.std.proofs.Common.{[], drop, flat_map, ◌∷◌}
use Rattle.declaration_walk.proofs.names.declare_parameters.Given as goal

abbrev pub invariant-loop-index : goal.invariant-loop-index
invariant-loop-index l = Declares l.fn.steps l.steps (λ h. flat_map (λ (x : Typed). parameter h x ∷ []) (drop l.index l.params))
