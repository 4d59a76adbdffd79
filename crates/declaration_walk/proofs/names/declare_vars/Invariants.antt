use Rattle.cm_meaning.specs.Scopes.{typed_state}
use Rattle.cm_tree.specs.declared.simple.Var.{Var}
use Rattle.declaration_walk.specs.Declares.{Declares}
use Rattle.std.proofs.Common.{[], drop, flat_map, ◌∷◌}
use Rattle.declaration_walk.proofs.names.declare_vars.Given as goal

abbrev pub invariant-loop-index : goal.invariant-loop-index
invariant-loop-index l = Declares l.fn.steps l.steps (λ h. flat_map (λ (x : Var). typed_state h l.ty x ∷ []) (drop l.index l.vars))
