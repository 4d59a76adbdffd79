use Rattle.cm_meaning.specs.Scopes.{end_name}
use Rattle.cm_tree.specs.declared.member.EndName.{EndName}
use Rattle.declaration_walk.specs.Declares.{Declares}
use Rattle.std.proofs.Common.{[], drop, flat_map, ◌∷◌}
use Rattle.declaration_walk.proofs.names.declare_end_names.Given as goal

abbrev pub invariant-loop-index : goal.invariant-loop-index
invariant-loop-index l = Declares l.fn.steps l.steps (λ h. flat_map (λ (x : EndName). end_name h l.flow l.end x ∷ []) (drop l.index l.names))
