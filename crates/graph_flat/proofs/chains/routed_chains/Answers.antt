use Rattle.std.proofs.Common.{◌≡◌, List, Option, None, get_or, ap, ◌∙◌}
use Rattle.std.specs.Prelude.{option_map}
use Rattle.cm_base.specs.declared.place.EndId.{EndId}
use Rattle.cm_base.specs.declared.place.LeafId.{LeafId}
use Rattle.cm_core.specs.Tree.{leaf_with}
use Rattle.graph_flat.specs.Ends.{leaf_id}
use Rattle.graph_flat.proofs.Chained.{chains_same}
use Rattle.graph_flat.proofs.chains.routed_chains.Goals as goal

pub returns-clause-found : goal.returns-clause-found
returns-clause-found c =
    let p = c.args.program.now in
    let owned : (e : EndId) → get_or c.deref.result.now e.0 None ≡ option_map leaf_id (leaf_with p e) = λ e. ap (λ (os : List (Option LeafId)). get_or os e.0 None) c.deref.ensures.value ∙ c.in_ok-owners.ensures.owners e in
    c.in_ok-chains.ensures ∙ chains_same p c.deref.result.now c.deref-2.result.now owned (c.deref-2.ensures.value ∙ c.in_ok-paths.ensures.found)
