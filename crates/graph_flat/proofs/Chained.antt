-- Chains of routes, by the paths that a search finds.
use Rattle.std.proofs.Common.{◌≡◌, List, ap, ◌∙◌, get_or, Option, None}
use Rattle.std.specs.Prelude.{map, option_map}
use Rattle.cm_base.specs.declared.place.EndId.{EndId}
use Rattle.cm_base.specs.declared.place.LeafId.{LeafId}
use Rattle.cm_core.specs.declared.program.Program.{Program}
use Rattle.cm_core.specs.declared.flat.Chain.{Chain}
use Rattle.cm_core.specs.Tree.{end_at, leaf_with}
use Rattle.cm_core.specs.Routes.{Route, last_of, routes, chain_of}
use Rattle.graph_flat.specs.declared.paths.Path.{Path}
use Rattle.graph_flat.specs.Chains.{chain_by}
use Rattle.graph_flat.specs.Ends.{leaf_id}
use Rattle.graph_flat.specs.Paths.{path_of, delay_sum}
use Rattle.graph_flat.proofs.Routing.{map_agree, map_twice}

chain_with : Program → Route → Option LeafId → Option LeafId → Chain
chain_with p r from to = record {
  from = record { leaf = from; end = r.first.from };
  to = record { leaf = to; end = (last_of r).to };
  kind = (end_at p r.first.from).kind;
  shape = (end_at p r.first.from).shape;
  delay = delay_sum r;
  place = r.first.place;
}

chain_same : (p : Program) (owners : List (Option LeafId)) → ((e : EndId) → get_or owners e.0 None ≡ option_map leaf_id (leaf_with p e)) → (r : Route) → chain_by p owners (path_of r) ≡ chain_of p r
unfolding chain_with
chain_same p owners h r =
    ap (λ (o : Option LeafId). chain_with p r o (get_or owners (last_of r).to.0 None)) (h r.first.from)
    ∙ ap (chain_with p r (option_map leaf_id (leaf_with p r.first.from))) (h (last_of r).to)

pub chains_same : (p : Program) (owners : List (Option LeafId)) (xs : List Path) → ((e : EndId) → get_or owners e.0 None ≡ option_map leaf_id (leaf_with p e)) → xs ≡ map path_of (routes p)
    → map (chain_by p owners) xs ≡ map (chain_of p) (routes p)
chains_same p owners xs h e = ap (map (chain_by p owners)) e ∙ map_twice (chain_by p owners) path_of (routes p) ∙ map_agree (λ (r : Route). chain_by p owners (path_of r)) (chain_of p) (routes p) (chain_same p owners h)
