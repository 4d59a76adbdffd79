-- Endpoints by flow, and by the leaf that has them.
use Rattle.std.specs.Prelude.{ℕ, Bool, true, false, List, Option, Some, None, filter, not}
use Rattle.cm_base.specs.declared.host.Flow.{Flow}
use Rattle.cm_base.specs.declared.host.Flow.TheVariants.{Input, Output}
use Rattle.cm_base.specs.declared.place.EndId.{EndId}
use Rattle.cm_base.specs.declared.place.LeafId.{LeafId}
use Rattle.cm_core.specs.declared.program.Program.{Program}
use Rattle.cm_core.specs.Tree.{end_at, is_input}

-- the endpoints that have the flow
abbrev pub with_flow : Program → Flow → List EndId → List EndId
with_flow p Input es = filter (λ e. is_input (end_at p e).flow) es
with_flow p Output es = filter (λ e. not (is_input (end_at p e).flow)) es

abbrev pub leaf_id : ℕ → LeafId
leaf_id k = record { 0 = k }

-- the owner that an endpoint has already, or this leaf where it has the endpoint
abbrev pub first_owner : Option LeafId → Bool → LeafId → Option LeafId
first_owner (Some k) b leaf = Some k
first_owner None true leaf = Some leaf
first_owner None false leaf = None
