-- Chains of paths, and when the routes of a program have no fault.
use Rattle.std.specs.Prelude.{◌≤◌, List, Option, None, length, slice_index_or}
use Rattle.cm_base.specs.declared.place.LeafId.{LeafId}
use Rattle.cm_base.specs.declared.place.Place.{Place}
use Rattle.cm_core.specs.declared.program.Program.{Program}
use Rattle.cm_core.specs.declared.flat.Chain.{Chain}
use Rattle.cm_core.specs.Tree.{end_at}
use Rattle.cm_core.specs.Expanded.{connections}
use Rattle.cm_core.specs.Routes.{routes, chains}
use Rattle.cm_core.specs.GraphFaults.{IsWireLoop, IsValueSources}
use Rattle.graph_flat.specs.declared.paths.Path.{Path}

-- the chain of a path, where each endpoint has the leaf that is listed for it
abbrev pub chain_by : Program → List (Option LeafId) → Path → Chain
chain_by p owners x = record {
  from = record { leaf = slice_index_or owners x.from.0 None; end = x.from };
  to = record { leaf = slice_index_or owners x.to.0 None; end = x.to };
  kind = (end_at p x.from).kind;
  shape = (end_at p x.from).shape;
  delay = x.delay;
  place = x.first;
}

-- the routes of a graph have no fault
pub record HasSoundRoutes (p : Program) : Type 0 where
  pub loops : (place : Place) → ¬ IsWireLoop (connections p) place
  pub values : (place : Place) → ¬ IsValueSources p place
  pub few : length (routes p) ≤ 65536

-- and those of any program
pub record HasSoundChains (p : Program) : Type 0 where
  pub loops : (place : Place) → ¬ IsWireLoop (connections p) place
  pub values : (place : Place) → ¬ IsValueSources p place
  pub few : length (chains p) ≤ 65536
