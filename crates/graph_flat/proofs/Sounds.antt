-- Programs whose graphs have no fault.
use Rattle.std.proofs.Common.{◌≤◌, All, length, arith}
use Rattle.cm_base.specs.declared.cause.Cause.{Cause}
use Rattle.cm_base.specs.declared.place.Place.{Place}
use Rattle.cm_core.specs.declared.program.Program.{Program}
use Rattle.cm_core.specs.Tree.{leaf_nodes}
use Rattle.cm_core.specs.Expanded.{connections}
use Rattle.cm_core.specs.GraphFaults.{GraphFault, link, value_sources, wire_loop, many_leaves, many_connections, many_chains}
use Rattle.graph_flat.specs.Sound.{IsSoundLink}
use Rattle.graph_flat.specs.Chains.{HasSoundChains}
use Rattle.graph_flat.proofs.Counting.{contains_all}

pub all_sound : (p : Program) → All (IsSoundLink p) p.links → length (leaf_nodes p) ≤ 4096 → length (connections p) ≤ 262144 → HasSoundChains p → (cause : Cause) (place : Place) → GraphFault p cause place → ⊥
all_sound p links leaves few s cause place (link l k q m f) = contains_all (IsSoundLink p) p.links l links m k q f
all_sound p links leaves few s cause place (value_sources q v) = s.values q v
all_sound p links leaves few s cause place (wire_loop q w) = s.loops q w
all_sound p links leaves few s cause place (many_leaves lt) = omega (arith, lt, leaves)
all_sound p links leaves few s cause place (many_connections lt) = omega (arith, lt, few)
all_sound p links leaves few s cause place (many_chains lt) = let f = s.few in omega (arith, lt, f)
