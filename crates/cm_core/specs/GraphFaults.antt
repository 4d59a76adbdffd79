-- What is wrong with the graphs of a program, a case for each row of the table: docs/LANGUAGE.md, "Refusals". A cycle of
-- leaves isn't among them.
use Rattle.std.specs.Prelude.{ℕ, ℤ, pos, ◌≤ℤ◌, ◌≡◌, ◌≢◌, ◌<◌, true, false, List, [], ◌∷◌, length, map, Contains, Option, Some, None, IsSome, slice_get}
use Rattle.cm_base.specs.declared.cause.Cause.{Cause}
use Rattle.cm_base.specs.declared.cause.Cause.TheVariants.{ConnectionEnd, NodeIndex, NodeCount, ConnectionKind, ConnectionType, DelayKind, DelayRange, ValueSources, WireLoop, TooManyLeaves, TooManyConnections, TooManyChains}
use Rattle.cm_base.specs.declared.host.Kind.TheVariants.{Stream, Value}
use Rattle.cm_base.specs.declared.place.Place.{Place}
use Rattle.cm_base.specs.declared.place.EndId.{EndId}
use Rattle.cm_core.specs.declared.program.Program.{Program}
use Rattle.cm_core.specs.declared.link.Link.{Link}
use Rattle.cm_core.specs.declared.link.Connection.{Connection}
use Rattle.cm_core.specs.Tree.{end_at, leaf_nodes}
use Rattle.cm_core.specs.Expanded.{group_at, picked, is_spread, declared_end, is_source, connections}
use Rattle.cm_core.specs.Routes.{Route, last_of, routes, chains}

-- a delay is 0 to 1,048,576 frames
abbrev pub IsDelay : Option ℤ → Type 0
IsDelay None = Unit {0}
IsDelay (Some d) = (pos 0 ≤ℤ d) × (d ≤ℤ pos 1048576)

-- what is wrong with a written connection, and where
pub data LinkFault (p : Program) (l : Link) : Cause → Place → Type 0 where
  source : is_source p l.from ≡ false → LinkFault p l ConnectionEnd l.from.place
  destination : is_source p l.to ≡ true → LinkFault p l ConnectionEnd l.to.place
  source_index : picked (group_at p l.from) l.from.index ≡ None → LinkFault p l NodeIndex l.from.place
  destination_index : picked (group_at p l.to) l.to.index ≡ None → LinkFault p l NodeIndex l.to.place
  counts : is_spread p l.from ≡ true → is_spread p l.to ≡ true
      → length (group_at p l.from).nodes ≢ length (group_at p l.to).nodes → LinkFault p l NodeCount l.place
  kinds : (declared_end p l.from).kind ≢ (declared_end p l.to).kind → LinkFault p l ConnectionKind l.place
  types : (declared_end p l.from).ty ≢ (declared_end p l.to).ty → LinkFault p l ConnectionType l.place
  delay_kind : IsSome l.delay → (declared_end p l.from).kind ≢ Stream → LinkFault p l DelayKind l.place
  delay_range : ¬ IsDelay l.delay → LinkFault p l DelayRange l.place

-- each connection starts where the one before ended
abbrev pub Follows : Connection → List Connection → Type 0
Follows c [] = Unit {0}
Follows c (d ∷ ds) = (d.from ≡ c.to) × Follows d ds

-- the endpoints on the way, in order
abbrev pub visited : Connection → List Connection → List EndId
visited c cs = c.from ∷ map (λ (d : Connection). d.to) (c ∷ cs)

-- connections that visit an endpoint twice, and the place of the first; this can only be an endpoint of a graph, since
-- no other is both a source and a destination
pub record IsWireLoop (all : List Connection) (place : Place) : Type 0 where
  pub first : Connection
  pub others : List Connection
  pub known : (c : Connection) → Contains (first ∷ others) c → Contains all c
  pub follows : Follows first others
  pub once : ℕ
  pub again : ℕ
  pub order : once < again
  pub twice : (end : EndId) × (slice_get (visited first others) once ≡ Some end) × (slice_get (visited first others) again ≡ Some end)
  pub at : first.place ≡ place

-- two chains that end at one endpoint for values, and the place of the last connection of one
pub record IsValueSources (p : Program) (place : Place) : Type 0 where
  pub one : ℕ
  pub other : ℕ
  pub apart : one ≢ other
  pub route : Route
  pub rival : Route
  pub route_is : slice_get (routes p) one ≡ Some route
  pub rival_is : slice_get (routes p) other ≡ Some rival
  pub same : (last_of route).to ≡ (last_of rival).to
  pub carries : (end_at p (last_of route).to).kind ≡ Value
  pub at : (last_of route).place ≡ place

-- what is wrong with the graphs of a program, and where
pub data GraphFault (p : Program) : Cause → Place → Type 0 where
  link : (l : Link) (cause : Cause) (place : Place) → Contains p.links l → LinkFault p l cause place → GraphFault p cause place
  value_sources : (place : Place) → IsValueSources p place → GraphFault p ValueSources place
  wire_loop : (place : Place) → IsWireLoop (connections p) place → GraphFault p WireLoop place
  many_leaves : 4096 < length (leaf_nodes p) → GraphFault p TooManyLeaves p.place
  many_connections : 262144 < length (connections p) → GraphFault p TooManyConnections p.place
  many_chains : 65536 < length (chains p) → GraphFault p TooManyChains p.place

-- nothing is wrong with them
abbrev pub HasSoundGraphs : Program → Type 0
HasSoundGraphs p = (cause : Cause) (place : Place) → ¬ GraphFault p cause place
