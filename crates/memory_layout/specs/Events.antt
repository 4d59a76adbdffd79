-- Event chains by where they start.
use Rattle.std.specs.Prelude.{ℕ, ◌≡◌, ◌<◌, ◌==◌, ◌&&◌, ◌+◌, if◌then◌else◌, List, length, All, Option, Some, None, Vec, slice_index_or}
use Rattle.std.specs.List.{filter_map}
use Rattle.std.specs.Global.{Global}
use Rattle.cm_base.specs.Parts.{is_event}
use Rattle.cm_base.specs.declared.place.LeafId.{LeafId}
use Rattle.cm_core.specs.declared.flat.Chain.{Chain}
use Rattle.cm_core.specs.Linked.{Linked, same_leaf}
use Rattle.cm_core.specs.Measures.{reached_size}
use Rattle.cm_core.specs.Sizes.{scalars}
use Rattle.memory_layout.specs.declared.events.Event.{Event}

abbrev pub event_of : Chain → Event
event_of chain = record { from = chain.from.leaf; scalars = scalars chain.shape; to = chain.to }

-- the event of a chain that starts at this endpoint
abbrev pub event_from : ℕ → Chain → Option Event
event_from end chain = if is_event chain.kind && (chain.from.end.0 == end) then Some (event_of chain) else None

abbrev pub events_from : List Chain → ℕ → List Event
events_from chains end = filter_map (event_from end) chains

-- for each endpoint below the count the events that start there
abbrev pub AreEvents : List Chain → ℕ → List (Vec Event Global) → Type 0
AreEvents chains count lists = (end : ℕ) (d : Vec Event Global) → end < count → (slice_index_or lists end d).items ≡ events_from chains end

-- what an event counts at a leaf, or at the host: its scalars and the body of its handler, where it starts there
abbrev pub event_size : Linked → (ℕ → ℕ → ℕ) → Option LeafId → Event → ℕ
event_size l handled leaf event = if same_leaf event.from leaf then event.scalars + reached_size l handled event.to.leaf event.to.end else 0

-- lists of events by their endpoints, with those of all chains
pub record AreStarts (chains : List Chain) (lists : List (Vec Event Global)) : Type 0 where
  pub events : AreEvents chains (length lists) lists
  pub within : All (λ (chain : Chain). chain.from.end.0 < length lists) chains
