-- What a host hears of a call of a module: docs/MODULE.md, "How a run goes". Here a run is that of one call, as
-- `Reduce` gives it: where it asks the host, that becomes an event of the trace, a mark, or a trap.
use Rattle.std.specs.Prelude.{ℕ, zero, suc, List, [], ◌∷◌, ◌++◌, Bool, if◌then◌else◌, Option, Some, None, ℤ, pos, negsuc}
use Rattle.cm_base.specs.declared.play.Item.{Item}
use Rattle.cm_base.specs.declared.play.Item.TheVariants as item
use Rattle.wasm_tree.specs.Reduce.{Config, Run, Done, Trapped, Out, Stuck, Emits}
use Rattle.wasm_tree.specs.Section.{Slot}
use Rattle.wasm_tree.specs.Slots.{event_slot, read_slot}

-- what a call tells: it returned, or came to a mark at the end of a frame, or its budget is spent, or it trapped
pub data Heard : Type 0 where
  Returned : (globals memory : List ℕ) → (told : List Item) → Heard
  Marked : (memory : List ℕ) → (next : Config) → (told : List Item) → Heard
  Exhausted : (told : List Item) → Heard
  Failed : (told : List Item) → Heard

abbrev pub if_some : {A : Type 0} → Option A → Heard → (A → Heard) → Heard
if_some None other go = other
if_some (Some x) other go = go x

-- `emit` with the number of an output event endpoint tells the event, and with -1, where marks may come, ends
-- a frame. Any other number traps
abbrev pub emitted : List Slot → Bool → ℕ → ℤ → List ℕ → Config → List Item → (List Item → Heard) → Heard
emitted slots marks frame (pos number) memory next told go =
    if_some (event_slot slots number) (Failed told) (λ slot. go (told ++ item.Event frame number (read_slot slot 0 memory) ∷ []))
emitted slots marks frame (negsuc zero) memory next told go = if marks then Marked memory next told else Failed told
emitted slots marks frame (negsuc (suc n)) memory next told go = Failed told

unfoldable pub heard : List Slot → Bool → ℕ → Run → List Item → Heard
heard slots marks frame (Done globals memory) told = Returned globals memory told
heard slots marks frame Trapped told = Failed told
heard slots marks frame Out told = Exhausted told
heard slots marks frame Stuck told = Failed told
heard slots marks frame (Emits number memory next rest) told =
    emitted slots marks frame number memory next told (heard slots marks frame rest)
