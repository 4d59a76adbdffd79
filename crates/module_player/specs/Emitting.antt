-- What the host of a run does where a module calls `emit`: docs/MODULE.md, "How a run goes".
use Rattle.std.specs.Prelude.{◌≡◌, ◌+◌, ◌⊎◌, ℕ, zero, suc, ℤ, pos, negsuc, List, Bool, true, false, Some, None}
use Rattle.cm_base.specs.declared.play.Item.{Item}
use Rattle.cm_base.specs.declared.play.Item.TheVariants as item
use Rattle.wasm_tree.specs.Section.{Slot}
use Rattle.wasm_tree.specs.Slots.{event_slot, read_slot, outputs_at}
use Rattle.wasm_runner.specs.declared.host.HostAnswer.{HostAnswer}
use Rattle.wasm_runner.specs.declared.host.HostAnswer.TheVariants as answer

-- where the host is in a call: the number of the frame, how many marks may still come, and how many came
pub record Counts : Type 0 where
  pub frame : ℕ
  pub marks : ℕ
  pub entry : ℕ

-- after a mark
pub record IsNext (now next : Counts) : Type 0 where
  pub frame : next.frame ≡ now.frame + 1
  pub marks : now.marks ≡ suc next.marks
  pub entry : next.entry ≡ now.entry + 1

-- the number of an output event endpoint tells what stands in its slot
pub record SendsEvent {Teller : Type 0} (tells : Teller → Item → Bool → Teller → Type 0) (slots : List Slot) (frame : ℕ) (before : Teller) (number : ℤ) (memory : List ℕ) (on : Bool) (after : Teller) : Type 0 where
  pub endpoint : ℕ
  pub is : number ≡ pos endpoint
  pub slot : Slot
  pub found : event_slot slots endpoint ≡ Some slot
  pub told : tells before (item.Event frame endpoint (read_slot slot 0 memory)) on after

-- -1 ends a frame, and tells the outputs at the entry
pub record EndsFrame {Teller : Type 0} (tells : Teller → Item → Bool → Teller → Type 0) (slots : List Slot) (now : Counts) (before : Teller) (number : ℤ) (memory : List ℕ) (on : Bool) (after : Teller) : Type 0 where
  pub is : number ≡ negsuc 0
  pub told : tells before (item.Frame now.frame (outputs_at slots now.entry memory)) on after

-- no number of an output event endpoint, and no mark that may come
abbrev pub IsRefused : List Slot → (marks : ℕ) → ℤ → Type 0
IsRefused slots marks (pos number) = event_slot slots number ≡ None
IsRefused slots marks (negsuc zero) = marks ≡ 0
IsRefused slots marks (negsuc (suc n)) = Unit {0}

-- a call of `emit`, by the host's answer
abbrev pub Emits : {Teller : Type 0} → (Teller → Item → Bool → Teller → Type 0) → List Slot → (now : Counts) → (before : Teller) → ℤ → (memory : List ℕ) → HostAnswer → (next : Counts) → (after : Teller) → Type 0
Emits tells slots now before number memory answer.Go next after = (next ≡ now) × SendsEvent tells slots now.frame before number memory true after
Emits tells slots now before number memory answer.Stop next after =
    ((next ≡ now) × SendsEvent tells slots now.frame before number memory false after) ⊎ (IsNext now next × EndsFrame tells slots now before number memory false after)
Emits tells slots now before number memory answer.Trap next after = (next ≡ now) × (after ≡ before) × IsRefused slots now.marks number
Emits tells slots now before number memory answer.Fresh next after = IsNext now next × EndsFrame tells slots now before number memory true after
