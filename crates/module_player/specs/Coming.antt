-- How a run comes out that is told item by item: docs/MODULE.md, "How a run goes".
use Rattle.std.specs.Prelude.{◌≡◌, ◌+◌, ◌++◌, ℕ, zero, suc, List, [], ◌∷◌, Bool, true, None, ℤ, codes}
use Rattle.cm_base.specs.declared.play.Item.{Item}
use Rattle.cm_base.specs.Parts.{Inputs, Part, Frame, Task, Begin, At as Place, InInit, InFrame, at_of}
use Rattle.cm_base.specs.Players.{Stop, OutIn, TrappedIn, after_part, outcome_of, stops}
use Rattle.wasm_tree.specs.Calls.{Heard, Returned, Marked, Exhausted, Failed}
use Rattle.wasm_tree.specs.HostRun.{Machine, Block, Instance, hears, stretch, module_player}
use Rattle.wasm_tree.specs.Instance.{call_of}
use Rattle.wasm_runner.specs.declared.host.Ended.{Ended}
use Rattle.wasm_runner.specs.declared.host.Ended.TheVariants as ended
use Rattle.wasm_valid.specs.Checked.{Checked}
use Rattle.module_player.specs.declared.came.At.{At}
use Rattle.module_player.specs.declared.came.At.TheVariants as at
use Rattle.module_player.specs.declared.came.Came.{Came}
use Rattle.module_player.specs.declared.came.Came.TheVariants as came
use Rattle.module_player.specs.Telling.{TellsAll, StopsAmong}

-- ---- one call

-- what was told when a call is heard
abbrev pub told_of : Heard → List Item
told_of (Returned globals memory told) = told
told_of (Marked memory next told) = told
told_of (Exhausted told) = told
told_of (Failed told) = told

-- How a call without marks comes out whose teller is told of it. `heard` is what a host hears of it that was told `told` before.
pub data CallTells {Teller : Type 0} (tells : Teller → Item → Bool → Teller → Type 0) (told : List Item) (heard : Heard) (before : Teller) :
    Ended → (globals memory : List ℕ) → (after : Teller) → Type 0 where
  -- it returned, with all told
  CallReturns : (items : List Item) (globals memory : List ℕ) (after : Teller) → heard ≡ Returned globals memory (told ++ items) → TellsAll tells before items after →
      CallTells tells told heard before ended.Done globals memory after
  -- its budget is spent, or it trapped, with all told up to there
  CallLacks : (items : List Item) (globals memory : List ℕ) (after : Teller) → heard ≡ Exhausted (told ++ items) → TellsAll tells before items after →
      CallTells tells told heard before ended.StepsSpent globals memory after
  CallFails : (items : List Item) (globals memory : List ℕ) (after : Teller) → heard ≡ Failed (told ++ items) → TellsAll tells before items after →
      CallTells tells told heard before ended.Trapped globals memory after
  -- the teller stopped it, among the items that the call tells
  CallStops : (items : List Item) (globals memory : List ℕ) (after : Teller) → told_of heard ≡ told ++ items → StopsAmong tells before items after →
      CallTells tells told heard before ended.Stopped globals memory after

-- ---- a piece of a run

-- the place that the code names
abbrev pub place_of : At → Place
place_of at.Init = InInit
place_of (at.Frame frame) = InFrame frame

-- the trace where a run stops
abbrev pub trace_at : Stop Instance → List Item
trace_at stop = (outcome_of (λ instance. instance.trace) stop).trace

-- How a piece of a run comes out whose teller is told of it. `stop` is where the run stops from here on, by its
-- definition, `go` is how it goes on behind the piece, and `trace` is what was told before.
pub data Comes {Teller : Type 0} (tells : Teller → Item → Bool → Teller → Type 0) (trace : List Item) (go : Instance → Stop Instance) (stop : Stop Instance) (before : Teller) :
    Came → (globals memory : List ℕ) → (current : List (List ℤ)) → (after : Teller) → Type 0 where
  -- the piece ended, with all told: the run goes on from an instance with these globals, this memory and these current
  -- values, and with no call that has frames left
  ComesThrough : (items : List Item) (globals memory : List ℕ) (current : List (List ℤ)) (after : Teller) → TellsAll tells before items after →
      stop ≡ go (record { globals = globals; memory = memory; current = current; block = None; trace = trace ++ items }) →
      Comes tells trace go stop before came.Ended globals memory current after
  -- a budget was spent in a part, or a part trapped, with all told up to there
  ComesSpent : (items : List Item) (globals memory : List ℕ) (current : List (List ℤ)) (after : Teller) (part : Part) (world : Instance) (at : At) → TellsAll tells before items after →
      stop ≡ OutIn part world → world.trace ≡ trace ++ items → place_of at ≡ at_of part → Comes tells trace go stop before (came.StepsSpent at) globals memory current after
  ComesTrapped : (items : List Item) (globals memory : List ℕ) (current : List (List ℤ)) (after : Teller) (part : Part) (world : Instance) (at : At) → TellsAll tells before items after →
      stop ≡ TrappedIn part world → world.trace ≡ trace ++ items → place_of at ≡ at_of part → Comes tells trace go stop before (came.Trapped at) globals memory current after
  -- the teller stopped the run, among the items that the run tells from here on
  ComesHalted : (items : List Item) (globals memory : List ℕ) (current : List (List ℤ)) (after : Teller) → trace_at stop ≡ trace ++ items → StopsAmong tells before items after →
      Comes tells trace go stop before came.Stopped globals memory current after

-- what a call that is a part comes to
abbrev pub part_came : Ended → At → Came
part_came ended.Done at = came.Ended
part_came ended.StepsSpent at = came.StepsSpent at
part_came ended.Trapped at = came.Trapped at
part_came ended.Stopped at = came.Stopped

-- ---- calls of `frames`

-- what the host calls
abbrev pub machine_of : Checked → (steps : ℕ) → Machine
machine_of checked steps = record { «module» = checked.of; section = checked.section; steps = steps }

-- frames one after another, with nothing between
abbrev pub frame_list : (frame : ℕ) → List Inputs → List Task
frame_list frame [] = []
frame_list frame (inputs ∷ more) = Begin (Frame frame inputs) ∷ frame_list (frame + 1) more

-- a call of `frames` with so many frames, before its first reduction
abbrev pub block_of : Checked → (count : ℕ) → (globals memory : List ℕ) → Block
block_of checked count globals memory = record { next = call_of checked.of (codes "frames") (count ∷ []) globals memory; told = 0; count = count }

-- where the run stops that goes on with the next frame of a call of `frames`, then with more frames and then with other tasks
abbrev pub stop_of_block : Checked → (steps frame : ℕ) → Block → Inputs → (more : List Inputs) → (rest : List Task) → Instance → Stop Instance
stop_of_block checked steps frame block inputs more rest instance =
    let machine = machine_of checked steps in
    after_part (Frame frame inputs) (stretch machine frame block instance (hears machine true frame block.next instance.trace))
    (stops (module_player checked.of checked.section) steps (frame_list (frame + 1) more ++ rest))

-- the frame to whose part the end of a call of `frames` belongs: the next one without a mark, or the last
abbrev pub part_frame : (marks frame : ℕ) → ℕ
part_frame zero zero = 0
part_frame zero (suc frame) = frame
part_frame (suc marks) frame = frame

-- what such a call comes to: one that returns while marks may still come trapped
abbrev pub block_came : Ended → (marks frame : ℕ) → Came
block_came ended.Done zero frame = came.Ended
block_came ended.Done (suc marks) frame = came.Trapped (at.Frame (part_frame (suc marks) frame))
block_came ended.StepsSpent marks frame = came.StepsSpent (at.Frame (part_frame marks frame))
block_came ended.Trapped marks frame = came.Trapped (at.Frame (part_frame marks frame))
block_came ended.Stopped marks frame = came.Stopped
