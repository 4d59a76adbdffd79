-- Runs that are stopped and resumed, and names of parts.
use Rattle.std.proofs.Common.{◌≡◌, [], ◌∷◌, Some, refl, pos}
use Rattle.std.specs.Fmt.{digits}
use Rattle.cm_number.specs.Conversion.{to_signed, floor_modulus}
use Rattle.cm_base.specs.declared.play.Item.TheVariants as item
use Rattle.cm_base.specs.Parts.{Init, Send, Frame, part_at, at_of, InInit, InFrame}
use Rattle.cm_base.specs.Players.{Ended, Out, Trapped, stops}
use Rattle.wasm_tree.specs.Calls.{heard}
use Rattle.wasm_tree.specs.HostRun.{host_tasks}
use Rattle.wasm_tree.specs.Reduce.{pieces, plain, act, exec}
use Rattle.wasm_tree.specs.Stopped.{Resumes}
use Rattle.wasm_examples.specs.Hosts.{three_slots, event_script}
use Rattle.wasm_examples.specs.Stops.{sum_module, sum_slots, first_script, second_script, both_scripts, stopped_sum, snapshot_of_sum, resumed_sum, whole_sum, run_of_ping}

-- the stream's missing value is 0, and the second script begins at frame 3
pub joins : both_scripts
    ≡ record {
      frames = 5;
      streams = (pos 1 ∷ pos 2 ∷ pos 0 ∷ pos 10 ∷ []) ∷ [] ∷ [] ∷ [];
      values = record { frame = 1; endpoint = 1; value = pos 3 ∷ [] } ∷ record { frame = 4; endpoint = 1; value = pos 5 ∷ [] } ∷ [];
      events = [];
    }
joins = refl

-- 1 + 0, and 2 + 3 more, and 0 + 3 more
pub stops_sum : stopped_sum.trace ≡ item.Frame 0 (pos 1 ∷ []) ∷ item.Frame 1 (pos 6 ∷ []) ∷ item.Frame 2 (pos 9 ∷ []) ∷ []
unfolding pieces plain act exec heard stops digits to_signed floor_modulus
stops_sum = refl

-- the fixed global isn't kept
pub keeps_globals : snapshot_of_sum.globals ≡ pos 9 ∷ []
unfolding pieces plain act exec heard stops digits to_signed floor_modulus
keeps_globals = refl

-- nor is what the host keeps for endpoints that are no value inputs
pub keeps_current : snapshot_of_sum.current ≡ pos 3 ∷ []
unfolding pieces plain act exec heard stops digits to_signed floor_modulus
keeps_current = refl

-- 9 + 10 + 3, and 0 + 5 more
pub resumes : resumed_sum ≡ record { trace = item.Frame 0 (pos 22 ∷ []) ∷ item.Frame 1 (pos 27 ∷ []) ∷ []; ending = Ended }
unfolding pieces plain act exec heard stops digits to_signed floor_modulus
resumes = refl

-- both traces joined are that of the run which isn't stopped
pub resumes_whole : Resumes sum_module sum_slots [] first_script second_script 9 whole_sum
unfolding pieces plain act exec heard stops digits to_signed floor_modulus
resumes_whole = record { instance = stopped_sum; stopped = refl; resumed = refl; is = refl }

-- ---- `emit` as `frames`

pub asks_nothing : run_of_ping 0 ≡ record { trace = []; ending = Out Init }
unfolding pieces plain act exec heard stops digits to_signed floor_modulus
asks_nothing = refl

-- the first reduction asks the host with the count of frames, 1, which is the number of the event output
pub asks_at_once : run_of_ping 1 ≡ record { trace = item.Event 0 1 (pos 0 ∷ []) ∷ []; ending = Out (Frame 0 ([] ∷ [] ∷ [])) }
unfolding pieces plain act exec heard stops digits to_signed floor_modulus
asks_at_once = refl

-- the second one ends the call, which made no mark
pub asks_and_traps : run_of_ping 2 ≡ record { trace = item.Event 0 1 (pos 0 ∷ []) ∷ []; ending = Trapped (Frame 0 ([] ∷ [] ∷ [])) }
unfolding pieces plain act exec heard stops digits to_signed floor_modulus
asks_and_traps = refl

-- ---- parts by number and by name

-- `init` and frame 0 come before the event at frame 1
pub third_part : part_at 2 (host_tasks three_slots [] (event_script (pos 5)) 2) ≡ Some (Send 1 0 (pos 5 ∷ []) ([] ∷ [] ∷ [] ∷ []))
third_part = refl

pub third_name : at_of (Send 1 0 (pos 5 ∷ []) ([] ∷ [] ∷ [] ∷ [])) ≡ InFrame 1
third_name = refl

pub first_name : at_of Init ≡ InInit
first_name = refl
