-- Runs of a host.
use Rattle.std.proofs.Common.{◌≡◌, [], ◌∷◌, refl, pos, negsuc}
use Rattle.std.specs.Fmt.{digits}
use Rattle.cm_number.specs.Conversion.{to_signed, floor_modulus}
use Rattle.cm_base.specs.declared.play.Item.TheVariants as item
use Rattle.cm_base.specs.Parts.{Send, Frame}
use Rattle.cm_base.specs.Players.{Ended, Out, Trapped, stops, play_part, NotBegun, PartEnds, PartSpent}
use Rattle.wasm_tree.specs.Reduce.{pieces, plain, act, exec}
use Rattle.wasm_tree.specs.Calls.{heard}
use Rattle.wasm_examples.specs.Hosts.{run_of_event, part_of_event, add_event, pass_event, divide_event, run_of_frames, run_of_mix, saved_level}

-- the event at frame 1 adds 5 to the sum
pub adds : run_of_event add_event (pos 5) 5 ≡ record { trace = item.Frame 0 (pos 0 ∷ []) ∷ item.Frame 1 (pos 5 ∷ []) ∷ []; ending = Ended }
unfolding pieces plain act exec heard stops digits to_signed floor_modulus
adds = refl

-- the event at frame 1 comes out again before the frame
pub passes : run_of_event pass_event (pos 5) 4 ≡ record { trace = item.Frame 0 (pos 0 ∷ []) ∷ item.Event 1 2 (pos 5 ∷ []) ∷ item.Frame 1 (pos 0 ∷ []) ∷ []; ending = Ended }
unfolding pieces plain act exec heard stops digits to_signed floor_modulus
passes = refl

-- the addition takes five reductions
pub spends : run_of_event add_event (pos 5) 4 ≡ record { trace = item.Frame 0 (pos 0 ∷ []) ∷ []; ending = Out (Send 1 0 (pos 5 ∷ []) ([] ∷ [] ∷ [] ∷ [])) }
unfolding pieces plain act exec heard stops digits to_signed floor_modulus
spends = refl

-- frame 0 takes no more than four
pub part_ends : part_of_event add_event (pos 5) 4 1 ≡ PartEnds
unfolding pieces plain act exec heard play_part digits to_signed floor_modulus
part_ends = refl

pub part_spends : part_of_event add_event (pos 5) 4 2 ≡ PartSpent
unfolding pieces plain act exec heard play_part digits to_signed floor_modulus
part_spends = refl

-- nothing comes after it
pub part_waits : part_of_event add_event (pos 5) 4 3 ≡ NotBegun
unfolding pieces plain act exec heard play_part digits to_signed floor_modulus
part_waits = refl

-- a division by 0 ends the run
pub traps : run_of_event divide_event (pos 0) 4 ≡ record { trace = item.Frame 0 (pos 0 ∷ []) ∷ []; ending = Trapped (Send 1 0 (pos 0 ∷ []) ([] ∷ [] ∷ [] ∷ [])) }
unfolding pieces plain act exec heard stops digits to_signed floor_modulus
traps = refl

-- the last frame is the first of a call of its own
pub blocks : run_of_frames 5 ≡ record { trace = item.Frame 0 (pos 7 ∷ []) ∷ item.Frame 1 (pos 8 ∷ []) ∷ item.Frame 2 (pos 7 ∷ []) ∷ []; ending = Ended }
unfolding pieces plain act exec heard stops digits to_signed floor_modulus
blocks = refl

-- from the first -1 to the second there are five reductions
pub blocks_spend : run_of_frames 4 ≡ record { trace = item.Frame 0 (pos 7 ∷ []) ∷ []; ending = Out (Frame 1 ([] ∷ [])) }
unfolding pieces plain act exec heard stops digits to_signed floor_modulus
blocks_spend = refl

-- -10 + 2, 20 + 3 and 0 + 3
pub sets : run_of_mix [] ≡ record { trace = item.Frame 0 (negsuc 7 ∷ []) ∷ item.Frame 1 (pos 23 ∷ []) ∷ item.Frame 2 (pos 3 ∷ []) ∷ []; ending = Ended }
unfolding pieces plain act exec heard stops digits to_signed floor_modulus
sets = refl

-- -10 + 5, and then as before
pub starts : run_of_mix saved_level ≡ record { trace = item.Frame 0 (negsuc 4 ∷ []) ∷ item.Frame 1 (pos 23 ∷ []) ∷ item.Frame 2 (pos 3 ∷ []) ∷ []; ending = Ended }
unfolding pieces plain act exec heard stops digits to_signed floor_modulus
starts = refl
