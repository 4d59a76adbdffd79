-- How the pass over code keeps what is known: the operands of all open sequences in one list, and for each sequence how
-- many operands lie below its own.
use Rattle.std.specs.Prelude.{◌≡◌, ◌≤◌, ◌-◌, List, [], ◌∷◌, length, take, drop, reverse, Option, Some, None, Bool, true, false, not, ◌&&◌, ◌||◌}
use Rattle.wasm_tree.specs.declared.module.ValType.{ValType}
use Rattle.wasm_valid.specs.declared.operands.Frame.{Frame}
use Rattle.wasm_valid.specs.Checking.{Known, Sequence, unreached, with_known, some_if, put_one, put_all, take_any, is_finished, gives, gives_nothing, second}
use Rattle.std.specs.Option.{option_map}

-- a sequence, where these operands, the last first, are its own and those below
abbrev pub sequence : List (Option ValType) → Frame → Sequence
sequence types f =
    record { label = f.label; result = f.result; arm = f.arm; known = record { dead = f.dead; types = take (length types - f.floor) types } }

abbrev pub below : List (Option ValType) → Frame → List (Option ValType)
below types f = drop (length types - f.floor) types

abbrev pub sequences : List (Option ValType) → List Frame → List Sequence
sequences types [] = []
sequences types (f ∷ fs) = sequence types f ∷ sequences (below types f) fs

-- no sequence has more operands below it than there are
abbrev pub AreFloors : List (Option ValType) → List Frame → Type 0
AreFloors types [] = types ≡ []
AreFloors types (f ∷ fs) = (f.floor ≤ length types) × AreFloors (below types f) fs

-- the open sequences, from operands and frames in the order in which they came, and the innermost frame
abbrev pub open_sequences : Bool → List (Option ValType) → Frame → List Frame → List Sequence
open_sequences true types inner outer = []
open_sequences false types inner outer = sequences (reverse types) (inner ∷ reverse outer)

abbrev pub AreKept : Bool → List (Option ValType) → Frame → List Frame → Type 0
AreKept true types inner outer = types ≡ []
AreKept false types inner outer = AreFloors (reverse types) (inner ∷ reverse outer)

-- ---- what changes

-- an operand of which this is known was taken
abbrev pub TookAny : List Sequence → Option ValType → List Sequence → Type 0
TookAny [] type after = ⊥
TookAny (s ∷ ss) type after = (known : Known) × (take_any s.known ≡ Some (type, known)) × (after ≡ with_known known s ∷ ss)

abbrev pub HasNone : List Sequence → Type 0
HasNone [] = Unit {0}
HasNone (s ∷ ss) = take_any s.known ≡ None

abbrev pub with_one : Option ValType → List Sequence → List Sequence
with_one type [] = []
with_one type (s ∷ ss) = with_known (put_one type s.known) s ∷ ss

abbrev pub with_all : List ValType → List Sequence → List Sequence
with_all types [] = []
with_all types (s ∷ ss) = with_known (put_all types s.known) s ∷ ss

abbrev pub changed : (Known → Option Known) → List Sequence → Option (List Sequence)
changed f [] = None
changed f (s ∷ ss) = option_map (λ known. with_known known s ∷ ss) (f s.known)

-- a test tells whether a step can be made, and which sequences are open after it
abbrev pub Tells : Bool → Option (List Sequence) → List Sequence → Type 0
Tells true step after = step ≡ Some after
Tells false step after = step ≡ None

abbrev pub with_none : List Sequence → List Sequence
with_none [] = []
with_none (s ∷ ss) = with_known unreached s ∷ ss

-- ---- the end of a sequence

abbrev pub bare_of : List (Option ValType) → Bool
bare_of types = elim types [ [] ↦ true | t ∷ ts ↦ false ]

-- the innermost sequence has no operands
abbrev pub is_bare : List Sequence → Bool
is_bare [] = false
is_bare (s ∷ ss) = bare_of s.known.types

abbrev pub result_of : List Sequence → Option ValType
result_of [] = None
result_of (s ∷ ss) = s.result

abbrev pub arm_of : List Sequence → Bool
arm_of [] = false
arm_of (s ∷ ss) = s.arm

abbrev pub second_of : List Sequence → List Sequence
second_of [] = []
second_of (s ∷ ss) = second s ∷ ss

abbrev pub others_of : List Sequence → List Sequence
others_of [] = []
others_of (s ∷ ss) = ss

-- the first arm of an `if` ends
abbrev pub second_step : List Sequence → Option (List Sequence)
second_step [] = None
second_step (s ∷ ss) = some_if (s.arm && is_finished s) (second s ∷ ss)

-- a sequence ends
abbrev pub close_step : List Sequence → Option (List Sequence)
close_step [] = None
close_step (s ∷ ss) = some_if (is_finished s && (not s.arm || gives_nothing s.result)) (gives s.result ss)

-- whether just the result of the innermost sequence stands there, which then was taken
abbrev pub Finishes : Bool → List Sequence → List Sequence → Type 0
Finishes true [] after = ⊥
Finishes true (s ∷ ss) after = (is_finished s ≡ true) × (known : Known) × (after ≡ with_known known s ∷ ss) × (is_bare after ≡ true)
Finishes false [] after = Unit {0}
Finishes false (s ∷ ss) after = is_finished s ≡ false
