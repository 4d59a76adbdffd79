-- How code is checked in one pass: the validation algorithm of Core Specification 1.0, appendix, over the open sequences,
-- each with what is known of its operands. The laws of wasm_valid/proofs tie it to the typing relation `Typed`.
use Rattle.std.specs.Prelude.{ℕ, ◌^◌, ◌≤◌, IfSome, nat_le, List, [], ◌∷◌, ◌++◌, length, map, reverse, sum_by, slice_get, Option, Some, None, Bool, true, false, not, ◌&&◌, ◌||◌, if◌then◌else◌}
use Rattle.std.specs.Option.{option_and_then, option_map}
use Rattle.std.specs.List.{list_all}
use Rattle.wasm_tree.specs.declared.module.ValType.{ValType}
use Rattle.wasm_tree.specs.declared.module.ValType.TheVariants.{I32, I64}
use Rattle.wasm_tree.specs.declared.instr.Instr.{Instr}
use Rattle.wasm_tree.specs.declared.instr.Instr.TheVariants as instr
use Rattle.wasm_tree.specs.Meaning.{load_type, load_size, store_type, store_size}
use Rattle.wasm_tree.specs.Typed.{Context, result_types, convert_from, convert_to}

-- What is known of the operands of a sequence: their types, the last first, and nothing of one whose type may be any.
-- Where no instruction is reached, any operands may stand below.
pub record Known : Type 0 where
  pub dead : Bool
  pub types : List (Option ValType)

-- an open sequence: what a branch to it takes along, what it gives, and whether it is the first arm of an `if`
pub record Sequence : Type 0 where
  pub label : Option ValType
  pub result : Option ValType
  pub arm : Bool
  pub known : Known

abbrev pub nothing : Known
nothing = record { dead = false; types = [] }

abbrev pub unreached : Known
unreached = record { dead = true; types = [] }

abbrev pub with_known : Known → Sequence → Sequence
with_known known s = record { label = s.label; result = s.result; arm = s.arm; known = known }

-- ---- operands

abbrev pub is_same : ValType → ValType → Bool
is_same I32 I32 = true
is_same I64 I64 = true
is_same _ _ = false

-- an operand of which this is known may be of the type
abbrev pub may_be : Option ValType → ValType → Bool
may_be None type = true
may_be (Some known) type = is_same known type

abbrev pub some_if : {A : Type 0} → Bool → A → Option A
some_if true x = Some x
some_if false x = None

unfoldable pub take_one : ValType → Known → Option Known
take_one type known = elim known.types [
  | [] ↦ some_if known.dead known
  | t ∷ ts ↦ some_if (may_be t type) (record { dead = known.dead; types = ts })
]

unfoldable pub take_all : List ValType → Known → Option Known
take_all [] known = Some known
take_all (type ∷ types) known = option_and_then (take_all types) (take_one type known)

abbrev pub put_one : Option ValType → Known → Known
put_one type known = record { dead = known.dead; types = type ∷ known.types }

abbrev pub put_all : List ValType → Known → Known
put_all types known = record { dead = known.dead; types = map (λ t. Some t) types ++ known.types }

-- an operand of any type
unfoldable pub take_any : Known → Option (Option ValType × Known)
take_any known = elim known.types [
  | [] ↦ some_if known.dead (None, known)
  | t ∷ ts ↦ Some (t, record { dead = known.dead; types = ts })
]

abbrev pub takes : List ValType → List ValType → Known → Option Known
takes ins outs known = option_map (put_all outs) (take_all ins known)

-- operands are taken, and nothing is reached after
abbrev pub ends : List ValType → Known → Option Known
ends ins known = option_map (λ k. unreached) (take_all ins known)

-- what is known of either of two operands of one type
abbrev pub joined : Option ValType → Option ValType → Option (Option ValType)
joined None b = Some b
joined (Some a) None = Some (Some a)
joined (Some a) (Some b) = some_if (is_same a b) (Some a)

abbrev pub drops : Known → Option Known
drops known = option_map (λ taken. taken.1) (take_any known)

abbrev pub selects : Known → Option Known
selects known =
    option_and_then (λ k. option_and_then (λ b. option_and_then (λ a. option_map (λ t. put_one t a.1) (joined a.0 b.0)) (take_any b.1)) (take_any k)) (take_one I32 known)

-- ---- plain instructions

-- what an instruction does to the operands
pub data Action : Type 0 where
  Wrong : Action
  Takes : (ins outs : List ValType) → Action
  Ends : (ins : List ValType) → Action
  Drops : Action
  Selects : Action

unfoldable pub acted : Action → Known → Option Known
acted Wrong known = None
acted (Takes ins outs) known = takes ins outs known
acted (Ends ins) known = ends ins known
acted Drops known = drops known
acted Selects known = selects known

abbrev pub if_given : {A : Type 0} → Option A → (A → Action) → Action
if_given None f = Wrong
if_given (Some x) f = f x

abbrev pub is_same_result : Option ValType → Option ValType → Bool
is_same_result None None = true
is_same_result (Some a) (Some b) = is_same a b
is_same_result _ _ = false

-- the label is there and takes this along
abbrev pub takes_along : List (Option ValType) → Option ValType → ℕ → Bool
takes_along labels result label = elim (slice_get labels label) [ None ↦ false | Some other ↦ is_same_result other result ]

-- what the instruction does among these labels, in a function with this result
unfoldable pub action : Context → Option ValType → List (Option ValType) → Instr → Action
action c result labels instr.Unreachable = Ends []
action c result labels instr.Nop = Takes [] []
action c result labels (instr.Br label) = if_given (slice_get labels label) (λ t. Ends (result_types t))
action c result labels (instr.BrIf label) = if_given (slice_get labels label) (λ t. Takes (I32 ∷ result_types t) (result_types t))
action c result labels (instr.BrTable table) =
    if_given (slice_get labels table.other) (λ t. if list_all (takes_along labels t) table.labels then Ends (I32 ∷ result_types t) else Wrong)
action c result labels instr.Return = Ends (result_types result)
action c result labels (instr.Call function) = if_given (slice_get c.functions function) (λ type. Takes (reverse type.params) (reverse type.results))
action c result labels instr.Drop = Drops
action c result labels instr.Select = Selects
action c result labels (instr.LocalGet local) = if_given (slice_get c.locals local) (λ t. Takes [] (t ∷ []))
action c result labels (instr.LocalSet local) = if_given (slice_get c.locals local) (λ t. Takes (t ∷ []) [])
action c result labels (instr.LocalTee local) = if_given (slice_get c.locals local) (λ t. Takes (t ∷ []) (t ∷ []))
action c result labels (instr.GlobalGet global) = if_given (slice_get c.globals global) (λ var. Takes [] (var.ty ∷ []))
action c result labels (instr.GlobalSet global) = if_given (slice_get c.globals global) (λ var. if var.mutable then Takes (var.ty ∷ []) [] else Wrong)
action c result labels (instr.Load op place) = if nat_le (2 ^ place.align) (load_size op) then Takes (I32 ∷ []) (load_type op ∷ []) else Wrong
action c result labels (instr.Store op place) = if nat_le (2 ^ place.align) (store_size op) then Takes (store_type op ∷ I32 ∷ []) [] else Wrong
action c result labels instr.MemorySize = Takes [] (I32 ∷ [])
action c result labels (instr.I32Const value) = Takes [] (I32 ∷ [])
action c result labels (instr.I64Const value) = Takes [] (I64 ∷ [])
action c result labels (instr.Test type) = Takes (type ∷ []) (I32 ∷ [])
action c result labels (instr.Compare type op) = Takes (type ∷ type ∷ []) (I32 ∷ [])
action c result labels (instr.Unary type op) = Takes (type ∷ []) (type ∷ [])
action c result labels (instr.Binary type op) = Takes (type ∷ type ∷ []) (type ∷ [])
action c result labels (instr.Convert op) = Takes (convert_from op ∷ []) (convert_to op ∷ [])
action c result labels (instr.Block type) = Wrong
action c result labels (instr.Loop type) = Wrong
action c result labels (instr.If type) = Wrong
action c result labels instr.Else = Wrong
action c result labels instr.End = Wrong

-- ---- sequences

abbrev pub opened : Option ValType → Option ValType → Bool → List Sequence → List Sequence
opened label result arm ss = record { label = label; result = result; arm = arm; known = nothing } ∷ ss

-- no operands are left
abbrev pub is_taken : Option Known → Bool
is_taken None = false
is_taken (Some known) = elim known.types [ [] ↦ true | t ∷ ts ↦ false ]

-- just the result of the sequence stands there
abbrev pub is_finished : Sequence → Bool
is_finished s = is_taken (take_all (result_types s.result) s.known)

-- what the sequence gives stands in the one around it
abbrev pub gives : Option ValType → List Sequence → List Sequence
gives result [] = []
gives result (s ∷ ss) = with_known (put_all (result_types result) s.known) s ∷ ss

abbrev pub gives_nothing : Option ValType → Bool
gives_nothing None = true
gives_nothing (Some type) = false

abbrev pub second : Sequence → Sequence
second s = record { label = s.label; result = s.result; arm = false; known = nothing }

abbrev pub labels_of : List Sequence → List (Option ValType)
labels_of ss = map (λ s. s.label) ss

-- what is known after an instruction inside these sequences, where it may stand there: the first arm of an `if` ends
-- with an `else`, and an `if` without a second arm gives nothing
unfoldable pub inside : Context → Option ValType → Sequence → List Sequence → Instr → Option (List Sequence)
inside c result s ss (instr.Block type) = Some (opened type type false (s ∷ ss))
inside c result s ss (instr.Loop type) = Some (opened None type false (s ∷ ss))
inside c result s ss (instr.If type) = option_map (λ known. opened type type true (with_known known s ∷ ss)) (takes (I32 ∷ []) [] s.known)
inside c result s ss instr.Else = some_if (s.arm && is_finished s) (second s ∷ ss)
inside c result s ss instr.End = some_if (is_finished s && (not s.arm || gives_nothing s.result)) (gives s.result ss)
inside c result s ss i = option_map (λ known. with_known known s ∷ ss) (acted (action c result (labels_of (s ∷ ss)) i) s.known)

abbrev pub after_one : Context → Option ValType → List Sequence → Instr → Option (List Sequence)
after_one c result [] i = None
after_one c result (s ∷ ss) i = inside c result s ss i

unfoldable pub after_all : Context → Option ValType → List Sequence → List Instr → Option (List Sequence)
after_all c result ss [] = Some ss
after_all c result ss (i ∷ code) = option_and_then (λ next. after_all c result next code) (after_one c result ss i)

-- a function's own sequence
abbrev pub at_begin : Option ValType → List Sequence
at_begin result = opened result result false []

-- ---- how much is held

-- the operands of all open sequences
abbrev pub height : List Sequence → ℕ
height ss = sum_by (λ s. length s.known.types) ss

-- so many operands and open sequences at most
abbrev pub IsRoomy : ℕ → ℕ → List Sequence → Type 0
IsRoomy cells marks ss = (height ss ≤ cells) × (length ss ≤ marks)

-- wherever the code is accepted so far, no more stands there
abbrev pub Stays : Context → Option ValType → ℕ → ℕ → List Sequence → List Instr → Type 0
Stays c result cells marks ss [] = IsRoomy cells marks ss
Stays c result cells marks ss (i ∷ code) =
    IsRoomy cells marks ss × IfSome (after_one c result ss i) (λ next. Stays c result cells marks next code)
