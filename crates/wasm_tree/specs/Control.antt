-- The control stack of a function's code (Core Specification 1.0, 2.4.5 and the appendix's "Validation
-- Algorithm"): its sequences that are open, innermost first. A true stands for the first arm of an `if`, which an
-- `else` may end. A function's own sequence is the outermost one, and none is open after its `end`.
use Rattle.std.specs.Prelude.{ℕ, ◌≡◌, nat_le, List, [], ◌∷◌, length, Option, Some, None, Bool, true, false, if◌then◌else◌}
use Rattle.std.specs.Option.{option_and_then}
use Rattle.wasm_tree.specs.declared.instr.Instr.{Instr}
use Rattle.wasm_tree.specs.declared.instr.Instr.TheVariants as instr

-- how many blocks, loops and arms may stand inside one another, the function's own sequence not counted (this
-- project's own limit)
abbrev pub most_open : ℕ
most_open = 4096

-- a sequence is opened only inside at most so many and the function's own
abbrev pub opened : Bool → List Bool → Option (List Bool)
opened arm arms = if nat_le (length arms) most_open then Some (arm ∷ arms) else None

-- an `else` ends the first arm of an `if`, and begins the second
abbrev pub second_arm : Bool → List Bool → Option (List Bool)
second_arm true arms = Some (false ∷ arms)
second_arm false arms = None

-- What is open after an instruction, where it may stand there. Where nothing is open no instruction may.
abbrev pub after_instruction : List Bool → Instr → Option (List Bool)
after_instruction [] i = None
after_instruction (arm ∷ arms) (instr.Block result) = opened false (arm ∷ arms)
after_instruction (arm ∷ arms) (instr.Loop result) = opened false (arm ∷ arms)
after_instruction (arm ∷ arms) (instr.If result) = opened true (arm ∷ arms)
after_instruction (arm ∷ arms) instr.Else = second_arm arm arms
after_instruction (arm ∷ arms) instr.End = Some arms
after_instruction (arm ∷ arms) _ = Some (arm ∷ arms)

-- what is open after code
abbrev pub after_code : List Bool → List Instr → Option (List Bool)
after_code arms [] = Some arms
after_code arms (i ∷ code) = option_and_then (λ next. after_code next code) (after_instruction arms i)

-- where a function's code begins: its own sequence is open
abbrev pub at_begin : List Bool
at_begin = false ∷ []

-- after these instructions of a function these sequences are open
abbrev pub IsOpen : List Instr → List Bool → Type 0
IsOpen code arms = after_code at_begin code ≡ Some arms

-- the code of a function ends each sequence that it opens, and last the function's own
abbrev pub IsClosed : List Instr → Type 0
IsClosed code = IsOpen code []
