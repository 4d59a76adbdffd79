-- The words of the command line: docs/COMMANDS.md, "Commands".
use Rattle.std.specs.Prelude.{ℕ, ◌≤◌, ◌+◌, ◌*◌, ◌-◌, ◌^◌, List, [], ◌∷◌, Option, Some, None, option_map, option_and_then, Bool, not, length, ◌==◌, ◌&&◌, nat_le, if◌then◌else◌, codes}
use Rattle.std.specs.Borrow.{Bor}
use Rattle.std.specs.Str.{bytes_eq}
use Rattle.commands.specs.declared.words.Command.{Command as Found}
use Rattle.commands.specs.declared.words.Command.TheVariants as found

-- what words can ask for
pub data Command : Type 0 where
  -- compile the patch of a manifest, and write its module to a file
  Compile : (manifest out : List ℕ) → Command
  -- compile the patch of a manifest, and run it over a script with so many turns for each part; its parameters begin with
  -- what a state file saves, where one is named
  Render : (manifest input : List ℕ) (turns : ℕ) (state : Option (List ℕ)) → Command
  -- play a module over a script, with so many reductions for each part of its run
  Play : (wasm input : List ℕ) (steps : ℕ) → Command
  -- go on with the stopped run of a state file over a script, with so many reductions for each part; the state that it comes
  -- to is written, where a file is named for it
  Resume : (state input : List ℕ) (steps : ℕ) (new : Option (List ℕ)) → Command

-- a file's name isn't empty
abbrev pub is_file_word : List ℕ → Bool
is_file_word word = not (length word == 0)

-- `compile M OUT`
abbrev pub compile_of : List (List ℕ) → Option Command
compile_of [] = None
compile_of (manifest ∷ []) = None
compile_of (manifest ∷ out ∷ []) = if is_file_word manifest && is_file_word out then Some (Compile manifest out) else None
compile_of (manifest ∷ out ∷ other ∷ others) = None

-- the number that one more decimal digit makes of `n`, where it is no more than the limit
abbrev pub next_number : (most n byte : ℕ) → Option ℕ
next_number most n byte = if nat_le 48 byte && (nat_le byte 57 && nat_le (n * 10 + (byte - 48)) most) then Some (n * 10 + (byte - 48)) else None

-- the number that decimal digits behind those of `n` make; one that is past the limit stays so with more digits
abbrev pub number_behind : (most n : ℕ) → List ℕ → Option ℕ
number_behind most n [] = Some n
number_behind most n (byte ∷ digits) = option_and_then (λ next. number_behind most next digits) (next_number most n byte)

-- 1 to 20 decimal digits, which may begin with zeros, of a number that is no more than the limit
abbrev pub number_within : ℕ → List ℕ → Option ℕ
number_within most word = if nat_le 1 (length word) && nat_le (length word) 20 then number_behind most 0 word else None

-- how many reductions a part of a run may be given
abbrev pub most_steps : ℕ
most_steps = 2 ^ 56

-- how many turns a part of a run may be given
abbrev pub most_turns : ℕ
most_turns = 1048576

-- the command of two files and a number, where the files are names and the number is within its limit
abbrev pub command_running : (make : ℕ → Command) → (most : ℕ) → (file input number : List ℕ) → Option Command
command_running make most file input number = if is_file_word file && is_file_word input then option_map make (number_within most number) else None

-- the name of a file that may stand last
abbrev pub last_file : List (List ℕ) → Option (Option (List ℕ))
last_file [] = Some None
last_file (name ∷ []) = if is_file_word name then Some (Some name) else None
last_file (name ∷ other ∷ others) = None

-- `render M INPUT TURNS [STATE]`
abbrev pub render_of : List (List ℕ) → Option Command
render_of [] = None
render_of (manifest ∷ []) = None
render_of (manifest ∷ input ∷ []) = None
render_of (manifest ∷ input ∷ turns ∷ words) =
    option_and_then (λ state. command_running (λ number. Render manifest input number state) most_turns manifest input turns) (last_file words)

-- `play WASM INPUT STEPS`
abbrev pub play_of : List (List ℕ) → Option Command
play_of [] = None
play_of (wasm ∷ []) = None
play_of (wasm ∷ input ∷ []) = None
play_of (wasm ∷ input ∷ steps ∷ []) = command_running (Play wasm input) most_steps wasm input steps
play_of (wasm ∷ input ∷ steps ∷ other ∷ others) = None

-- `resume STATE INPUT STEPS [NEW]`
abbrev pub resume_of : List (List ℕ) → Option Command
resume_of [] = None
resume_of (state ∷ []) = None
resume_of (state ∷ input ∷ []) = None
resume_of (state ∷ input ∷ steps ∷ words) =
    option_and_then (λ new. command_running (λ number. Resume state input number new) most_steps state input steps) (last_file words)

-- the command that the words are, compared byte for byte
abbrev pub command_of : List (List ℕ) → Option Command
command_of [] = None
command_of (name ∷ words) =
    if bytes_eq name (codes "compile") then compile_of words else if bytes_eq name (codes "render") then render_of words else if bytes_eq name (codes "play") then play_of words
    else if bytes_eq name (codes "resume") then resume_of words else None

-- the name of a file that is borrowed
abbrev pub name_of : Option (Bor (List ℕ)) → Option (List ℕ)
name_of None = None
name_of (Some name) = Some name.now

-- the same command where its words are borrowed
abbrev pub meaning : Found → Command
meaning (found.Compile manifest out) = Compile manifest.now out.now
meaning (found.Render manifest input turns state) = Render manifest.now input.now turns (name_of state)
meaning (found.Play wasm input steps) = Play wasm.now input.now steps
meaning (found.Resume state input steps new) = Resume state.now input.now steps (name_of new)

-- the file that words write, where they write one
abbrev pub file_written : Option Command → Option (List ℕ)
file_written None = None
file_written (Some (Compile manifest out)) = Some out
file_written (Some (Render manifest input turns state)) = None
file_written (Some (Play wasm input steps)) = None
file_written (Some (Resume state input steps new)) = new

-- a command that runs a patch gives its parts no more turns than a word may say
abbrev pub GivesTurns : Found → Type 0
GivesTurns (found.Compile manifest out) = Unit {0}
GivesTurns (found.Render manifest input turns state) = turns ≤ most_turns
GivesTurns (found.Play wasm input steps) = Unit {0}
GivesTurns (found.Resume state input steps new) = Unit {0}
