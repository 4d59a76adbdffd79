-- State files of version 2: docs/COMMANDS.md, "State file". All numbers are little-endian; a count or a length has 4
-- bytes.
use Rattle.std.specs.Prelude.{ℕ, ◌≡◌, ◌<◌, ◌^◌, List, [], ◌∷◌, ◌++◌, length, ℤ, FitsSigned}
use Rattle.std.specs.List.{AllByRecursion, flat_map}
use Rattle.std.specs.Int.{w32, w64, cast_unsigned, to_le_bytes}
use Rattle.std.specs.Str.{IsUtf8}
use Rattle.cm_base.specs.declared.play.Saved.{Saved}
use Rattle.saved_state.specs.declared.state.Version2.{Version2}

-- the first bytes
abbrev pub mark : List ℕ
mark = 0x43 ∷ 0x4D ∷ 0x53 ∷ 0x32 ∷ []

unfoldable pub count_bytes : ℕ → List ℕ
count_bytes n = to_le_bytes w32 n

-- bytes behind their length
abbrev pub text_bytes : List ℕ → List ℕ
text_bytes bytes = count_bytes (length bytes) ++ bytes

unfoldable pub value_bytes : ℤ → List ℕ
value_bytes z = to_le_bytes w32 (cast_unsigned w32 z)

unfoldable pub scalar_bytes : ℤ → List ℕ
scalar_bytes z = to_le_bytes w64 (cast_unsigned w64 z)

-- parts behind their count
abbrev pub list_bytes : {X : Type 0} → (X → List ℕ) → List X → List ℕ
list_bytes bytes_of xs = count_bytes (length xs) ++ flat_map bytes_of xs

abbrev pub parameter_bytes : Saved → List ℕ
parameter_bytes saved = text_bytes saved.name ++ value_bytes saved.value

-- the bytes of a file: the parameters, the module, the memory, the globals and the current scalars
abbrev pub state_bytes : Version2 → List ℕ
state_bytes state =
    mark ++ (list_bytes parameter_bytes state.saved ++ (text_bytes state.module_bytes ++ (text_bytes state.snapshot.memory
    ++ (list_bytes scalar_bytes state.snapshot.globals ++ list_bytes scalar_bytes state.snapshot.current))))

-- a length or a count has 4 bytes
abbrev pub IsCounted : {X : Type 0} → List X → Type 0
IsCounted xs = length xs < 2 ^ 32

-- a parameter that can be written
pub record IsParameter (saved : Saved) : Type 0 where
  pub utf8 : IsUtf8 saved.name
  pub short : IsCounted saved.name
  pub fits : FitsSigned w32 saved.value

abbrev pub IsScalar : ℤ → Type 0
IsScalar z = FitsSigned w64 z

-- what can be written
pub record IsWritable (state : Version2) : Type 0 where
  pub saved : IsCounted state.saved × AllByRecursion IsParameter state.saved
  pub module_bytes : IsCounted state.module_bytes
  pub memory : IsCounted state.snapshot.memory
  pub globals : IsCounted state.snapshot.globals × AllByRecursion IsScalar state.snapshot.globals
  pub current : IsCounted state.snapshot.current × AllByRecursion IsScalar state.snapshot.current

-- the bytes are those of a state, and nothing follows
pub record IsVersion2 (bytes : List ℕ) (state : Version2) : Type 0 where
  pub writable : IsWritable state
  pub spelled : bytes ≡ state_bytes state
