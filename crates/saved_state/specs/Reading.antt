-- How the parts of a state file of version 2 are read from the front of bytes. What is read is told with the bytes
-- that are left, and nothing where the bytes end early or a name isn't UTF-8.
use Rattle.std.specs.Prelude.{ℕ, zero, suc, ◌≡◌, nat_le, List, [], ◌∷◌, length, take, drop, if◌then◌else◌, Option, Some, None, Result, Ok, Err, ℤ}
use Rattle.std.specs.Int.{w32, w64, cast_signed, from_le_bytes}
use Rattle.std.specs.Str.{is_utf8}
use Rattle.cm_base.specs.declared.play.Saved.{Saved}
use Rattle.saved_state.specs.declared.cursor.Stop.{Stop}
use Rattle.saved_state.specs.declared.cursor.Stop.TheVariants as stop
use Rattle.saved_state.specs.declared.state.Version2.{Version2}

abbrev pub Reader : Type 0 → Type 0
Reader X = List ℕ → Option (X × List ℕ)

infixl 10 ◌>>=◌
abbrev pub ◌>>=◌ : {X Y : Type 0} → Option X → (X → Option Y) → Option Y
None >>= f = None
(Some x) >>= f = f x

-- code ends early where nothing is read; want of memory may come at any time
abbrev pub Fails : {Y : Type 0} → Stop → Option Y → Type 0
Fails stop.Early read = read ≡ None
Fails stop.NoMemory read = Unit {0}

-- what code answers for what is read
abbrev pub Gives : {X Y : Type 0} → (X → Y) → Result X Stop → Option Y → Type 0
Gives view (Ok x) read = read ≡ Some (view x)
Gives view (Err e) read = Fails e read

-- so many bytes
unfoldable pub bytes_at : ℕ → Reader (List ℕ)
bytes_at n bytes = if nat_le n (length bytes) then Some (take n bytes, drop n bytes) else None

unfoldable pub count_at : Reader ℕ
count_at bytes = bytes_at 4 bytes >>= λ four. Some (from_le_bytes w32 four.0, four.1)

unfoldable pub value_at : Reader ℤ
value_at bytes = bytes_at 4 bytes >>= λ four. Some (cast_signed w32 (from_le_bytes w32 four.0), four.1)

unfoldable pub scalar_at : Reader ℤ
scalar_at bytes = bytes_at 8 bytes >>= λ eight. Some (cast_signed w64 (from_le_bytes w64 eight.0), eight.1)

unfoldable pub text_at : Reader (List ℕ)
text_at bytes = count_at bytes >>= λ count. bytes_at count.0 count.1

unfoldable pub name_at : Reader (List ℕ)
name_at bytes = text_at bytes >>= λ text. if is_utf8 text.0 then Some text else None

unfoldable pub parameter_at : Reader Saved
parameter_at bytes = name_at bytes >>= λ name. value_at name.1 >>= λ value. Some (record { name = name.0; value = value.0 }, value.1)

-- so many parts, one after another
unfoldable pub each_at : {X : Type 0} → Reader X → ℕ → Reader (List X)
each_at f zero bytes = Some ([], bytes)
each_at f (suc n) bytes = f bytes >>= λ first. each_at f n first.1 >>= λ others. Some (first.0 ∷ others.0, others.1)

unfoldable pub list_at : {X : Type 0} → Reader X → Reader (List X)
list_at f bytes = count_at bytes >>= λ count. each_at f count.0 count.1

-- what stands behind the mark
unfoldable pub state_at : Reader Version2
state_at bytes =
    list_at parameter_at bytes >>= λ saved.
    text_at saved.1 >>= λ code.
    text_at code.1 >>= λ memory.
    list_at scalar_at memory.1 >>= λ globals.
    list_at scalar_at globals.1 >>= λ current.
    Some (record { saved = saved.0; module_bytes = code.0; snapshot = record { memory = memory.0; globals = globals.0; current = current.0 } }, current.1)
