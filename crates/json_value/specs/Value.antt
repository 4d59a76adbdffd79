-- The JSON value that a file's bytes stand for.
use Rattle.std.specs.Prelude.{ℕ, ◌<◌, List, length, Option, None, if◌then◌else◌}
use Rattle.std.specs.Str.{IsUtf8, is_utf8}
use Rattle.serde_json.specs.Data.{Data}
use Rattle.serde_json.specs.Read.{read}

-- the value that bytes stand for: they are UTF-8, and the text is JSON
unfoldable pub value_of : List ℕ → Option Data
value_of bytes = if is_utf8 bytes then read bytes else None

-- a text that isn't empty: for other bytes want of memory is no answer
abbrev pub IsSomeText : List ℕ → Type 0
IsSomeText bytes = IsUtf8 bytes × (0 < length bytes)
