-- What stands for a name in a line on the error stream: docs/COMMANDS.md, "Statuses".
use Rattle.std.specs.Prelude.{ℕ, ◌+◌, ◌/◌, ◌%◌, List, [], ◌∷◌, ◌||◌, ◌==◌, nat_lt, if◌then◌else◌}
use Rattle.std.specs.List.{flat_map}

-- one of the 16 hexadecimal digits, in lower case
abbrev pub hex_digit : ℕ → ℕ
hex_digit n = if nat_lt n 10 then 48 + n else 87 + n

-- a control byte, below 20 hexadecimal or 7F, as `\xNN`, and any other byte as it stands
abbrev pub shown : ℕ → List ℕ
shown byte =
    if nat_lt byte 32 || byte == 127 then 92 ∷ 120 ∷ hex_digit (byte / 16) ∷ hex_digit (byte % 16) ∷ [] else byte ∷ []

-- the bytes of a name in a line
abbrev pub escaped : List ℕ → List ℕ
escaped name = flat_map shown name
