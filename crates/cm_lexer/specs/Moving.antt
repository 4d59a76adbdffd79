-- The place after one byte more.
use Rattle.std.specs.Prelude.{ℕ, ◌+◌, ◌≤◌, ◌==◌, if◌then◌else◌}
use Rattle.cm_base.specs.declared.place.Place.{Place}
use Rattle.cm_lexer.specs.declared.pen.Pen.{Pen}

abbrev pub moved : Place → ℕ → Place
moved place byte =
    if byte == 10 then record { file = place.file; line = place.line + 1; column = 1 }
    else record { file = place.file; line = place.line; column = place.column + 1 }

-- numbers of lines and columns fit where numbers of bytes do
pub record IsNear (pen : Pen) : Type 0 where
  pub line : pen.place.line ≤ pen.offset + 1
  pub column : pen.place.column ≤ pen.offset + 1
