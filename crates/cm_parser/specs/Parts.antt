-- Lists of parts, and what a path may stand for.
use Rattle.std.specs.Prelude.{ℕ, List, Option, Some, None}
use Rattle.cm_base.specs.declared.place.Place.{Place}
use Rattle.cm_tree.specs.declared.sign.Sign.TheVariants as s
use Rattle.cm_tree.specs.declared.path.Word.{Word}
use Rattle.token_reader.specs.Parsers.{Parser, ◌>>◌, expect, is_sign}

-- a part after a comma
abbrev pub next : {A : Type 0} → Parser A → Parser A
next part = expect (is_sign s.Comma) >> part

-- the name that a path of one name is
abbrev pub only_word : Place → Option (List ℕ) → Option Word
only_word p None = None
only_word p (Some text) = Some (record { place = p; text = text })
