-- What has to be shown of the piece that is read at the front of a text: it is one, and no other goes further.
use Rattle.std.proofs.Common.{◌≡◌, ℕ, ◌≤◌, ◌<◌, length, take, Bool, true, false, refl, arith}
use Rattle.cm_tree.specs.Pieces.{Text, Piece, IsPiece}
use Rattle.cm_lexer.specs.Scan.{Found}

-- what is read goes as far as this piece of n bytes, and is this piece where it goes no further
pub record Covered (piece : Piece) (n : ℕ) (found : Found) : Type 0 where
  pub reach : n ≤ found.len
  pub same : n ≡ found.len → found.piece ≡ piece

-- what is read stands there
pub record Stands (text : Text) (found : Found) : Type 0 where
  pub some : 0 < found.len
  pub within : found.len ≤ length text
  pub is : IsPiece found.piece (take found.len text)

pub covered_longer : (piece : Piece) (n : ℕ) (found : Found) → n < found.len → Covered piece n found
covered_longer piece n found longer = record { reach = omega arith; same = λ e. absurd (omega (arith, e)) }
