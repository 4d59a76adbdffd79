-- What the code answers for a piece at the front of a text.
use Rattle.std.specs.Prelude.{◌≡◌, ◌≤◌, ℕ}
use Rattle.cm_tree.specs.Pieces as tree
use Rattle.cm_lexer.specs.Scan.{Found, found}
use Rattle.cm_lexer.specs.declared.number.Suffix.{Suffix}
use Rattle.cm_lexer.specs.declared.number.Suffix.TheVariants as suffix
use Rattle.cm_lexer.specs.declared.piece.Piece.{Piece}
use Rattle.cm_lexer.specs.declared.piece.Piece.TheVariants as piece

-- the answer is this piece with its length; the length of a faulty piece isn't told
abbrev pub Gives : Piece → Found → Type 0
Gives (piece.Gap len) is = is ≡ found tree.Gap len
Gives (piece.Token kind len) is = is ≡ found (tree.Token kind) len
Gives (piece.Fault cause at) is = is.piece ≡ tree.Fault cause at

abbrev pub suffix_of : Suffix → tree.Suffix
suffix_of suffix.Unmarked = tree.Unmarked
suffix_of suffix.Narrow = tree.Narrow
suffix_of suffix.Wide = tree.Wide

-- the answer is within so many bytes
abbrev pub FitsIn : Piece → ℕ → Type 0
FitsIn (piece.Gap len) all = (1 ≤ len) × (len ≤ all)
FitsIn (piece.Token kind len) all = (1 ≤ len) × (len ≤ all)
FitsIn (piece.Fault cause at) all = at ≤ all
