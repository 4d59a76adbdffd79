-- What is read is within the text.
use Rattle.std.proofs.Common.{◌≡◌, ℕ, ◌≤◌, ◌<◌, length, take, ap, sym, subst, ◌∙◌, arith, length-take}
use Rattle.cm_base.specs.declared.cause.Cause.{Cause}
use Rattle.cm_tree.specs.Pieces as tree
use Rattle.cm_tree.specs.Pieces.{Text, IsPiece}
use Rattle.cm_lexer.specs.declared.piece.Piece.{Piece}
use Rattle.cm_lexer.specs.declared.piece.Piece.TheVariants as piece
use Rattle.cm_lexer.specs.Found.{Gives, FitsIn}
use Rattle.cm_lexer.specs.Scan.{Found, found, scan}
use Rattle.cm_lexer.proofs.Covering.{Stands}
use Rattle.cm_lexer.proofs.Longest.{stands_all, fault_at}

fault_fits : (text : Text) (f : Found) (cause : Cause) (at : ℕ) → Stands text f → f.piece ≡ tree.Fault cause at → at ≤ length text
fault_fits text f cause at here is =
    let fault : IsPiece (tree.Fault cause at) (take f.len text) = subst (λ (p : tree.Piece). IsPiece p (take f.len text)) is here.is in
    omega (arith, fault_at fault, length-take f.len text)

pub gives_fits : (text : Text) (p : Piece) → 0 < length text → Gives p (scan text) → FitsIn p (length text)
gives_fits text (piece.Gap len) some is = let here = stands_all text some in let e : (scan text).len ≡ len = ap (λ (f : Found). f.len) is in (omega (arith, here.some, e), omega (arith, here.within, e))
gives_fits text (piece.Token kind len) some is = let here = stands_all text some in let e : (scan text).len ≡ len = ap (λ (f : Found). f.len) is in (omega (arith, here.some, e), omega (arith, here.within, e))
gives_fits text (piece.Fault cause at) some is = fault_fits text (scan text) cause at (stands_all text some) is
