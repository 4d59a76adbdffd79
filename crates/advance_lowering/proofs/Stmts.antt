-- Lists of statements from a place on.
use Rattle.std.proofs.Common.{◌≡◌, ℕ, suc, ◌+◌, ◌<◌, get_or, arith, List, length, drop, ap, ◌∙◌, sym}
use Rattle.std.proofs.Math.Seq.{drop-cons}
use Rattle.cm_core.specs.Code.{More, stmt_of}
use Rattle.cm_core.specs.Views.{stmts_of}
use Rattle.cm_core.specs.declared.stmt.CoreStmt.{CoreStmt}

pub stmts_dropped : (all : List CoreStmt) (i : ℕ) (x : CoreStmt) → i < length all → x ≡ get_or all i x → stmts_of (drop i all) ≡ More (stmt_of x) (stmts_of (drop (i + 1) all))
stmts_dropped all i x lt e =
    ap stmts_of (drop-cons all i x lt) ∙ ap (λ y. More (stmt_of y) (stmts_of (drop (suc i) all))) (sym e) ∙ (let two : suc i ≡ i + 1 = omega arith in ap (λ k. More (stmt_of x) (stmts_of (drop k all))) two)
