-- What the first token of a statement, or of the head of a `for`, leads to.
use Rattle.std.proofs.Common.{◌≡◌, ℕ, zero, suc, ◌+◌, List, Option, Some, None, Err, refl, ap, ◌∙◌, arith}
use Rattle.cm_base.specs.declared.place.Place.{Place}
use Rattle.cm_tree.specs.declared.token.Token.{Token}
use Rattle.cm_tree.specs.declared.token.TokenKind.{TokenKind}
use Rattle.cm_tree.specs.declared.token.TokenKind.TheVariants as k
use Rattle.cm_tree.specs.declared.sign.Sign.TheVariants as s
use Rattle.cm_tree.specs.declared.reserved.Reserved.TheVariants as w
use Rattle.cm_tree.specs.declared.stmt.Stmt.{Stmt}
use Rattle.token_reader.specs.Parsers.{Parser, look, first}
use Rattle.file_grammar.specs.Stmts as spec
use Rattle.cm_parser.specs.declared.starts.StmtStart.{StmtStart}
use Rattle.cm_parser.specs.StmtStarts.{stmt_start, stmt_from, for_head, head_from}

module _ (n : ℕ) (x : Parser Stmt) where
  stmt_by : (p : Place) (kind : TokenKind) (ts : List Token) → spec.stmt_by n x p kind ts ≡ stmt_from n x p (stmt_start kind) ts
  stmt_by p (k.Sign s.LeftBrace) ts = refl
  stmt_by p (k.Sign s.Semicolon) ts = refl
  stmt_by p (k.Sign s.PlusPlus) ts = refl
  stmt_by p (k.Sign s.MinusMinus) ts = refl
  stmt_by p (k.Reserved w.Bool) ts = refl
  stmt_by p (k.Reserved w.Int) ts = refl
  stmt_by p (k.Reserved w.Int32) ts = refl
  stmt_by p (k.Reserved w.Int64) ts = refl
  stmt_by p (k.Reserved w.Wrap) ts = refl
  stmt_by p (k.Reserved w.Clamp) ts = refl
  stmt_by p (k.Reserved w.Let) ts = refl
  stmt_by p (k.Reserved w.Var) ts = refl
  stmt_by p (k.Reserved w.StaticAssert) ts = refl
  stmt_by p (k.Reserved w.If) ts = refl
  stmt_by p (k.Reserved w.Loop) ts = refl
  stmt_by p (k.Reserved w.While) ts = refl
  stmt_by p (k.Reserved w.For) ts = refl
  stmt_by p (k.Reserved w.Break) ts = refl
  stmt_by p (k.Reserved w.Continue) ts = refl
  stmt_by p (k.Reserved w.Return) ts = refl
  stmt_by p (k.Reserved w.Advance) ts = refl
  stmt_by p (k.Reserved _) ts = refl
  stmt_by p (k.Word name) ts = refl
  stmt_by p _ ts = refl

  pub one_none : (ts : List Token) → first ts ≡ None → spec.one n x ts ≡ Err ts
  unfolding spec.one look
  one_none ts none = ap (λ (o : Option Token). spec.stmt_at n x o ts) none

  pub one_starts : (ts : List Token) (t : Token) (start : Option StmtStart) → first ts ≡ Some t → stmt_start t.kind ≡ start → spec.one n x ts ≡ stmt_from n x t.place start ts
  unfolding spec.one look
  one_starts ts t start head is =
      ap (λ (o : Option Token). spec.stmt_at n x o ts) head ∙ stmt_by t.place t.kind ts ∙ ap (λ (o : Option StmtStart). stmt_from n x t.place o ts) is

  for_by : (p q : Place) (kind : TokenKind) (ts : List Token) → spec.for_by n x p q kind ts ≡ head_from n x p q (stmt_start kind) ts
  for_by p q (k.Sign s.LeftBrace) ts = refl
  for_by p q (k.Sign s.Semicolon) ts = refl
  for_by p q (k.Sign s.PlusPlus) ts = refl
  for_by p q (k.Sign s.MinusMinus) ts = refl
  for_by p q (k.Reserved w.Bool) ts = refl
  for_by p q (k.Reserved w.Int) ts = refl
  for_by p q (k.Reserved w.Int32) ts = refl
  for_by p q (k.Reserved w.Int64) ts = refl
  for_by p q (k.Reserved w.Wrap) ts = refl
  for_by p q (k.Reserved w.Clamp) ts = refl
  for_by p q (k.Reserved w.Let) ts = refl
  for_by p q (k.Reserved w.Var) ts = refl
  for_by p q (k.Reserved w.StaticAssert) ts = refl
  for_by p q (k.Reserved w.If) ts = refl
  for_by p q (k.Reserved w.Loop) ts = refl
  for_by p q (k.Reserved w.While) ts = refl
  for_by p q (k.Reserved w.For) ts = refl
  for_by p q (k.Reserved w.Break) ts = refl
  for_by p q (k.Reserved w.Continue) ts = refl
  for_by p q (k.Reserved w.Return) ts = refl
  for_by p q (k.Reserved w.Advance) ts = refl
  for_by p q (k.Reserved _) ts = refl
  for_by p q (k.Word name) ts = refl
  for_by p q _ ts = refl

  pub head_none : (p : Place) (ts : List Token) → first ts ≡ None → for_head n x p ts ≡ Err ts
  unfolding for_head look
  head_none p ts none = ap (λ (o : Option Token). spec.for_at n x p o ts) none

  pub head_starts : (p : Place) (ts : List Token) (t : Token) (start : Option StmtStart) → first ts ≡ Some t → stmt_start t.kind ≡ start → for_head n x p ts ≡ head_from n x p t.place start ts
  unfolding for_head look
  head_starts p ts t start head is =
      ap (λ (o : Option Token). spec.for_at n x p o ts) head ∙ for_by p t.place t.kind ts ∙ ap (λ (o : Option StmtStart). head_from n x p t.place o ts) is

-- no statement is no higher than 0
pub stmt_none : (n : ℕ) (ts : List Token) → n ≡ 0 → spec.stmt n ts ≡ Err ts
unfolding spec.stmt
stmt_none zero ts is = refl
stmt_none (suc n) ts is = absurd (omega arith)

pub stmt_at : (n m : ℕ) (ts : List Token) → n ≡ m + 1 → spec.stmt n ts ≡ spec.one m (spec.stmt m) ts
unfolding spec.stmt
stmt_at zero m ts is = absurd (omega arith)
stmt_at (suc n) m ts is = let same : n ≡ m = omega arith in rw same refl
