-- What the first token of an atom, of a base type or of an operand leads to.
use Rattle.std.proofs.Common.{◌≡◌, ℕ, zero, suc, ◌+◌, ◌<◌, List, [], ◌∷◌, length, Option, Some, None, Ok, Err, refl, ap, sym, ◌∙◌, arith}
use Rattle.cm_base.specs.declared.place.Place.{Place}
use Rattle.cm_tree.specs.declared.token.Token.{Token}
use Rattle.cm_tree.specs.declared.token.TokenKind.{TokenKind}
use Rattle.cm_tree.specs.declared.token.TokenKind.TheVariants as k
use Rattle.cm_tree.specs.declared.sign.Sign.TheVariants as s
use Rattle.cm_tree.specs.declared.reserved.Reserved.TheVariants as w
use Rattle.cm_tree.specs.declared.operator.Unary.{Unary}
use Rattle.cm_tree.specs.declared.operator.Binary.{Binary}
use Rattle.cm_tree.specs.declared.expr.Expr.{Expr}
use Rattle.cm_tree.specs.declared.expr.Expr.TheVariants as e
use Rattle.cm_tree.specs.declared.expr.Base.{Base}
use Rattle.token_reader.specs.Parsers.{Parser, ◌>>◌, ◌<$>◌, pure, refuse, look, skip, first}
use Rattle.token_reader.proofs.Inverses.{skip_less}
use Rattle.token_reader.proofs.Locality.{shrinks}
use Rattle.cm_parse_expr.specs.Reading.{unary_of, operator, limit, base_by, base_at, base, construct, named, paren, atom_by, atom_at, atom, operand_by, operand_at, operand, type_one, arg_one, binary, expr, type_expr, arg}
use Rattle.cm_parse_expr.specs.Starts.{start_of, base_word_of, plain_base, counted_base, number_by, number_at, number}
use Rattle.cm_parse_expr.specs.declared.start.Start.{Start}
use Rattle.cm_parse_expr.specs.declared.start.Start.TheVariants as a
use Rattle.cm_parse_expr.specs.declared.start.BaseWord.{BaseWord}
use Rattle.cm_parse_expr.specs.declared.start.BaseWord.TheVariants as b
use Rattle.cm_parse_expr.proofs.Reach.{local_binary}

module _ (x : Parser Expr) (y : ℕ → Parser Expr) where
  -- ---- base types

  abbrev pub base_from : Place → Option BaseWord → Parser Base
  base_from p None = refuse
  base_from p (Some (b.Plain word)) = skip >> pure (plain_base p word)
  base_from p (Some (b.Counted word)) = skip >> counted_base p word <$> limit x y

  from_word : (p : Place) (kind : TokenKind) (ts : List Token) → base_by x y p kind ts ≡ base_from p (base_word_of kind) ts
  from_word p (k.Reserved w.Bool) ts = refl
  from_word p (k.Reserved w.Int) ts = refl
  from_word p (k.Reserved w.Int32) ts = refl
  from_word p (k.Reserved w.Int64) ts = refl
  from_word p (k.Reserved w.Wrap) ts = refl
  from_word p (k.Reserved w.Clamp) ts = refl
  from_word p _ ts = refl

  pub base_none : (ts : List Token) → first ts ≡ None → base x y ts ≡ Err ts
  unfolding base look
  base_none ts none = ap (λ (o : Option Token). base_at x y o ts) none

  pub base_starts : (ts : List Token) (t : Token) (word : Option BaseWord) → first ts ≡ Some t → base_word_of t.kind ≡ word → base x y ts ≡ base_from t.place word ts
  unfolding base look
  base_starts ts t word head is =
      ap (λ (o : Option Token). base_at x y o ts) head ∙ from_word t.place t.kind ts ∙ ap (λ (o : Option BaseWord). base_from t.place o ts) is

  module _ (room : ℕ) where
    -- ---- atoms

    abbrev pub atom_from : Place → Option Start → Parser Expr
    atom_from p None = refuse
    atom_from p (Some a.Number) = number
    atom_from p (Some (a.Truth v)) = skip >> pure (e.Truth p v)
    atom_from p (Some a.Base) = construct x y room
    atom_from p (Some a.Path) = named x y room
    atom_from p (Some a.Parenthesis) = skip >> paren x y p

    from_start : (p : Place) (kind : TokenKind) (ts : List Token) → number ts ≡ number_by p kind ts → atom_by x y room p kind ts ≡ atom_from p (start_of kind) ts
    from_start p (k.Number v wide) ts same = sym same
    from_start p (k.Reserved w.True) ts same = refl
    from_start p (k.Reserved w.False) ts same = refl
    from_start p (k.Reserved w.Bool) ts same = refl
    from_start p (k.Reserved w.Int) ts same = refl
    from_start p (k.Reserved w.Int32) ts same = refl
    from_start p (k.Reserved w.Int64) ts same = refl
    from_start p (k.Reserved w.Wrap) ts same = refl
    from_start p (k.Reserved w.Clamp) ts same = refl
    from_start p (k.Word text) ts same = refl
    from_start p (k.Sign s.LeftParenthesis) ts same = refl
    from_start p _ ts same = refl

    pub atom_none : (ts : List Token) → first ts ≡ None → atom x y room ts ≡ Err ts
    unfolding atom look
    atom_none ts none = ap (λ (o : Option Token). atom_at x y room o ts) none

    number_starts : (ts : List Token) (t : Token) → first ts ≡ Some t → number ts ≡ number_by t.place t.kind ts
    unfolding number look
    number_starts ts t head = ap (λ (o : Option Token). number_at o ts) head

    pub atom_starts : (ts : List Token) (t : Token) (start : Option Start) → first ts ≡ Some t → start_of t.kind ≡ start → atom x y room ts ≡ atom_from t.place start ts
    unfolding atom look
    atom_starts ts t start head is =
        ap (λ (o : Option Token). atom_at x y room o ts) head ∙ from_start t.place t.kind ts (number_starts ts t head) ∙ ap (λ (o : Option Start). atom_from t.place o ts) is

    -- ---- operands

    pub operand_none : (ts : List Token) → first ts ≡ None → operand x y room ts ≡ Err ts
    unfolding operand look
    operand_none ts none = ap (λ (o : Option Token). operand_at x y room o ts) none

    pub operand_starts : (ts : List Token) (t : Token) (o : Option Unary) → first ts ≡ Some t → unary_of t.kind ≡ o → operand x y room ts ≡ operand_by x y room t.place o ts
    unfolding operand look
    operand_starts ts t o head is = ap (λ (z : Option Token). operand_at x y room z ts) head ∙ ap (λ (z : Option Unary). operand_by x y room t.place z ts) is

-- ---- operators

-- an operator that is there is taken
operator_takes : (ts mid : List Token) (x : Binary) → operator ts ≡ Some x → skip ts ≡ Ok (tt, mid) → length mid < length ts
unfolding operator
operator_takes [] mid x some skipped = absurd cc
operator_takes (t ∷ ts) mid x some skipped = skip_less (t ∷ ts) t tt mid refl skipped

pub climb_less : (n least : ℕ) (ts mid r : List Token) (x : Binary) (right : Expr) → operator ts ≡ Some x → skip ts ≡ Ok (tt, mid) → binary n least mid ≡ Ok (right, r) → length r < length ts
climb_less n least ts mid r x right some skipped is =
    omega (arith, operator_takes ts mid x some skipped, shrinks (binary n least) (local_binary n least) mid right r is)

-- ---- nothing is no higher than 0

pub binary_none : (n least : ℕ) (ts : List Token) → n ≡ 0 → binary n least ts ≡ Err ts
unfolding binary
binary_none zero least ts is = refl
binary_none (suc n) least ts is = absurd (omega arith)

pub expr_none : (n : ℕ) (ts : List Token) → n ≡ 0 → expr n ts ≡ Err ts
unfolding expr
expr_none zero ts is = refl
expr_none (suc n) ts is = absurd (omega arith)

pub type_none : (n : ℕ) (ts : List Token) → n ≡ 0 → type_expr n ts ≡ Err ts
unfolding type_expr
type_none zero ts is = refl
type_none (suc n) ts is = absurd (omega arith)

pub arg_none : (n : ℕ) (ts : List Token) → n ≡ 0 → arg n ts ≡ Err ts
unfolding arg
arg_none zero ts is = refl
arg_none (suc n) ts is = absurd (omega arith)

-- ---- one level down

pub type_at : (n m : ℕ) (ts : List Token) → n ≡ m + 1 → type_expr n ts ≡ type_one (expr m) (binary m) ts
unfolding type_expr
type_at zero m ts is = absurd (omega arith)
type_at (suc n) m ts is = let same : n ≡ m = omega arith in rw same refl

pub arg_at : (n m : ℕ) (ts : List Token) → n ≡ m + 1 → arg n ts ≡ arg_one (expr m) (binary m) (m + 1) ts
unfolding arg
arg_at zero m ts is = absurd (omega arith)
arg_at (suc n) m ts is = let same : n ≡ m = omega arith in let more : m + 1 ≡ suc m = omega arith in rw (same, more) refl
