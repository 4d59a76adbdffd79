-- What is spelled is read.
use Rattle.std.proofs.Common.{◌≡◌, ℕ, zero, suc, ◌+◌, ◌-◌, ◌<◌, ◌≤◌, Bool, true, false, List, [], ◌∷◌, ◌++◌, Option, Some, None, Ok, Err, refl, ap, ◌∙◌, sym, append_assoc, lit≤, arith}
use Rattle.std.proofs.lemmas.Bool.{lt-leb}
use Rattle.cm_base.specs.declared.place.Place.{Place}
use Rattle.cm_tree.specs.declared.token.Token.{Token}
use Rattle.cm_tree.specs.declared.token.TokenKind.{TokenKind}
use Rattle.cm_tree.specs.declared.token.TokenKind.TheVariants as k
use Rattle.cm_tree.specs.declared.sign.Sign.{Sign}
use Rattle.cm_tree.specs.declared.sign.Sign.TheVariants as s
use Rattle.cm_tree.specs.declared.reserved.Reserved.TheVariants as w
use Rattle.cm_tree.specs.declared.operator.Unary.{Unary}
use Rattle.cm_tree.specs.declared.operator.Unary.TheVariants as u
use Rattle.cm_tree.specs.declared.operator.Binary.{Binary}
use Rattle.cm_tree.specs.declared.operator.Binary.TheVariants as bin
use Rattle.cm_tree.specs.declared.path.Path.{Path}
use Rattle.cm_tree.specs.declared.path.Word.{Word}
use Rattle.cm_tree.specs.declared.expr.Expr.{Expr, end_of-Expr, more_of-Expr}
use Rattle.cm_tree.specs.declared.expr.Base.{Base}
use Rattle.cm_tree.specs.declared.expr.Expr.TheVariants as e
use Rattle.cm_tree.specs.declared.expr.Base.TheVariants as b
use Rattle.cm_tree.specs.Lists.{highest-cons}
use Rattle.cm_tree.specs.Heights.{height, tallest, bracketed as with_brackets, sizes_height, sized, base_height, sized-is, height-Call, height-Construct, height-Paren, height-Field, height-Index, height-Unary, height-Binary, height-Choice, base_height-Wrap, base_height-Clamp}
use Rattle.cm_tree.specs.Levels.{unary_sign, binary_sign, binds, level, place, sum_level, unary_level, post_level}
use Rattle.cm_tree.specs.Spelling.{IsSign, IsReserved, IsWord, SpellsNames, SpellsPath, SpellsExpr, SpellsArgs, SpellsMore, SpellsSizes, SpellsBase}
use Rattle.cm_tree.specs.Spelling as g
use Rattle.token_reader.specs.Parsers.{Parser, ◌>>◌, look, see, sees, expect, is_sign, same_sign}
use Rattle.token_reader.specs.Lists.{separated}
use Rattle.token_reader.specs.Local.{Local, Takes}
use Rattle.token_reader.proofs.Inverses.{skipped, seen, sees_ok, sign_is, sign_same, expected, named as name_there}
use Rattle.token_reader.proofs.Locality.{local_bind, local_expect, takes_bind, takes_expect}
use Rattle.token_reader.proofs.Parts.{Read, while_reads}
use Rattle.cm_parse_expr.specs.Reading.{unary_of, colons, further_name, path, bracketed, sizes, args, limit, base_by, base, sized_base, construct_of, construct, named, paren, atom_by, atom, field, index, steps, post, operand_by, operand, climb, operation, choice, tail, binary, expr}
use Rattle.cm_parse_expr.proofs.Reach.{local_further_name, takes_further_name, local_bracketed, takes_bracketed, local_expr, local_binary}
use Rattle.cm_parse_expr.proofs.Turns.{steps_end, field_more, index_more, climb_stops, climb_looser, climb_more, binary_at, expr_at}
use Rattle.cm_parse_expr.proofs.Next.{unary_is, unary_sign_of, operator_there, binds_some, binds_few, binds_of, next_binds, next_few, PathEnds, Settled, Closed, settled_as, closed_as, ends_in_path-Name, ends_in_path-Unary, ends_in_path-Binary, ends_in_path-Choice, closes, operator_settles, question_settles, question_no_operator, dot_ends_path, bracket_ends_path, bracket_no_dot, sign_seen}
use Rattle.cm_parse_expr.specs.Reading.{operator}

-- ---- tokens

sign_passes : (x : Sign) (t : Token) → IsSign x t → is_sign x t.kind ≡ true
sign_passes x t at = ap (is_sign x) at.kind ∙ sign_same x

pub sign_expected : (x : Sign) (t : Token) (ts : List Token) → IsSign x t → expect (is_sign x) (t ∷ ts) ≡ Ok (tt, ts)
sign_expected x t ts at = expected (is_sign x) t ts (sign_passes x t at)

pub no_other : (x y : Sign) (t : Token) (ts : List Token) → IsSign y t → same_sign y x ≡ false → sees (is_sign x) (t ∷ ts) ≡ false
no_other x y t ts at other = seen (is_sign x) t ts (k.Sign y) at.kind false other

-- ---- paths

further_read : (c t : Token) (n : List ℕ) (ts : List Token) → IsSign s.DoubleColon c → t.kind ≡ k.Word n → further_name (c ∷ t ∷ ts) ≡ Ok (n, ts)
unfolding further_name
further_read c t n ts at is = rw (sign_expected s.DoubleColon c (t ∷ ts) at, name_there t ts n is) refl

names_read : {ns : List (List ℕ)} {v : List Token} → SpellsNames ns v → (r : List Token) → sees colons r ≡ false → Read colons further_name local_further_name takes_further_name ns (v ++ r) r
unfolding Read
names_read g.none r no_more = (no_more, refl)
names_read (g.more c t n ns others at is spelled) r no_more = (others ++ r, sign_seen s.DoubleColon c (t ∷ (others ++ r)) at, further_read c t n (others ++ r) at is, names_read spelled r no_more)

pub path_read : {q : Path} {v : List Token} → SpellsPath q v → (r : List Token) → sees colons r ≡ false → path (v ++ r) ≡ Ok (q, r)
unfolding path
path_read (g.path t n ns others is spelled) r no_more =
    rw (name_there t (others ++ r) n is, while_reads colons further_name local_further_name takes_further_name ns (others ++ r) r (names_read spelled r no_more) (n ∷ [])) refl

-- ---- the claims

abbrev pub Posts : Expr → List Token → Type 0
Posts a v = (m : ℕ) (r : List Token) → post_level ≤ level a → height a ≤ m + 1 → PathEnds a r
    → post (expr m) (binary m) (m + 1) (v ++ r) ≡ steps (expr m) (binary m) (m + 1) a r

abbrev pub Reaches : Expr → List Token → Type 0
Reaches a v = (m least : ℕ) (r : List Token) → 1 ≤ level a → 1 ≤ least → least ≤ level a → height a ≤ m + 1 → next_binds r ≤ level a → Settled a r
    → operation (expr m) (binary m) (m + 1) least (v ++ r) ≡ climb (expr m) (binary m) (m + 1) least a r

abbrev pub Whole : Expr → List Token → Type 0
Whole a v = (n : ℕ) (r : List Token) → height a ≤ n → Closed a r → expr n (v ++ r) ≡ Ok (a, r)

pub record IsRead (a : Expr) (v : List Token) : Type 0 where
  pub posts : Posts a v
  pub reaches : Reaches a v
  pub whole : Whole a v

pub record AreRead (xs : List Expr) (v : List Token) : Type 0 where
  pub read : (m : ℕ) (o c : Token) (r : List Token) → tallest xs ≤ m → IsSign s.LeftParenthesis o → IsSign s.RightParenthesis c
      → args (expr m) (binary m) (o ∷ (v ++ c ∷ r)) ≡ Ok (xs, r)

pub record SizesRead (xs : List Expr) (v : List Token) : Type 0 where
  pub read : (m : ℕ) (r : List Token) → sizes_height xs ≤ m + 1 → sees (is_sign s.LeftBracket) r ≡ false → sizes (expr m) (binary m) (v ++ r) ≡ Ok (xs, r)

pub record BaseRead (x : Base) (v : List Token) : Type 0 where
  pub read : (m : ℕ) (r : List Token) → base_height x ≤ m + 1 → base (expr m) (binary m) (v ++ r) ≡ Ok (x, r)

-- ---- from the steps of an operand to the whole

pub height_some : (a : Expr) → 1 ≤ height a
unfolding height
height_some (e.Number p v x) = lit≤ tt
height_some (e.Truth p x) = lit≤ tt
height_some (e.Name q) = lit≤ tt
height_some (e.Call' q h xs) = omega arith
height_some (e.Construct' x h xs i ys) = omega arith
height_some (e.Paren' p h (more_of-Expr a end_of-Expr)) = omega arith
height_some (e.Field' p h (more_of-Expr a end_of-Expr) x) = omega arith
height_some (e.Index' p h (more_of-Expr a end_of-Expr) i (more_of-Expr x end_of-Expr)) = omega arith
height_some (e.Unary' p x h (more_of-Expr a end_of-Expr)) = omega arith
height_some (e.Binary' p x h (more_of-Expr a end_of-Expr) i (more_of-Expr y end_of-Expr)) = omega arith
height_some (e.Choice' p h (more_of-Expr c end_of-Expr) i (more_of-Expr a end_of-Expr) j (more_of-Expr y end_of-Expr)) = omega arith

module _ (m room : ℕ) where
  pub atom_is : (t : Token) (ts : List Token) (kind : TokenKind) → t.kind ≡ kind → atom (expr m) (binary m) room (t ∷ ts) ≡ atom_by (expr m) (binary m) room t.place kind (t ∷ ts)
  unfolding atom look
  atom_is t ts kind is = ap (λ (x : TokenKind). atom_by (expr m) (binary m) room t.place x (t ∷ ts)) is

  pub post_is : (ts : List Token) (a : Expr) (r : List Token) → atom (expr m) (binary m) room ts ≡ Ok (a, r) → post (expr m) (binary m) room ts ≡ steps (expr m) (binary m) room a r
  unfolding post
  post_is ts a r is = rw is refl

  unary_refused : (x : Unary) (p : Place) (ts : List Token) → atom_by (expr m) (binary m) room p (k.Sign (unary_sign x)) ts ≡ Err ts
  unary_refused u.Minus p ts = refl
  unary_refused u.Not p ts = refl
  unary_refused u.Complement p ts = refl

  post_refused : (x : Unary) (t : Token) (ts : List Token) → t.kind ≡ k.Sign (unary_sign x) → post (expr m) (binary m) room (t ∷ ts) ≡ Err (t ∷ ts)
  unfolding post
  post_refused x t ts is = rw (atom_is t ts (k.Sign (unary_sign x)) is, unary_refused x t.place (t ∷ ts)) refl

  pub operand_is : (t : Token) (ts : List Token) (x : Option Unary) → unary_of t.kind ≡ x → operand (expr m) (binary m) room (t ∷ ts) ≡ operand_by (expr m) (binary m) room t.place x (t ∷ ts)
  unfolding operand look
  operand_is t ts x is = ap (λ (y : Option Unary). operand_by (expr m) (binary m) room t.place y (t ∷ ts)) is

  operand_by_post : (t : Token) (ts : List Token) (a : Expr) (r : List Token) (x : Option Unary) → unary_of t.kind ≡ x → post (expr m) (binary m) room (t ∷ ts) ≡ Ok (a, r)
      → operand (expr m) (binary m) room (t ∷ ts) ≡ Ok (a, r)
  operand_by_post t ts a r None is reads = operand_is t ts None is ∙ reads
  operand_by_post t ts a r (Some x) is reads = absurd (let refused = post_refused x t ts (unary_sign_of t.kind x is) in cc)

  operand_post : (ts : List Token) (a : Expr) (r : List Token) → post (expr m) (binary m) room ts ≡ Ok (a, r) → operand (expr m) (binary m) room ts ≡ Ok (a, r)
  unfolding post atom look
  operand_post [] a r reads = absurd cc
  operand_post (t ∷ ts) a r reads = operand_by_post t ts a r (unary_of t.kind) refl reads

  operation_is : (least : ℕ) (ts : List Token) (a : Expr) (r : List Token) → operand (expr m) (binary m) room ts ≡ Ok (a, r) → operation (expr m) (binary m) room least ts ≡ climb (expr m) (binary m) room least a r
  unfolding operation
  operation_is least ts a r is = rw is refl

climb_rests : (m room least : ℕ) (a : Expr) (r : List Token) (x : Option Binary) → operator r ≡ x → binds_of x < least → climb (expr m) (binary m) room least a r ≡ Ok (a, r)
climb_rests m room least a r None is lt = climb_stops m room least a r is
climb_rests m room least a r (Some x) is lt = climb_looser m room least a r x is lt

-- an operand alone
pub alone : (a : Expr) (v : List Token) → Reaches a v → (n least : ℕ) (r : List Token) → 1 ≤ least → least ≤ level a → height a ≤ n → next_binds r < least → Settled a r
    → binary n least (v ++ r) ≡ Ok (a, r)
alone a v read n least r some le low lt settled =
    let h = height_some a in
    let is : n ≡ (n - 1) + 1 = omega arith in
    binary_at n (n - 1) least (v ++ r) is ∙ read (n - 1) least r (omega arith) some le (omega arith) (omega arith) settled ∙ climb_rests (n - 1) (n - 1 + 1) least a r (operator r) refl lt

tail_ends : (m room : ℕ) (a : Expr) (r : List Token) → sees (is_sign s.Question) r ≡ false → tail (expr m) (binary m) room a r ≡ Ok (a, r)
unfolding tail see
tail_ends m room a r none = rw none refl

tail_goes : (m room : ℕ) (a : Expr) (t : Token) (r : List Token) → IsSign s.Question t → height a < room → tail (expr m) (binary m) room a (t ∷ r) ≡ choice (expr m) (binary m) a (t ∷ r)
unfolding tail see
tail_goes m room a t r at low = rw (sign_seen s.Question t r at, lt-leb room (height a) low) refl

-- an expression that isn't a choice
tight : (a : Expr) (v : List Token) → Reaches a v → 1 ≤ level a → Whole a v
tight a v read some n r low ends =
    let h = height_some a in
    let is : n ≡ (n - 1) + 1 = omega arith in
    let few : binds_of (operator r) ≤ 0 = rw ends.no_operator (lit≤ tt) in
    let one = read (n - 1) 1 r some (lit≤ tt) some (omega arith) (omega arith) ends.settled ∙ climb_stops (n - 1) (n - 1 + 1) 1 a r ends.no_operator in
    expr_at n (n - 1) (v ++ r) is ∙ rw one (tail_ends (n - 1) (n - 1 + 1) a r ends.no_choice)

-- an operand with its sign before it, or an atom with its steps
from_operand : (a : Expr) (v : List Token) → 1 ≤ level a → Posts a v → ((m : ℕ) (r : List Token) → height a ≤ m + 1 → Settled a r → operand (expr m) (binary m) (m + 1) (v ++ r) ≡ Ok (a, r)) → IsRead a v
from_operand a v some posts reads =
    let goes : Reaches a v = λ m least r one one_least le low next settled. operation_is m (m + 1) least (v ++ r) a r (reads m r low settled) in
    record { posts = posts; reaches = goes; whole = tight a v goes some }

from_posts : (a : Expr) (v : List Token) → level a ≡ post_level → Posts a v → IsRead a v
from_posts a v is posts = from_operand a v (omega arith) posts (λ m r low settled.
    operand_post m (m + 1) (v ++ r) a r (posts m r (omega arith) low settled.path_ends ∙ steps_end m (m + 1) a r settled.no_dot settled.no_bracket))

from_atom : (a : Expr) (v : List Token) → level a ≡ post_level → ((m : ℕ) (r : List Token) → height a ≤ m + 1 → PathEnds a r → atom (expr m) (binary m) (m + 1) (v ++ r) ≡ Ok (a, r)) → IsRead a v
from_atom a v is reads = from_posts a v is (λ m r high low ends. post_is m (m + 1) (v ++ r) a r (reads m r low ends))

-- ---- atoms

read_number : (t : Token) (v : _) (x : Bool) → t.kind ≡ k.Number v x → IsRead (e.Number t.place v x) (t ∷ [])
read_number t v x is = from_atom _ _ refl (λ m r low ends. atom_is m (m + 1) t r (k.Number v x) is ∙ rw (skipped t r) refl)

read_true : (t : Token) → IsReserved w.True t → IsRead (e.Truth t.place true) (t ∷ [])
read_true t at = from_atom _ _ refl (λ m r low ends. atom_is m (m + 1) t r (k.Reserved w.True) at.kind ∙ rw (skipped t r) refl)

read_false : (t : Token) → IsReserved w.False t → IsRead (e.Truth t.place false) (t ∷ [])
read_false t at = from_atom _ _ refl (λ m r low ends. atom_is m (m + 1) t r (k.Reserved w.False) at.kind ∙ rw (skipped t r) refl)

-- a path is read where a name stands
atom_named : {q : Path} {v : List Token} → SpellsPath q v → (m room : ℕ) (r : List Token) → atom (expr m) (binary m) room (v ++ r) ≡ named (expr m) (binary m) room (v ++ r)
atom_named (g.path t n ns others is spelled) m room r = atom_is m room t (others ++ r) (k.Word n) is

read_name : (q : Path) (v : List Token) → SpellsPath q v → IsRead (e.Name q) v
unfolding named see
read_name q v spelled = from_atom (e.Name q) v refl (λ m r low ends.
    let no_call = ends.no_call (ends_in_path-Name q) in
    let no_name = ends.no_name (ends_in_path-Name q) in
    atom_named spelled m (m + 1) r ∙ rw (path_read spelled r no_name, no_call) refl)

read_call : (q : Path) (xs : List Expr) (o c : Token) (front inner : List Token) → SpellsPath q front → IsSign s.LeftParenthesis o → AreRead xs inner → IsSign s.RightParenthesis c
    → IsRead (e.Call q xs) (front ++ o ∷ (inner ++ c ∷ []))
unfolding named see same_sign
read_call q xs o c front inner spelled ato reads atc = from_atom (e.Call q xs) _ refl (λ m r low ends.
    let regroup : (front ++ o ∷ (inner ++ c ∷ [])) ++ r ≡ front ++ (o ∷ (inner ++ c ∷ r)) =
    append_assoc front (o ∷ (inner ++ c ∷ [])) r ∙ ap (λ (l : List Token). front ++ o ∷ l) (append_assoc inner (c ∷ []) r) in
    let h = height-Call q xs in
    let room : 1 < m + 1 = omega arith in
    let within : tallest xs ≤ m = omega arith in
    let after = path_read spelled (o ∷ (inner ++ c ∷ r)) (no_other s.DoubleColon s.LeftParenthesis o (inner ++ c ∷ r) ato refl) in
    rw regroup (atom_named spelled m (m + 1) (o ∷ (inner ++ c ∷ r)) ∙ rw (after, sign_seen s.LeftParenthesis o (inner ++ c ∷ r) ato, lt-leb (m + 1) 1 room, reads.read m o c r within ato atc) refl))

read_paren : (a : Expr) (o c : Token) (inner : List Token) → IsSign s.LeftParenthesis o → IsRead a inner → IsSign s.RightParenthesis c → IsRead (e.Paren o.place a) (o ∷ (inner ++ c ∷ []))
unfolding paren
read_paren a o c inner ato read atc = from_atom (e.Paren o.place a) _ refl (λ m r low ends.
    let regroup : (o ∷ (inner ++ c ∷ [])) ++ r ≡ o ∷ (inner ++ c ∷ r) = ap (λ (l : List Token). o ∷ l) (append_assoc inner (c ∷ []) r) in
    let within : height a ≤ m = omega (arith, height-Paren o.place a) in
    let one = read.whole m (c ∷ r) within (closes s.RightParenthesis refl c r a atc) in
    rw regroup (atom_is m (m + 1) o (inner ++ c ∷ r) (k.Sign s.LeftParenthesis) ato.kind ∙ rw (skipped o (inner ++ c ∷ r), one, sign_expected s.RightParenthesis c r atc) refl))

-- ---- lists of expressions

module _ (m : ℕ) (a : Expr) (o c : Token) (inner r : List Token) (ato : IsSign s.LeftBracket o) (atc : IsSign s.RightBracket c) where
  pub bracketed_read : height a ≤ m → Whole a inner → bracketed (expr m) (binary m) (o ∷ (inner ++ c ∷ r)) ≡ Ok (a, r)
  unfolding bracketed
  bracketed_read low whole =
      rw (sign_expected s.LeftBracket o (inner ++ c ∷ r) ato, whole m (c ∷ r) low (closes s.RightBracket refl c r a atc), sign_expected s.RightBracket c r atc) refl

abbrev SizesReadFrom : ℕ → List Expr → List Token → List Token → Type 0
SizesReadFrom m xs v r = Read (is_sign s.LeftBracket) (bracketed (expr m) (binary m)) (local_bracketed (expr m) (binary m) (local_expr m) (local_binary m))
    (takes_bracketed (expr m) (binary m) (local_expr m) (local_binary m)) xs (v ++ r) r

record SizesPart (xs : List Expr) (v : List Token) : Type 0 where
  from : (m : ℕ) (r : List Token) → sizes_height xs ≤ m + 1 → sees (is_sign s.LeftBracket) r ≡ false → SizesReadFrom m xs v r

no_sizes_part : SizesPart [] []
unfolding Read
no_sizes_part = record { from = λ m r low none. (none, refl) }

more_sizes_part : (a : Expr) (xs : List Expr) (o c : Token) (inner others : List Token) → IsSign s.LeftBracket o → IsRead a inner → IsSign s.RightBracket c → SizesPart xs others
    → SizesPart (a ∷ xs) (o ∷ (inner ++ c ∷ others))
unfolding Read
more_sizes_part a xs o c inner others ato read atc more = record {
  from = λ m r low none.
      let h = highest-cons with_brackets a xs in
      let regroup : (o ∷ (inner ++ c ∷ others)) ++ r ≡ o ∷ (inner ++ c ∷ (others ++ r)) = ap (λ (l : List Token). o ∷ l) (append_assoc inner (c ∷ others) r) in
      let within : height a ≤ m = omega arith in
      let rest : sizes_height xs ≤ m + 1 = omega arith in
      (others ++ r, sign_seen s.LeftBracket o _ ato, ap (bracketed (expr m) (binary m)) regroup ∙ bracketed_read m a o c inner (others ++ r) ato atc within read.whole, more.from m r rest none);
}

sizes_of : (xs : List Expr) (v : List Token) → SizesPart xs v → SizesRead xs v
unfolding sizes
sizes_of xs v part = record {
  read = λ m r low none.
      while_reads (is_sign s.LeftBracket) (bracketed (expr m) (binary m)) (local_bracketed (expr m) (binary m) (local_expr m) (local_binary m))
      (takes_bracketed (expr m) (binary m) (local_expr m) (local_binary m)) xs (v ++ r) r (part.from m r low none) [];
}

-- an expression of the list, after its comma
abbrev pub next_part : ℕ → Parser Expr
next_part m = expect (is_sign s.Comma) >> expr m

pub local_next : (m : ℕ) → Local (next_part m)
local_next m = local_bind (local_expect (is_sign s.Comma)) (λ _. local_expr m)

pub takes_next : (m : ℕ) → Takes (next_part m)
takes_next m = takes_bind (takes_expect (is_sign s.Comma)) (λ _. local_expr m)

record MorePart (xs : List Expr) (v : List Token) : Type 0 where
  from : (m : ℕ) (c : Token) (r : List Token) → tallest xs ≤ m → IsSign s.RightParenthesis c → Read (is_sign s.Comma) (next_part m) (local_next m) (takes_next m) xs (v ++ c ∷ r) (c ∷ r)
  closed : (c : Token) (r : List Token) (a : Expr) → IsSign s.RightParenthesis c → Closed a (v ++ c ∷ r)

no_more_part : MorePart [] []
unfolding Read same_sign
no_more_part = record { from = λ m c r low atc. (no_other s.Comma s.RightParenthesis c r atc refl, refl); closed = λ c r a atc. closes s.RightParenthesis refl c r a atc }

more_part : (a : Expr) (xs : List Expr) (comma : Token) (first others : List Token) → IsSign s.Comma comma → IsRead a first → MorePart xs others → MorePart (a ∷ xs) (comma ∷ (first ++ others))
unfolding Read
more_part a xs comma first others at read more = record {
  from = λ m c r low atc.
      let h = highest-cons height a xs in
      let regroup : (comma ∷ (first ++ others)) ++ c ∷ r ≡ comma ∷ (first ++ (others ++ c ∷ r)) = ap (λ (l : List Token). comma ∷ l) (append_assoc first others (c ∷ r)) in
      let within : height a ≤ m = omega arith in
      let rest : tallest xs ≤ m = omega arith in
      let reads : next_part m (comma ∷ (first ++ (others ++ c ∷ r))) ≡ Ok (a, others ++ c ∷ r) =
      rw (sign_expected s.Comma comma (first ++ (others ++ c ∷ r)) at) (read.whole m (others ++ c ∷ r) within (more.closed c r a atc)) in
      (others ++ c ∷ r, sign_seen s.Comma comma _ at, ap (next_part m) regroup ∙ reads, more.from m c r rest atc);
  closed = λ c r x atc. closes s.Comma refl comma _ x at;
}

-- an expression doesn't begin with the parenthesis that closes
close_at : (n : ℕ) (t : Token) (ts : List Token) → t.kind ≡ k.Sign s.RightParenthesis → expr n (t ∷ ts) ≡ Err (t ∷ ts)
unfolding expr operation post
close_at zero t ts is = refl
close_at (suc n) t ts is = rw (operand_is n (suc n) t ts None (ap unary_of is), atom_is n (suc n) t ts (k.Sign s.RightParenthesis) is) refl

expr_begins : (n : ℕ) (ts : List Token) (a : Expr) (r : List Token) (x : Bool) → sees (is_sign s.RightParenthesis) ts ≡ x → expr n ts ≡ Ok (a, r) → x ≡ false
expr_begins n ts a r false is reads = refl
expr_begins n ts a r true is reads =
    let t = sees_ok (is_sign s.RightParenthesis) ts is in
    let refused = close_at n t.0 t.1 (sign_is s.RightParenthesis t.0.kind t.3) in
    let reads_it : expr n (t.0 ∷ t.1) ≡ Ok (a, r) = ap (expr n) (sym t.2) ∙ reads in
    absurd cc

no_args_read : AreRead [] []
unfolding args see
no_args_read = record { read = λ m o c r low ato atc. rw (sign_expected s.LeftParenthesis o (c ∷ r) ato, sign_seen s.RightParenthesis c r atc, sign_expected s.RightParenthesis c r atc) refl }

args_read : (a : Expr) (xs : List Expr) (first others : List Token) → IsRead a first → MorePart xs others → AreRead (a ∷ xs) (first ++ others)
unfolding args separated see
args_read a xs first others read more = record {
  read = λ m o c r low ato atc.
      let h = highest-cons height a xs in
      let regroup : (first ++ others) ++ c ∷ r ≡ first ++ (others ++ c ∷ r) = append_assoc first others (c ∷ r) in
      let within : height a ≤ m = omega arith in
      let rest : tallest xs ≤ m = omega arith in
      let one = read.whole m (others ++ c ∷ r) within (more.closed c r a atc) in
      let begins = expr_begins m (first ++ (others ++ c ∷ r)) a (others ++ c ∷ r) _ refl one in
      let two = while_reads (is_sign s.Comma) (next_part m) (local_next m) (takes_next m) xs (others ++ c ∷ r) (c ∷ r) (more.from m c r rest atc) (a ∷ []) in
      rw (regroup, sign_expected s.LeftParenthesis o (first ++ (others ++ c ∷ r)) ato, begins, one, two, sign_expected s.RightParenthesis c r atc) refl;
}

-- ---- base types

base_is : (m : ℕ) (t : Token) (ts : List Token) (kind : TokenKind) → t.kind ≡ kind → base (expr m) (binary m) (t ∷ ts) ≡ base_by (expr m) (binary m) t.place kind (t ∷ ts)
unfolding base look
base_is m t ts kind is = ap (λ (x : TokenKind). base_by (expr m) (binary m) t.place x (t ∷ ts)) is

read_bool : (t : Token) → IsReserved w.Bool t → BaseRead (b.Bool t.place) (t ∷ [])
read_bool t at = record { read = λ m r low. base_is m t r (k.Reserved w.Bool) at.kind ∙ rw (skipped t r) refl }

read_int : (t : Token) → IsReserved w.Int t → BaseRead (b.Int t.place) (t ∷ [])
read_int t at = record { read = λ m r low. base_is m t r (k.Reserved w.Int) at.kind ∙ rw (skipped t r) refl }

read_int32 : (t : Token) → IsReserved w.Int32 t → BaseRead (b.Int32 t.place) (t ∷ [])
read_int32 t at = record { read = λ m r low. base_is m t r (k.Reserved w.Int32) at.kind ∙ rw (skipped t r) refl }

read_int64 : (t : Token) → IsReserved w.Int64 t → BaseRead (b.Int64 t.place) (t ∷ [])
read_int64 t at = record { read = λ m r low. base_is m t r (k.Reserved w.Int64) at.kind ∙ rw (skipped t r) refl }

module _ (m : ℕ) (a : Expr) (o c : Token) (inner r : List Token) (ato : IsSign s.Less o) (le : sum_level ≤ level a) (read : IsRead a inner) (atc : IsSign s.Greater c) where
  greater_binds : next_binds (c ∷ r) ≡ 7
  greater_binds = ap binds_of (operator_there bin.Greater c r atc.kind)

  limit_read : height a ≤ m → limit (expr m) (binary m) (o ∷ (inner ++ c ∷ r)) ≡ Ok (a, r)
  unfolding limit
  limit_read low =
      let one = alone a inner read.reaches m sum_level (c ∷ r) (lit≤ tt) le low (omega (arith, greater_binds)) (operator_settles bin.Greater c r a atc) in
      rw (sign_expected s.Less o (inner ++ c ∷ r) ato, one, sign_expected s.Greater c r atc) refl

read_wrap : (a : Expr) (t o c : Token) (inner : List Token) → IsReserved w.Wrap t → IsSign s.Less o → sum_level ≤ level a → IsRead a inner → IsSign s.Greater c
    → BaseRead (b.Wrap t.place a) (t ∷ o ∷ (inner ++ c ∷ []))
read_wrap a t o c inner at ato le read atc = record {
  read = λ m r low.
      let regroup : (t ∷ o ∷ (inner ++ c ∷ [])) ++ r ≡ t ∷ o ∷ (inner ++ c ∷ r) = ap (λ (l : List Token). t ∷ o ∷ l) (append_assoc inner (c ∷ []) r) in
      let within : height a ≤ m = omega (arith, base_height-Wrap t.place a) in
      rw regroup (base_is m t (o ∷ (inner ++ c ∷ r)) (k.Reserved w.Wrap) at.kind ∙ rw (skipped t (o ∷ (inner ++ c ∷ r)), limit_read m a o c inner r ato le read atc within) refl);
}

read_clamp : (a : Expr) (t o c : Token) (inner : List Token) → IsReserved w.Clamp t → IsSign s.Less o → sum_level ≤ level a → IsRead a inner → IsSign s.Greater c
    → BaseRead (b.Clamp t.place a) (t ∷ o ∷ (inner ++ c ∷ []))
read_clamp a t o c inner at ato le read atc = record {
  read = λ m r low.
      let regroup : (t ∷ o ∷ (inner ++ c ∷ [])) ++ r ≡ t ∷ o ∷ (inner ++ c ∷ r) = ap (λ (l : List Token). t ∷ o ∷ l) (append_assoc inner (c ∷ []) r) in
      let within : height a ≤ m = omega (arith, base_height-Clamp t.place a) in
      rw regroup (base_is m t (o ∷ (inner ++ c ∷ r)) (k.Reserved w.Clamp) at.kind ∙ rw (skipped t (o ∷ (inner ++ c ∷ r)), limit_read m a o c inner r ato le read atc within) refl);
}

-- a base type is read where a reserved word for one stands
atom_based : {x : Base} {v : List Token} → SpellsBase x v → (m room : ℕ) (r : List Token) → atom (expr m) (binary m) room (v ++ r) ≡ construct (expr m) (binary m) room (v ++ r)
atom_based (g.bool t at) m room r = atom_is m room t r (k.Reserved w.Bool) at.kind
atom_based (g.int t at) m room r = atom_is m room t r (k.Reserved w.Int) at.kind
atom_based (g.int32 t at) m room r = atom_is m room t r (k.Reserved w.Int32) at.kind
atom_based (g.int64 t at) m room r = atom_is m room t r (k.Reserved w.Int64) at.kind
atom_based (g.wrap a t o c inner at ato le sp atc) m room r = atom_is m room t ((o ∷ (inner ++ c ∷ [])) ++ r) (k.Reserved w.Wrap) at.kind
atom_based (g.clamp a t o c inner at ato le sp atc) m room r = atom_is m room t ((o ∷ (inner ++ c ∷ [])) ++ r) (k.Reserved w.Clamp) at.kind

pub sized_base_read : (x : Base) (xs : List Expr) (front middle r : List Token) → BaseRead x front → SizesRead xs middle → (m : ℕ) → sized x xs ≤ m + 1 → sees (is_sign s.LeftBracket) r ≡ false
    → sized_base (expr m) (binary m) (front ++ (middle ++ r)) ≡ Ok ((x, xs), r)
unfolding sized_base
sized_base_read x xs front middle r base_reads sizes_read m low none =
    let h = sized-is x xs in
    let first : base_height x ≤ m + 1 = omega arith in
    let second : sizes_height xs ≤ m + 1 = omega arith in
    rw (base_reads.read m (middle ++ r) first, sizes_read.read m r second none) refl

pub construct_of_read : (x : Base) (xs ys : List Expr) (o c : Token) (inner r : List Token) → IsSign s.LeftParenthesis o → AreRead ys inner → IsSign s.RightParenthesis c
    → (m : ℕ) → height (e.Construct x xs ys) ≤ m + 1 → construct_of (expr m) (binary m) (m + 1) (x, xs) (o ∷ (inner ++ c ∷ r)) ≡ Ok (e.Construct x xs ys, r)
construct_of_read x xs ys o c inner r ato reads atc m low =
    let h = height-Construct x xs ys in
    let room : sized x xs < m + 1 = omega arith in
    let within : tallest ys ≤ m = omega arith in
    rw (lt-leb (m + 1) (sized x xs) room, reads.read m o c r within ato atc) refl

read_construct : (x : Base) (xs ys : List Expr) (o c : Token) (front middle inner : List Token) → SpellsBase x front → BaseRead x front → SizesRead xs middle
    → IsSign s.LeftParenthesis o → AreRead ys inner → IsSign s.RightParenthesis c → IsRead (e.Construct x xs ys) (front ++ (middle ++ o ∷ (inner ++ c ∷ [])))
unfolding construct same_sign
read_construct x xs ys o c front middle inner spelled base_reads sizes_read ato reads atc = from_atom (e.Construct x xs ys) _ refl (λ m r low ends.
    let h = height-Construct x xs ys in
    let within : sized x xs ≤ m + 1 = omega arith in
    let regroup : (front ++ (middle ++ o ∷ (inner ++ c ∷ []))) ++ r ≡ front ++ (middle ++ (o ∷ (inner ++ c ∷ r))) =
    append_assoc front (middle ++ o ∷ (inner ++ c ∷ [])) r ∙ ap (λ (l : List Token). front ++ l) (append_assoc middle (o ∷ (inner ++ c ∷ [])) r
    ∙ ap (λ (l : List Token). middle ++ o ∷ l) (append_assoc inner (c ∷ []) r)) in
    let first = sized_base_read x xs front middle (o ∷ (inner ++ c ∷ r)) base_reads sizes_read m within (no_other s.LeftBracket s.LeftParenthesis o (inner ++ c ∷ r) ato refl) in
    rw regroup (atom_based spelled m (m + 1) (middle ++ (o ∷ (inner ++ c ∷ r))) ∙ rw first (construct_of_read x xs ys o c inner r ato reads atc m low)))

-- ---- steps

read_field : (a : Expr) (x : Word) (d t : Token) (left : List Token) → post_level ≤ level a → IsRead a left → IsSign s.Dot d → IsWord x t → IsRead (e.Field (place a) a x) (left ++ d ∷ t ∷ [])
unfolding field
read_field a x d t left le read atd att = from_posts (e.Field (place a) a x) _ refl (λ m r high low ends.
    let regroup : (left ++ d ∷ t ∷ []) ++ r ≡ left ++ (d ∷ t ∷ r) = append_assoc left (d ∷ t ∷ []) r in
    let h = height-Field (place a) a x in
    let within : height a < m + 1 = omega arith in
    let first = read.posts m (d ∷ t ∷ r) le (omega arith) (dot_ends_path d (t ∷ r) a atd) in
    let same : record { place = t.place; text = x.text } ≡ x = ap (λ (p : Place). record x { place = p }) (sym att.place) in
    let second : field (expr m) (binary m) a (d ∷ t ∷ r) ≡ Ok (e.Field (place a) a x, r) =
    rw (sign_expected s.Dot d (t ∷ r) atd, name_there t r x.text att.kind) (ap (λ (y : Word). Ok (e.Field (place a) a y, r)) same) in
    rw regroup (first ∙ field_more m (m + 1) a (d ∷ t ∷ r) (sign_seen s.Dot d (t ∷ r) atd) within (e.Field (place a) a x) r second))

read_index : (a i : Expr) (o c : Token) (left inner : List Token) → post_level ≤ level a → IsRead a left → IsSign s.LeftBracket o → IsRead i inner → IsSign s.RightBracket c
    → IsRead (e.Index (place a) a i) (left ++ o ∷ (inner ++ c ∷ []))
unfolding index
read_index a i o c left inner le read ato readi atc = from_posts (e.Index (place a) a i) _ refl (λ m r high low ends.
    let regroup : (left ++ o ∷ (inner ++ c ∷ [])) ++ r ≡ left ++ (o ∷ (inner ++ c ∷ r)) = append_assoc left (o ∷ (inner ++ c ∷ [])) r ∙ ap (λ (l : List Token). left ++ o ∷ l) (append_assoc inner (c ∷ []) r) in
    let h = height-Index (place a) a i in
    let within : height a < m + 1 = omega arith in
    let first = read.posts m (o ∷ (inner ++ c ∷ r)) le (omega arith) (bracket_ends_path o (inner ++ c ∷ r) a ato) in
    let second : index (expr m) (binary m) a (o ∷ (inner ++ c ∷ r)) ≡ Ok (e.Index (place a) a i, r) = rw (bracketed_read m i o c inner r ato atc (omega arith) readi.whole) refl in
    rw regroup (first ∙ index_more m (m + 1) a (o ∷ (inner ++ c ∷ r)) (bracket_no_dot o (inner ++ c ∷ r) ato) (sign_seen s.LeftBracket o (inner ++ c ∷ r) ato) within (e.Index (place a) a i) r second))

-- ---- operators

few_binds : (x : Binary) → binds x < post_level
few_binds x = omega (arith, binds_few x)

few_unary : unary_level < post_level
few_unary = lit≤ tt

read_unary : (x : Unary) (a : Expr) (t : Token) (inner : List Token) → IsSign (unary_sign x) t → unary_level ≤ level a → IsRead a inner → IsRead (e.Unary t.place x a) (t ∷ inner)
read_unary x a t inner at le read = from_operand (e.Unary t.place x a) (t ∷ inner) (lit≤ tt) (λ m r high low ends. absurd (omega (arith, few_unary))) (λ m r low settled.
    let within : height a ≤ m = omega (arith, height-Unary t.place x a) in
    let after = settled_as (e.Unary t.place x a) a r (λ is. ends_in_path-Unary t.place x a ∙ is) settled in
    let one = alone a inner read.reaches m unary_level r (lit≤ tt) le within (omega (arith, next_few (operator r))) after in
    operand_is m (m + 1) t (inner ++ r) (Some x) (ap unary_of at.kind ∙ unary_is x) ∙ rw (skipped t (inner ++ r), one) refl)

read_binary : (x : Binary) (a c : Expr) (t : Token) (left right : List Token) → binds x ≤ level a → IsRead a left → IsSign (binary_sign x) t → binds x < level c → IsRead c right
    → IsRead (e.Binary (place a) x a c) (left ++ t ∷ right)
read_binary x a c t left right lea reada at lec readc =
    let goes : Reaches (e.Binary (place a) x a c) (left ++ t ∷ right) = λ m least r one some le low next settled.
    let regroup : (left ++ t ∷ right) ++ r ≡ left ++ (t ∷ (right ++ r)) = append_assoc left (t ∷ right) r in
    let h = height-Binary (place a) x a c in
    let within : least ≤ binds x = le in
    let after : next_binds r ≤ binds x = next in
    let is = operator_there x t (right ++ r) at.kind in
    let next_is : next_binds (t ∷ (right ++ r)) ≤ level a = rw is lea in
    let at_right = settled_as (e.Binary (place a) x a c) c r (λ p. ends_in_path-Binary (place a) x a c ∙ p) settled in
    let first = reada.reaches m least (t ∷ (right ++ r)) (omega (arith, binds_some x)) some (omega arith) (omega arith) next_is (operator_settles x t (right ++ r) a at) in
    let second = alone c right readc.reaches m (binds x + 1) r (omega arith) (omega arith) (omega arith) (omega arith) at_right in
    let third = climb_more m (m + 1) least a (t ∷ (right ++ r)) x is within (omega arith) (right ++ r) (skipped t (right ++ r)) c r second in
    rw regroup (first ∙ third) in
    record { posts = λ m r high low ends. absurd (omega (arith, few_binds x)); reaches = goes; whole = tight (e.Binary (place a) x a c) _ goes (binds_some x) }

read_choice : (q a c : Expr) (t v : Token) (test left right : List Token) → 1 ≤ level q → IsRead q test → IsSign s.Question t → IsRead a left → IsSign s.Colon v → IsRead c right
    → IsRead (e.Choice (place q) q a c) (test ++ t ∷ (left ++ v ∷ right))
unfolding choice
read_choice q a c t v test left right le readq att reada atv readc = record {
  posts = λ m r high low ends. absurd (omega arith);
  reaches = λ m least r one some le low next settled. absurd (omega arith);
  whole = λ n r low ends.
      let regroup : (test ++ t ∷ (left ++ v ∷ right)) ++ r ≡ test ++ (t ∷ (left ++ (v ∷ (right ++ r)))) =
      append_assoc test (t ∷ (left ++ v ∷ right)) r ∙ ap (λ (l : List Token). test ++ t ∷ l) (append_assoc left (v ∷ right) r) in
      let h = height-Choice (place q) q a c in
      let is : n ≡ (n - 1) + 1 = omega arith in
      let none = question_no_operator t (left ++ (v ∷ (right ++ r))) att in
      let next_is : next_binds (t ∷ (left ++ (v ∷ (right ++ r)))) ≤ level q = rw none (omega arith) in
      let at_right = closed_as (e.Choice (place q) q a c) c r (λ p. ends_in_path-Choice (place q) q a c ∙ p) ends in
      let one = readq.reaches (n - 1) 1 (t ∷ (left ++ (v ∷ (right ++ r)))) le (lit≤ tt) le (omega arith) next_is (question_settles t (left ++ (v ∷ (right ++ r))) q att)
      ∙ climb_stops (n - 1) (n - 1 + 1) 1 q (t ∷ (left ++ (v ∷ (right ++ r)))) none in
      let two = reada.whole (n - 1) (v ∷ (right ++ r)) (omega arith) (closes s.Colon refl v (right ++ r) a atv) in
      let three = readc.whole (n - 1) r (omega arith) at_right in
      let chosen : choice (expr (n - 1)) (binary (n - 1)) q (t ∷ (left ++ (v ∷ (right ++ r)))) ≡ Ok (e.Choice (place q) q a c, r) =
      rw (sign_expected s.Question t (left ++ (v ∷ (right ++ r))) att, two, sign_expected s.Colon v (right ++ r) atv, three) refl in
      rw regroup (expr_at n (n - 1) (test ++ (t ∷ (left ++ (v ∷ (right ++ r))))) is ∙ rw one (tail_goes (n - 1) (n - 1 + 1) q t (left ++ (v ∷ (right ++ r))) att (omega arith) ∙ chosen));
}

-- ---- all of them

mutual
  pub read : {a : Expr} {v : List Token} → SpellsExpr a v → IsRead a v
  read (g.number t v x is) = read_number t v x is
  read (g.yes t at) = read_true t at
  read (g.no t at) = read_false t at
  read (g.name q v spelled) = read_name q v spelled
  read (g.call q xs o c front inner spelled ato sa atc) = read_call q xs o c front inner spelled ato (read_args sa) atc
  read (g.construct x xs ys o c front middle inner sb ss ato sa atc) = read_construct x xs ys o c front middle inner sb (read_base sb) (sizes_of xs middle (parts_sizes ss)) ato (read_args sa) atc
  read (g.paren a o c inner ato sa atc) = read_paren a o c inner ato (read sa) atc
  read (g.field a x d t left le sa atd att) = read_field a x d t left le (read sa) atd att
  read (g.index a i o c left inner le sa ato si atc) = read_index a i o c left inner le (read sa) ato (read si) atc
  read (g.unary x a t inner at le sa) = read_unary x a t inner at le (read sa)
  read (g.binary x a c t left right lea sa at lec sc) = read_binary x a c t left right lea (read sa) at lec (read sc)
  read (g.choice q a c t v test left right le sq att sa atv sc) = read_choice q a c t v test left right le (read sq) att (read sa) atv (read sc)

  pub read_args : {xs : List Expr} {v : List Token} → SpellsArgs xs v → AreRead xs v
  read_args g.no_args = no_args_read
  read_args (g.args a xs first others sa sm) = args_read a xs first others (read sa) (parts_more sm)

  parts_more : {xs : List Expr} {v : List Token} → SpellsMore xs v → MorePart xs v
  parts_more g.no_more = no_more_part
  parts_more (g.more a xs comma first others at sa sm) = more_part a xs comma first others at (read sa) (parts_more sm)

  parts_sizes : {xs : List Expr} {v : List Token} → SpellsSizes xs v → SizesPart xs v
  parts_sizes g.no_sizes = no_sizes_part
  parts_sizes (g.size a xs o c inner others ato sa atc ss) = more_sizes_part a xs o c inner others ato (read sa) atc (parts_sizes ss)

  pub read_base : {x : Base} {v : List Token} → SpellsBase x v → BaseRead x v
  read_base (g.bool t at) = read_bool t at
  read_base (g.int t at) = read_int t at
  read_base (g.int32 t at) = read_int32 t at
  read_base (g.int64 t at) = read_int64 t at
  read_base (g.wrap a t o c inner at ato le sa atc) = read_wrap a t o c inner at ato le (read sa) atc
  read_base (g.clamp a t o c inner at ato le sa atc) = read_clamp a t o c inner at ato le (read sa) atc

pub read_sizes : {xs : List Expr} {v : List Token} → SpellsSizes xs v → SizesRead xs v
read_sizes {xs} {v} ss = sizes_of xs v (parts_sizes ss)
