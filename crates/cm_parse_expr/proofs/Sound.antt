-- What is read is spelled.
use Rattle.std.proofs.Common.{◌≡◌, ℕ, zero, suc, ◌+◌, ◌<◌, ◌≤◌, Bool, true, false, List, [], ◌∷◌, ◌++◌, length, Option, Some, None, Ok, refl, ap, subst, ◌∙◌, sym, inl, inr, append_assoc, lit≤, arith}
use Rattle.std.specs.Prelude.{nat_lt, nat_le}
use Rattle.std.proofs.lemmas.Bool.{ltb-true, ltb-false, leb-false}
use Rattle.cm_base.specs.declared.place.Place.{Place}
use Rattle.cm_tree.specs.declared.token.Token.{Token}
use Rattle.cm_tree.specs.declared.token.TokenKind.{TokenKind}
use Rattle.cm_tree.specs.declared.token.TokenKind.TheVariants as k
use Rattle.cm_tree.specs.declared.sign.Sign.{Sign}
use Rattle.cm_tree.specs.declared.sign.Sign.TheVariants as s
use Rattle.cm_tree.specs.declared.reserved.Reserved.TheVariants as w
use Rattle.cm_tree.specs.declared.operator.Unary.{Unary}
use Rattle.cm_tree.specs.declared.operator.Binary.{Binary}
use Rattle.cm_tree.specs.declared.path.Path.{Path}
use Rattle.cm_tree.specs.declared.path.Word.{Word}
use Rattle.cm_tree.specs.declared.expr.Expr.{Expr}
use Rattle.cm_tree.specs.declared.expr.Base.{Base}
use Rattle.cm_tree.specs.declared.expr.Expr.TheVariants as e
use Rattle.cm_tree.specs.declared.expr.Base.TheVariants as b
use Rattle.cm_tree.specs.Lists.{highest-nil, highest-cons}
use Rattle.cm_tree.specs.Heights.{height, tallest, bracketed as with_brackets, sizes_height, sized, base_height, sized-is, height-Number, height-Truth, height-Name, height-Call, height-Construct, height-Paren, height-Field, height-Index, height-Unary, height-Binary, height-Choice, base_height-Bool, base_height-Int, base_height-Int32, base_height-Int64, base_height-Wrap, base_height-Clamp}
use Rattle.cm_tree.specs.Levels.{binary_sign, binds, level, place, sum_level, unary_level, post_level, ends_in_path}
use Rattle.cm_tree.specs.Spelling.{IsSign, IsReserved, IsWord, SpellsNames, SpellsPath, SpellsExpr, SpellsArgs, SpellsMore, SpellsSizes, SpellsBase}
use Rattle.cm_tree.specs.Spelling as g
use Rattle.token_reader.specs.Parsers.{Parser, ◌>>=◌, ◌>>◌, ◌<$>◌, pure, look, skip, see, sees, expect, is_sign, Turn, more, done, goes}
use Rattle.token_reader.specs.Lists.{name, while_sees, separated}
use Rattle.token_reader.specs.Local.{Takes}
use Rattle.token_reader.proofs.Loops.{repeat-turn}
use Rattle.token_reader.proofs.Inverses.{answer, bind_ok, if_ok, ok_rest, given, sign_is, expect_ok, IsName, name_ok}
use Rattle.token_reader.proofs.Locality.{shrinks}
use Rattle.token_reader.proofs.Parts.{Read, WhileOk, while_ok}
use Rattle.cm_parse_expr.specs.Reading.{unary_of, operator, see_operator, colons, further_name, path, again, bracketed, sizes, args_unless, args, limit, base_by, base, sized_base, construct_of, construct, call_if, named, paren, atom_by, atom, field, index, index_if, field_if, step, steps, post, operand_by, operand, turn_by, turn, climb, operation, choice, tail, binary, expr}
use Rattle.cm_parse_expr.proofs.Reach.{local_further_name, takes_further_name, local_bracketed, takes_bracketed, local_expr, local_binary, takes_field, takes_index, moves_step, moves_turn}
use Rattle.cm_parse_expr.proofs.Complete.{next_part, local_next, takes_next}
use Rattle.cm_parse_expr.proofs.Next.{unary_sign_of, operator_sign_of, binds_few, binds_of, next_binds, next_few, none_by, PathEnds, Settled, Closed, settled_as, closed_as, ends_in_path-Unary, ends_in_path-Binary, ends_in_path-Choice, no_path}

-- ---- tokens

pub record SignFirst (x : Sign) (ts r : List Token) : Type 0 where
  pub token : Token
  pub parts : ts ≡ token ∷ r
  pub sign : IsSign x token

pub sign_ok : (x : Sign) (ts : List Token) (y : Unit {0}) (r : List Token) → expect (is_sign x) ts ≡ answer y r → SignFirst x ts r
sign_ok x ts y r h = let t = expect_ok (is_sign x) ts y r h in record { token = t.0; parts = t.1; sign = record { kind = sign_is x t.0.kind t.2 } }

pub cons_same : (t : Token) (a c : List Token) → a ≡ c → t ∷ a ≡ t ∷ c
cons_same t a c is = ap (λ (l : List Token). t ∷ l) is

pub after_same : (front a c : List Token) → a ≡ c → front ++ a ≡ front ++ c
after_same front a c is = ap (λ (l : List Token). front ++ l) is

pub operator_ok : (x : Binary) (ts : List Token) (y : Unit {0}) (r : List Token) → operator ts ≡ Some x → skip ts ≡ answer y r → SignFirst (binary_sign x) ts r
unfolding operator skip
operator_ok x [] y r is h = absurd cc
operator_ok x (t ∷ ts) y r is h = record { token = t; parts = cons_same t _ _ (ok_rest tt y ts r h); sign = record { kind = operator_sign_of t.kind x is } }

-- ---- paths

record FurtherGiven (n : List ℕ) (ts r : List Token) : Type 0 where
  colon : Token
  token : Token
  parts : ts ≡ colon ∷ token ∷ r
  sign : IsSign s.DoubleColon colon
  kind : token.kind ≡ k.Word n

further_sound : (ts : List Token) (n : List ℕ) (r : List Token) → further_name ts ≡ answer n r → FurtherGiven n ts r
unfolding further_name
further_sound ts n r h =
    let x = bind_ok (expect colons ts) (λ _. name >>= λ found. pure found.1) n r h in
    let y = bind_ok (name x.1) (λ found. pure found.1) n r x.3 in
    let c = sign_ok s.DoubleColon ts x.0 x.1 x.2 in
    let t = name_ok x.1 y.0 y.1 y.2 in
    given (λ z l. FurtherGiven z ts l) y.0.1 n y.1 r y.3
    (record { colon = c.token; token = t.token; parts = c.parts ∙ cons_same c.token _ _ t.parts; sign = c.sign; kind = t.kind })

record NamesGiven (ns : List (List ℕ)) (ts r : List Token) : Type 0 where
  used : List Token
  parts : ts ≡ used ++ r
  spelled : SpellsNames ns used
  ended : sees colons r ≡ false

names_sound : (ns : List (List ℕ)) (ts r : List Token) → Read colons further_name local_further_name takes_further_name ns ts r → NamesGiven ns ts r
unfolding Read
names_sound [] ts r h = record { used = []; parts = h.1; spelled = g.none; ended = rw (← h.1) h.0 }
names_sound (n ∷ ns) ts r h =
    let one = further_sound ts n h.0 h.2 in
    let others = names_sound ns h.0 r h.3 in
    record {
      used = one.colon ∷ one.token ∷ others.used;
      parts = one.parts ∙ cons_same one.colon _ _ (cons_same one.token _ _ others.parts);
      spelled = g.more one.colon one.token n ns others.used one.sign one.kind others.spelled;
      ended = others.ended;
    }

pub record PathGiven (q : Path) (ts r : List Token) : Type 0 where
  pub used : List Token
  pub parts : ts ≡ used ++ r
  pub spelled : SpellsPath q used
  pub ended : sees colons r ≡ false

path_by : (p : Place × List ℕ) (names : List (List ℕ)) (ts mid r : List Token) → IsName ts p mid → WhileOk colons further_name local_further_name takes_further_name mid (p.1 ∷ []) names r
    → PathGiven (record { place = p.0; names = names }) ts r
path_by p names ts mid r t all =
    let others = names_sound all.items mid r all.read in
    let spelled : SpellsPath (record { place = t.token.place; names = p.1 ∷ all.items }) (t.token ∷ others.used) = g.path t.token p.1 all.items others.used t.kind others.spelled in
    record {
      used = t.token ∷ others.used;
      parts = t.parts ∙ cons_same t.token _ _ others.parts;
      spelled = subst (λ (q : Path). SpellsPath q (t.token ∷ others.used))
          (ap (λ (z : Place). record { place = z; names = p.1 ∷ all.items }) t.place ∙ ap (λ (ns : List (List ℕ)). record { place = p.0; names = ns }) (sym all.whole)) spelled;
      ended = others.ended;
    }

pub path_sound : (ts : List Token) (q : Path) (r : List Token) → path ts ≡ answer q r → PathGiven q ts r
unfolding path
path_sound ts q r h =
    let x = bind_ok (name ts) (λ found. while_sees colons further_name (found.1 ∷ []) >>= λ names. pure (record { place = found.0; names = names })) q r h in
    let y = bind_ok (while_sees colons further_name (x.0.1 ∷ []) x.1) (λ names. pure (record { place = x.0.0; names = names })) q r x.3 in
    let t = name_ok ts x.0 x.1 x.2 in
    let all = while_ok colons further_name local_further_name takes_further_name x.1 (x.0.1 ∷ []) y.0 y.1 y.2 in
    given (λ z l. PathGiven z ts l) (record { place = x.0.0; names = y.0 }) q y.1 r y.3 (path_by x.0 y.0 ts x.1 y.1 t all)

-- ---- what was read

-- an expression was read from the front
pub record Gives (least room : ℕ) (ts : List Token) (a : Expr) (r : List Token) : Type 0 where
  pub used : List Token
  pub parts : ts ≡ used ++ r
  pub spelled : SpellsExpr a used
  pub tight : least ≤ level a
  pub low : height a ≤ room

abbrev pub IsSound : Parser Expr → (List Token → Expr → List Token → Type 0) → Type 0
IsSound p P = (ts : List Token) (a : Expr) (r : List Token) → p ts ≡ Ok (a, r) → P ts a r

-- as an atom
pub record Atom (room : ℕ) (ts : List Token) (a : Expr) (r : List Token) : Type 0 where
  pub gives : Gives post_level room ts a r
  pub path_ends : PathEnds a r

-- with its steps, or with a sign before it
pub record Part (least room : ℕ) (ts : List Token) (a : Expr) (r : List Token) : Type 0 where
  pub gives : Gives least room ts a r
  pub settled : Settled a r

-- with all operators that bind so tightly
pub record Operand (room least : ℕ) (ts : List Token) (a : Expr) (r : List Token) : Type 0 where
  pub gives : Gives least room ts a r
  pub after : next_binds r < least
  pub settled : Settled a r

-- as a whole
pub record Sentence (room : ℕ) (ts : List Token) (a : Expr) (r : List Token) : Type 0 where
  pub gives : Gives 0 room ts a r
  pub closed : Closed a r

pub record BracketedGiven (room : ℕ) (ts : List Token) (a : Expr) (r : List Token) : Type 0 where
  pub opening : Token
  pub closing : Token
  pub inner : List Token
  pub parts : ts ≡ opening ∷ (inner ++ closing ∷ r)
  pub opens : IsSign s.LeftBracket opening
  pub closes : IsSign s.RightBracket closing
  pub spelled : SpellsExpr a inner
  pub low : height a ≤ room

pub record ArgsGiven (room : ℕ) (ts : List Token) (xs : List Expr) (r : List Token) : Type 0 where
  pub opening : Token
  pub closing : Token
  pub inner : List Token
  pub parts : ts ≡ opening ∷ (inner ++ closing ∷ r)
  pub opens : IsSign s.LeftParenthesis opening
  pub closes : IsSign s.RightParenthesis closing
  pub spelled : SpellsArgs xs inner
  pub low : tallest xs ≤ room

record ListGiven (room : ℕ) (ts : List Token) (xs : List Expr) (r : List Token) : Type 0 where
  used : List Token
  parts : ts ≡ used ++ r
  spelled : SpellsArgs xs used
  low : tallest xs ≤ room

record MoreGiven (room : ℕ) (ts : List Token) (xs : List Expr) (r : List Token) : Type 0 where
  used : List Token
  parts : ts ≡ used ++ r
  spelled : SpellsMore xs used
  low : tallest xs ≤ room

pub record SizesGiven (room : ℕ) (ts : List Token) (xs : List Expr) (r : List Token) : Type 0 where
  pub used : List Token
  pub parts : ts ≡ used ++ r
  pub spelled : SpellsSizes xs used
  pub low : sizes_height xs ≤ room
  pub ended : sees (is_sign s.LeftBracket) r ≡ false

record LimitGiven (room : ℕ) (ts : List Token) (a : Expr) (r : List Token) : Type 0 where
  opening : Token
  closing : Token
  inner : List Token
  parts : ts ≡ opening ∷ (inner ++ closing ∷ r)
  opens : IsSign s.Less opening
  closes : IsSign s.Greater closing
  tight : sum_level ≤ level a
  spelled : SpellsExpr a inner
  low : height a ≤ room

pub record BaseGiven (room : ℕ) (ts : List Token) (x : Base) (r : List Token) : Type 0 where
  pub used : List Token
  pub parts : ts ≡ used ++ r
  pub spelled : SpellsBase x used
  pub low : base_height x ≤ room

pub record SizedGiven (room : ℕ) (ts : List Token) (ty : Base × List Expr) (r : List Token) : Type 0 where
  pub front : List Token
  pub middle : List Token
  pub parts : ts ≡ front ++ (middle ++ r)
  pub spelled : SpellsBase ty.0 front
  pub sizes : SpellsSizes ty.1 middle
  pub low : sized ty.0 ty.1 ≤ room
  pub ended : sees (is_sign s.LeftBracket) r ≡ false

module _ (n : ℕ) (he : IsSound (expr n) (Sentence n)) (hb : (least : ℕ) → 1 ≤ least → least ≤ unary_level → IsSound (binary n least) (Operand n least)) where
  -- ---- lists of expressions

  pub bracketed_sound : (ts : List Token) (a : Expr) (r : List Token) → bracketed (expr n) (binary n) ts ≡ answer a r → BracketedGiven n ts a r
  unfolding bracketed
  bracketed_sound ts a r h =
      let x = bind_ok (expect (is_sign s.LeftBracket) ts) (λ _. expr n >>= λ found. expect (is_sign s.RightBracket) >>= λ _. pure found) a r h in
      let y = bind_ok (expr n x.1) (λ found. expect (is_sign s.RightBracket) >>= λ _. pure found) a r x.3 in
      let z = bind_ok (expect (is_sign s.RightBracket) y.1) (λ _. pure y.0) a r y.3 in
      let t = sign_ok s.LeftBracket ts x.0 x.1 x.2 in
      let inner = he x.1 y.0 y.1 y.2 in
      let c = sign_ok s.RightBracket y.1 z.0 z.1 z.2 in
      given (λ v l. BracketedGiven n ts v l) y.0 a z.1 r z.3 (record {
        opening = t.token;
        closing = c.token;
        inner = inner.gives.used;
        parts = t.parts ∙ cons_same t.token _ _ (inner.gives.parts ∙ after_same inner.gives.used _ _ c.parts);
        opens = t.sign;
        closes = c.sign;
        spelled = inner.gives.spelled;
        low = inner.gives.low;
      })

  sizes_by : (xs : List Expr) (ts r : List Token)
      → Read (is_sign s.LeftBracket) (bracketed (expr n) (binary n)) (local_bracketed (expr n) (binary n) (local_expr n) (local_binary n)) (takes_bracketed (expr n) (binary n) (local_expr n) (local_binary n)) xs ts r
      → SizesGiven (suc n) ts xs r
  unfolding Read
  sizes_by [] ts r h = record { used = []; parts = h.1; spelled = g.no_sizes; low = omega (arith, highest-nil with_brackets); ended = rw (← h.1) h.0 }
  sizes_by (x ∷ xs) ts r h =
      let one = bracketed_sound ts x h.0 h.2 in
      let others = sizes_by xs h.0 r h.3 in
      let after : one.inner ++ one.closing ∷ h.0 ≡ (one.inner ++ one.closing ∷ others.used) ++ r =
      after_same one.inner _ _ (cons_same one.closing _ _ others.parts) ∙ sym (append_assoc one.inner (one.closing ∷ others.used) r) in
      record {
        used = one.opening ∷ (one.inner ++ one.closing ∷ others.used);
        parts = one.parts ∙ cons_same one.opening _ _ after;
        spelled = g.size x xs one.opening one.closing one.inner others.used one.opens one.spelled one.closes others.spelled;
        low = omega (arith, highest-cons with_brackets x xs, one.low, others.low);
        ended = others.ended;
      }

  pub sizes_sound : (ts : List Token) (xs : List Expr) (r : List Token) → sizes (expr n) (binary n) ts ≡ answer xs r → SizesGiven (suc n) ts xs r
  unfolding sizes
  sizes_sound ts xs r h =
      let all = while_ok (is_sign s.LeftBracket) (bracketed (expr n) (binary n)) (local_bracketed (expr n) (binary n) (local_expr n) (local_binary n))
      (takes_bracketed (expr n) (binary n) (local_expr n) (local_binary n)) ts [] xs r h in
      subst (λ (l : List Expr). SizesGiven (suc n) ts l r) (sym all.whole) (sizes_by all.items ts r all.read)

  more_by : (xs : List Expr) (ts r : List Token) → Read (is_sign s.Comma) (next_part n) (local_next n) (takes_next n) xs ts r → MoreGiven n ts xs r
  unfolding Read
  more_by [] ts r h = record { used = []; parts = h.1; spelled = g.no_more; low = omega (arith, highest-nil height) }
  more_by (x ∷ xs) ts r h =
      let y = bind_ok (expect (is_sign s.Comma) ts) (λ _. expr n) x h.0 h.2 in
      let comma = sign_ok s.Comma ts y.0 y.1 y.2 in
      let one = he y.1 x h.0 y.3 in
      let others = more_by xs h.0 r h.3 in
      record {
        used = comma.token ∷ (one.gives.used ++ others.used);
        parts = comma.parts ∙ cons_same comma.token _ _ (one.gives.parts ∙ after_same one.gives.used _ _ others.parts ∙ sym (append_assoc one.gives.used others.used r));
        spelled = g.more x xs comma.token one.gives.used others.used comma.sign one.gives.spelled others.spelled;
        low = omega (arith, highest-cons height x xs, one.gives.low, others.low);
      }

  listed_by : (a : Expr) (all : List Expr) (ts mid r : List Token) → Sentence n ts a mid → WhileOk (is_sign s.Comma) (next_part n) (local_next n) (takes_next n) mid (a ∷ []) all r → ListGiven n ts all r
  listed_by a all ts mid r one w =
      let others = more_by w.items mid r w.read in
      subst (λ (l : List Expr). ListGiven n ts l r) (sym w.whole) (record {
        used = one.gives.used ++ others.used;
        parts = one.gives.parts ∙ after_same one.gives.used _ _ others.parts ∙ sym (append_assoc one.gives.used others.used r);
        spelled = g.args a w.items one.gives.used others.used one.gives.spelled others.spelled;
        low = omega (arith, highest-cons height a w.items, one.gives.low, others.low);
      })

  list_sound : (x : Bool) (ts : List Token) (xs : List Expr) (r : List Token) → args_unless (expr n) (binary n) x ts ≡ answer xs r → ListGiven n ts xs r
  unfolding separated
  list_sound x ts xs r h =
      elim (if_ok x _ _ ts _ h) [
        | inl y ↦ given (λ z l. ListGiven n ts z l) [] xs ts r y.1 (record { used = []; parts = refl; spelled = g.no_args; low = omega (arith, highest-nil height) })
        | inr y ↦
            let z = bind_ok (expr n ts) (λ v. while_sees (is_sign s.Comma) (expect (is_sign s.Comma) >> expr n) (v ∷ [])) xs r y.1 in
            listed_by z.0 xs ts z.1 r (he ts z.0 z.1 z.2) (while_ok (is_sign s.Comma) (next_part n) (local_next n) (takes_next n) z.1 (z.0 ∷ []) xs r z.3)
      ]

  pub args_sound : (ts : List Token) (xs : List Expr) (r : List Token) → args (expr n) (binary n) ts ≡ answer xs r → ArgsGiven n ts xs r
  unfolding args see
  args_sound ts xs r h =
      let x = bind_ok (expect (is_sign s.LeftParenthesis) ts) (λ _. see (is_sign s.RightParenthesis) >>= λ v. args_unless (expr n) (binary n) v >>= λ found. expect (is_sign s.RightParenthesis) >>= λ _. pure found) xs r h in
      let y = bind_ok (args_unless (expr n) (binary n) (sees (is_sign s.RightParenthesis) x.1) x.1) (λ found. expect (is_sign s.RightParenthesis) >>= λ _. pure found) xs r x.3 in
      let z = bind_ok (expect (is_sign s.RightParenthesis) y.1) (λ _. pure y.0) xs r y.3 in
      let t = sign_ok s.LeftParenthesis ts x.0 x.1 x.2 in
      let inner = list_sound (sees (is_sign s.RightParenthesis) x.1) x.1 y.0 y.1 y.2 in
      let c = sign_ok s.RightParenthesis y.1 z.0 z.1 z.2 in
      given (λ v l. ArgsGiven n ts v l) y.0 xs z.1 r z.3 (record {
        opening = t.token;
        closing = c.token;
        inner = inner.used;
        parts = t.parts ∙ cons_same t.token _ _ (inner.parts ∙ after_same inner.used _ _ c.parts);
        opens = t.sign;
        closes = c.sign;
        spelled = inner.spelled;
        low = inner.low;
      })

  -- ---- base types

  limit_sound : (ts : List Token) (a : Expr) (r : List Token) → limit (expr n) (binary n) ts ≡ answer a r → LimitGiven n ts a r
  unfolding limit
  limit_sound ts a r h =
      let x = bind_ok (expect (is_sign s.Less) ts) (λ _. binary n sum_level >>= λ found. expect (is_sign s.Greater) >>= λ _. pure found) a r h in
      let y = bind_ok (binary n sum_level x.1) (λ found. expect (is_sign s.Greater) >>= λ _. pure found) a r x.3 in
      let z = bind_ok (expect (is_sign s.Greater) y.1) (λ _. pure y.0) a r y.3 in
      let t = sign_ok s.Less ts x.0 x.1 x.2 in
      let inner = hb sum_level (lit≤ tt) (lit≤ tt) x.1 y.0 y.1 y.2 in
      let c = sign_ok s.Greater y.1 z.0 z.1 z.2 in
      given (λ v l. LimitGiven n ts v l) y.0 a z.1 r z.3 (record {
        opening = t.token;
        closing = c.token;
        inner = inner.gives.used;
        parts = t.parts ∙ cons_same t.token _ _ (inner.gives.parts ∙ after_same inner.gives.used _ _ c.parts);
        opens = t.sign;
        closes = c.sign;
        tight = inner.gives.tight;
        spelled = inner.gives.spelled;
        low = inner.gives.low;
      })

  -- a word that is a type by itself
  plain : (x : Base) (t : Token) (ts : List Token) (y : Base) (r : List Token) → SpellsBase x (t ∷ []) → base_height x ≡ 1 → answer x ts ≡ answer y r → BaseGiven (suc n) (t ∷ ts) y r
  plain x t ts y r spelled low h = given (λ v l. BaseGiven (suc n) (t ∷ ts) v l) x y ts r h (record { used = t ∷ []; parts = refl; spelled = spelled; low = omega arith })

  base_by_sound : (t : Token) (ts : List Token) (x : Base) (r : List Token) (kind : TokenKind) → t.kind ≡ kind → base_by (expr n) (binary n) t.place kind (t ∷ ts) ≡ answer x r → BaseGiven (suc n) (t ∷ ts) x r
  unfolding skip
  base_by_sound t ts x r (k.Reserved w.Bool) is h = plain (b.Bool t.place) t ts x r (g.bool t (record { kind = is })) (base_height-Bool t.place) h
  base_by_sound t ts x r (k.Reserved w.Int) is h = plain (b.Int t.place) t ts x r (g.int t (record { kind = is })) (base_height-Int t.place) h
  base_by_sound t ts x r (k.Reserved w.Int32) is h = plain (b.Int32 t.place) t ts x r (g.int32 t (record { kind = is })) (base_height-Int32 t.place) h
  base_by_sound t ts x r (k.Reserved w.Int64) is h = plain (b.Int64 t.place) t ts x r (g.int64 t (record { kind = is })) (base_height-Int64 t.place) h
  base_by_sound t ts x r (k.Reserved w.Wrap) is h =
      let y = bind_ok (limit (expr n) (binary n) ts) (λ a. pure (b.Wrap t.place a)) x r h in
      let l = limit_sound ts y.0 y.1 y.2 in
      given (λ v m. BaseGiven (suc n) (t ∷ ts) v m) (b.Wrap t.place y.0) x y.1 r y.3 (record {
        used = t ∷ l.opening ∷ (l.inner ++ l.closing ∷ []);
        parts = cons_same t _ _ (l.parts ∙ cons_same l.opening _ _ (sym (append_assoc l.inner (l.closing ∷ []) y.1)));
        spelled = g.wrap y.0 t l.opening l.closing l.inner (record { kind = is }) l.opens l.tight l.spelled l.closes;
        low = omega (arith, base_height-Wrap t.place y.0, l.low);
      })
  base_by_sound t ts x r (k.Reserved w.Clamp) is h =
      let y = bind_ok (limit (expr n) (binary n) ts) (λ a. pure (b.Clamp t.place a)) x r h in
      let l = limit_sound ts y.0 y.1 y.2 in
      given (λ v m. BaseGiven (suc n) (t ∷ ts) v m) (b.Clamp t.place y.0) x y.1 r y.3 (record {
        used = t ∷ l.opening ∷ (l.inner ++ l.closing ∷ []);
        parts = cons_same t _ _ (l.parts ∙ cons_same l.opening _ _ (sym (append_assoc l.inner (l.closing ∷ []) y.1)));
        spelled = g.clamp y.0 t l.opening l.closing l.inner (record { kind = is }) l.opens l.tight l.spelled l.closes;
        low = omega (arith, base_height-Clamp t.place y.0, l.low);
      })
  base_by_sound t ts x r _ is h = absurd cc

  pub base_sound : (ts : List Token) (x : Base) (r : List Token) → base (expr n) (binary n) ts ≡ answer x r → BaseGiven (suc n) ts x r
  unfolding base look
  base_sound [] x r h = absurd cc
  base_sound (t ∷ ts) x r h = base_by_sound t ts x r t.kind refl h

  pub sized_base_sound : (ts : List Token) (ty : Base × List Expr) (r : List Token) → sized_base (expr n) (binary n) ts ≡ answer ty r → SizedGiven (suc n) ts ty r
  unfolding sized_base
  sized_base_sound ts ty r h =
      let x = bind_ok (base (expr n) (binary n) ts) (λ found. sizes (expr n) (binary n) >>= λ all. pure (found, all)) ty r h in
      let y = bind_ok (sizes (expr n) (binary n) x.1) (λ all. pure (x.0, all)) ty r x.3 in
      let one = base_sound ts x.0 x.1 x.2 in
      let two = sizes_sound x.1 y.0 y.1 y.2 in
      given (λ v l. SizedGiven (suc n) ts v l) (x.0, y.0) ty y.1 r y.3 (record {
        front = one.used;
        middle = two.used;
        parts = one.parts ∙ after_same one.used _ _ two.parts;
        spelled = one.spelled;
        sizes = two.spelled;
        low = omega (arith, sized-is x.0 y.0, one.low, two.low);
        ended = two.ended;
      })

  -- ---- atoms

  -- one token
  single : (a : Expr) (t : Token) (ts : List Token) (x : Expr) (r : List Token) → SpellsExpr a (t ∷ []) → post_level ≤ level a → height a ≡ 1 → ends_in_path a ≡ false → answer a ts ≡ answer x r
      → Atom (suc n) (t ∷ ts) x r
  single a t ts x r spelled tight low never h =
      given (λ v l. Atom (suc n) (t ∷ ts) v l) a x ts r h (record { gives = record { used = t ∷ []; parts = refl; spelled = spelled; tight = tight; low = omega arith }; path_ends = no_path a ts never })

  pub construct_by : (start : List Token) (ty : Base × List Expr) (ts : List Token) (a : Expr) (r : List Token) → SizedGiven (suc n) start ty ts → construct_of (expr n) (binary n) (suc n) ty ts ≡ answer a r
      → Atom (suc n) start a r
  unfolding ends_in_path
  construct_by start ty ts a r so_far h =
      elim (if_ok (nat_le (suc n) (sized ty.0 ty.1)) _ _ ts _ h) [
        | inl x ↦ absurd (let refused = x.1 in cc)
        | inr x ↦
            let y = bind_ok (args (expr n) (binary n) ts) (λ xs. pure (e.Construct ty.0 ty.1 xs)) a r x.1 in
            let l = args_sound ts y.0 y.1 y.2 in
            let low = leb-false _ _ x.0 in
            let after : so_far.middle ++ ts ≡ (so_far.middle ++ l.opening ∷ (l.inner ++ l.closing ∷ [])) ++ y.1 =
            after_same so_far.middle _ _ (l.parts ∙ cons_same l.opening _ _ (sym (append_assoc l.inner (l.closing ∷ []) y.1)))
            ∙ sym (append_assoc so_far.middle (l.opening ∷ (l.inner ++ l.closing ∷ [])) y.1) in
            given (λ v m. Atom (suc n) start v m) (e.Construct ty.0 ty.1 y.0) a y.1 r y.3 (record {
              gives = record {
                used = so_far.front ++ (so_far.middle ++ l.opening ∷ (l.inner ++ l.closing ∷ []));
                parts = so_far.parts ∙ after_same so_far.front _ _ after ∙ sym (append_assoc so_far.front (so_far.middle ++ l.opening ∷ (l.inner ++ l.closing ∷ [])) y.1);
                spelled = g.construct ty.0 ty.1 y.0 l.opening l.closing so_far.front so_far.middle l.inner so_far.spelled so_far.sizes l.opens l.spelled l.closes;
                tight = lit≤ tt;
                low = omega (arith, height-Construct ty.0 ty.1 y.0, l.low);
              };
              path_ends = no_path (e.Construct ty.0 ty.1 y.0) y.1 refl;
            })
      ]

  construct_sound : (ts : List Token) (a : Expr) (r : List Token) → construct (expr n) (binary n) (suc n) ts ≡ answer a r → Atom (suc n) ts a r
  unfolding construct
  construct_sound ts a r h =
      let x = bind_ok (sized_base (expr n) (binary n) ts) (construct_of (expr n) (binary n) (suc n)) a r h in
      construct_by ts x.0 x.1 a r (sized_base_sound ts x.0 x.1 x.2) x.3

  call_sound : (start : List Token) (q : Path) (ts : List Token) (a : Expr) (r : List Token) → PathGiven q start ts → 1 < suc n → (e.Call q <$> args (expr n) (binary n)) ts ≡ answer a r → Atom (suc n) start a r
  unfolding ends_in_path
  call_sound start q ts a r so_far low h =
      let y = bind_ok (args (expr n) (binary n) ts) (λ xs. pure (e.Call q xs)) a r h in
      let l = args_sound ts y.0 y.1 y.2 in
      given (λ v m. Atom (suc n) start v m) (e.Call q y.0) a y.1 r y.3 (record {
        gives = record {
          used = so_far.used ++ l.opening ∷ (l.inner ++ l.closing ∷ []);
          parts = so_far.parts ∙ after_same so_far.used _ _ (l.parts ∙ cons_same l.opening _ _ (sym (append_assoc l.inner (l.closing ∷ []) y.1)))
              ∙ sym (append_assoc so_far.used (l.opening ∷ (l.inner ++ l.closing ∷ [])) y.1);
          spelled = g.call q y.0 l.opening l.closing so_far.used l.inner so_far.spelled l.opens l.spelled l.closes;
          tight = lit≤ tt;
          low = omega (arith, height-Call q y.0, l.low);
        };
        path_ends = no_path (e.Call q y.0) y.1 refl;
      })

  named_sound : (ts : List Token) (a : Expr) (r : List Token) → named (expr n) (binary n) (suc n) ts ≡ answer a r → Atom (suc n) ts a r
  unfolding named see
  named_sound ts a r h =
      let x = bind_ok (path ts) (λ q. see (is_sign s.LeftParenthesis) >>= call_if (expr n) (binary n) (suc n) q) a r h in
      let q = path_sound ts x.0 x.1 x.2 in
      elim (if_ok (sees (is_sign s.LeftParenthesis) x.1) _ _ x.1 _ x.3) [
        | inl y ↦ elim (if_ok (nat_le (suc n) 1) _ _ x.1 _ y.1) [
          | inl z ↦ absurd (let refused = z.1 in cc)
          | inr z ↦ call_sound ts x.0 x.1 a r q (leb-false _ _ z.0) z.1
        ]
        | inr y ↦ given (λ v l. Atom (suc n) ts v l) (e.Name x.0) a x.1 r y.1 (record {
          gives = record { used = q.used; parts = q.parts; spelled = g.name x.0 q.used q.spelled; tight = lit≤ tt; low = omega (arith, height-Name x.0) };
          path_ends = record { no_call = λ _. y.0; no_name = λ _. q.ended };
        })
      ]

  paren_sound : (t : Token) (ts : List Token) (a : Expr) (r : List Token) → t.kind ≡ k.Sign s.LeftParenthesis → paren (expr n) (binary n) t.place ts ≡ answer a r → Atom (suc n) (t ∷ ts) a r
  unfolding paren ends_in_path
  paren_sound t ts a r is h =
      let x = bind_ok (expr n ts) (λ inner. expect (is_sign s.RightParenthesis) >>= λ _. pure (e.Paren t.place inner)) a r h in
      let y = bind_ok (expect (is_sign s.RightParenthesis) x.1) (λ _. pure (e.Paren t.place x.0)) a r x.3 in
      let inner = he ts x.0 x.1 x.2 in
      let c = sign_ok s.RightParenthesis x.1 y.0 y.1 y.2 in
      given (λ v l. Atom (suc n) (t ∷ ts) v l) (e.Paren t.place x.0) a y.1 r y.3 (record {
        gives = record {
          used = t ∷ (inner.gives.used ++ c.token ∷ []);
          parts = cons_same t _ _ (inner.gives.parts ∙ after_same inner.gives.used _ _ c.parts ∙ sym (append_assoc inner.gives.used (c.token ∷ []) y.1));
          spelled = g.paren x.0 t c.token inner.gives.used (record { kind = is }) inner.gives.spelled c.sign;
          tight = lit≤ tt;
          low = omega (arith, height-Paren t.place x.0, inner.gives.low);
        };
        path_ends = no_path (e.Paren t.place x.0) y.1 refl;
      })

  atom_by_sound : (t : Token) (ts : List Token) (a : Expr) (r : List Token) (kind : TokenKind) → t.kind ≡ kind → atom_by (expr n) (binary n) (suc n) t.place kind (t ∷ ts) ≡ answer a r → Atom (suc n) (t ∷ ts) a r
  unfolding skip ends_in_path
  atom_by_sound t ts a r (k.Number v x) is h = single (e.Number t.place v x) t ts a r (g.number t v x is) (lit≤ tt) (height-Number t.place v x) refl h
  atom_by_sound t ts a r (k.Reserved w.True) is h = single (e.Truth t.place true) t ts a r (g.yes t (record { kind = is })) (lit≤ tt) (height-Truth t.place true) refl h
  atom_by_sound t ts a r (k.Reserved w.False) is h = single (e.Truth t.place false) t ts a r (g.no t (record { kind = is })) (lit≤ tt) (height-Truth t.place false) refl h
  atom_by_sound t ts a r (k.Reserved w.Bool) is h = construct_sound (t ∷ ts) a r h
  atom_by_sound t ts a r (k.Reserved w.Int) is h = construct_sound (t ∷ ts) a r h
  atom_by_sound t ts a r (k.Reserved w.Int32) is h = construct_sound (t ∷ ts) a r h
  atom_by_sound t ts a r (k.Reserved w.Int64) is h = construct_sound (t ∷ ts) a r h
  atom_by_sound t ts a r (k.Reserved w.Wrap) is h = construct_sound (t ∷ ts) a r h
  atom_by_sound t ts a r (k.Reserved w.Clamp) is h = construct_sound (t ∷ ts) a r h
  atom_by_sound t ts a r (k.Word x) is h = named_sound (t ∷ ts) a r h
  atom_by_sound t ts a r (k.Sign s.LeftParenthesis) is h = paren_sound t ts a r is h
  atom_by_sound t ts a r _ is h = absurd cc

  atom_sound : (ts : List Token) (a : Expr) (r : List Token) → atom (expr n) (binary n) (suc n) ts ≡ answer a r → Atom (suc n) ts a r
  unfolding atom look
  atom_sound [] a r h = absurd cc
  atom_sound (t ∷ ts) a r h = atom_by_sound t ts a r t.kind refl h

  -- ---- steps

  abbrev stepping : Expr → Parser Expr
  stepping = steps (expr n) (binary n) (suc n)

  field_sound : (start ts : List Token) (left a : Expr) (r : List Token) → Atom (suc n) start left ts → height left < suc n → field (expr n) (binary n) left ts ≡ answer a r → Atom (suc n) start a r
  unfolding field ends_in_path
  field_sound start ts left a r so_far low h =
      let x = bind_ok (expect (is_sign s.Dot) ts) (λ _. name >>= λ found. pure (e.Field (place left) left (record { place = found.0; text = found.1 }))) a r h in
      let y = bind_ok (name x.1) (λ found. pure (e.Field (place left) left (record { place = found.0; text = found.1 }))) a r x.3 in
      let dot = sign_ok s.Dot ts x.0 x.1 x.2 in
      let t = name_ok x.1 y.0 y.1 y.2 in
      let w : Word = record { place = y.0.0; text = y.0.1 } in
      given (λ v l. Atom (suc n) start v l) (e.Field (place left) left w) a y.1 r y.3 (record {
        gives = record {
          used = so_far.gives.used ++ dot.token ∷ t.token ∷ [];
          parts = so_far.gives.parts ∙ after_same so_far.gives.used _ _ (dot.parts ∙ cons_same dot.token _ _ t.parts) ∙ sym (append_assoc so_far.gives.used (dot.token ∷ t.token ∷ []) y.1);
          spelled = g.field left w dot.token t.token so_far.gives.used so_far.gives.tight so_far.gives.spelled dot.sign (record { kind = t.kind; place = sym t.place });
          tight = lit≤ tt;
          low = omega (arith, height-Field (place left) left w);
        };
        path_ends = no_path (e.Field (place left) left w) y.1 refl;
      })

  index_sound : (start ts : List Token) (left a : Expr) (r : List Token) → Atom (suc n) start left ts → height left < suc n → index (expr n) (binary n) left ts ≡ answer a r → Atom (suc n) start a r
  unfolding index ends_in_path
  index_sound start ts left a r so_far low h =
      let x = bind_ok (bracketed (expr n) (binary n) ts) (λ i. pure (e.Index (place left) left i)) a r h in
      let l = bracketed_sound ts x.0 x.1 x.2 in
      given (λ v m. Atom (suc n) start v m) (e.Index (place left) left x.0) a x.1 r x.3 (record {
        gives = record {
          used = so_far.gives.used ++ l.opening ∷ (l.inner ++ l.closing ∷ []);
          parts = so_far.gives.parts ∙ after_same so_far.gives.used _ _ (l.parts ∙ cons_same l.opening _ _ (sym (append_assoc l.inner (l.closing ∷ []) x.1)))
              ∙ sym (append_assoc so_far.gives.used (l.opening ∷ (l.inner ++ l.closing ∷ [])) x.1);
          spelled = g.index left x.0 l.opening l.closing so_far.gives.used l.inner so_far.gives.tight so_far.gives.spelled l.opens l.spelled l.closes;
          tight = lit≤ tt;
          low = omega (arith, height-Index (place left) left x.0, l.low);
        };
        path_ends = no_path (e.Index (place left) left x.0) x.1 refl;
      })

  module _ (start ts : List Token) (left a : Expr) (r : List Token) (so_far : Atom (suc n) start left ts)
      (next : (ts' : List Token) (left' : Expr) → length ts' < length ts → Atom (suc n) start left' ts' → stepping left' ts' ≡ answer a r → Part post_level (suc n) start a r)
      (tn : Turn Expr Expr) (mid : List Token) (ends : goes stepping tn mid ≡ answer a r) where
    step_on : (p : Parser Expr) → Takes p → ((v : Expr) (l : List Token) → p ts ≡ answer v l → Atom (suc n) start v l) → (again <$> p) ts ≡ answer tn mid → Part post_level (suc n) start a r
    step_on p takes sound h =
        let x = bind_ok (p ts) (λ v. pure (again v)) tn mid h in
        given (λ (v : Turn Expr Expr) l. goes stepping v l ≡ answer a r → Part post_level (suc n) start a r) (again x.0) tn x.1 mid x.3
        (λ y. next x.1 x.0 (takes.some ts x.0 x.1 x.2) (sound x.0 x.1 x.2) y) ends

    steps_done : sees (is_sign s.Dot) ts ≡ false → sees (is_sign s.LeftBracket) ts ≡ false → answer {A = Turn Expr Expr} (done left) ts ≡ answer tn mid → Part post_level (suc n) start a r
    steps_done no_dot no_bracket h =
        given (λ (v : Turn Expr Expr) l. goes stepping v l ≡ answer a r → Part post_level (suc n) start a r) (done left) tn ts mid h
        (λ y. given (λ v l. Part post_level (suc n) start v l) left a ts r y
        (record { gives = so_far.gives; settled = record { no_dot = no_dot; no_bracket = no_bracket; path_ends = so_far.path_ends } })) ends

    index_step : sees (is_sign s.Dot) ts ≡ false → (x : Bool) → sees (is_sign s.LeftBracket) ts ≡ x → index_if (expr n) (binary n) (suc n) left x ts ≡ answer tn mid → Part post_level (suc n) start a r
    index_step no_dot false is h = steps_done no_dot is h
    index_step no_dot true is h =
        elim (if_ok (nat_le (suc n) (height left)) _ _ ts _ h) [
          | inl z ↦ absurd (let refused = z.1 in cc)
          | inr z ↦ step_on (index (expr n) (binary n) left) (takes_index (expr n) (binary n) (local_expr n) (local_binary n) left) (λ v l is'. index_sound start ts left v l so_far (leb-false _ _ z.0) is') z.1
        ]

    field_step : (x : Bool) → sees (is_sign s.Dot) ts ≡ x → field_if (expr n) (binary n) (suc n) left x ts ≡ answer tn mid → Part post_level (suc n) start a r
    unfolding see
    field_step false is h = index_step is (sees (is_sign s.LeftBracket) ts) refl h
    field_step true is h =
        elim (if_ok (nat_le (suc n) (height left)) _ _ ts _ h) [
          | inl z ↦ absurd (let refused = z.1 in cc)
          | inr z ↦ step_on (field (expr n) (binary n) left) (takes_field (expr n) (binary n) (local_expr n) (local_binary n) left) (λ v l is'. field_sound start ts left v l so_far (leb-false _ _ z.0) is') z.1
        ]

  steps_by : (f : ℕ) (start ts : List Token) (left a : Expr) (r : List Token) → length ts < f → Atom (suc n) start left ts → stepping left ts ≡ answer a r → Part post_level (suc n) start a r
  unfolding steps step see
  steps_by zero start ts left a r lt so_far h = absurd (omega arith)
  steps_by (suc f) start ts left a r lt so_far h =
      let opened = sym (repeat-turn (step (expr n) (binary n) (suc n)) (moves_step (expr n) (binary n) (local_expr n) (local_binary n) (suc n)) left ts) ∙ h in
      let x = bind_ok (step (expr n) (binary n) (suc n) left ts) (goes stepping) a r opened in
      field_step start ts left a r so_far (λ ts' left' less new y. steps_by f start ts' left' a r (omega arith) new y) x.0 x.1 x.3 (sees (is_sign s.Dot) ts) refl x.2

  pub steps_sound : (start ts : List Token) (left a : Expr) (r : List Token) → Atom (suc n) start left ts → stepping left ts ≡ answer a r → Part post_level (suc n) start a r
  steps_sound start ts left a r so_far h = steps_by (suc (length ts)) start ts left a r (omega arith) so_far h

  post_sound : (ts : List Token) (a : Expr) (r : List Token) → post (expr n) (binary n) (suc n) ts ≡ answer a r → Part post_level (suc n) ts a r
  unfolding post
  post_sound ts a r h =
      let x = bind_ok (atom (expr n) (binary n) (suc n) ts) stepping a r h in
      steps_sound ts x.1 x.0 a r (atom_sound ts x.0 x.1 x.2) x.3

  -- ---- operators

  looser : (least less room : ℕ) (ts : List Token) (a : Expr) (r : List Token) → less ≤ least → Gives least room ts a r → Gives less room ts a r
  looser least less room ts a r le x = record { used = x.used; parts = x.parts; spelled = x.spelled; tight = omega (arith, x.tight); low = x.low }

  operand_by_sound : (t : Token) (ts : List Token) (a : Expr) (r : List Token) (x : Option Unary) → unary_of t.kind ≡ x → operand_by (expr n) (binary n) (suc n) t.place x (t ∷ ts) ≡ answer a r
      → Part unary_level (suc n) (t ∷ ts) a r
  unfolding skip
  operand_by_sound t ts a r None is h = let p = post_sound (t ∷ ts) a r h in record { gives = looser post_level unary_level (suc n) (t ∷ ts) a r (lit≤ tt) p.gives; settled = p.settled }
  operand_by_sound t ts a r (Some x) is h =
      let y = bind_ok (binary n unary_level ts) (λ v. pure (e.Unary t.place x v)) a r h in
      let inner = hb unary_level (lit≤ tt) (lit≤ tt) ts y.0 y.1 y.2 in
      given (λ v l. Part unary_level (suc n) (t ∷ ts) v l) (e.Unary t.place x y.0) a y.1 r y.3 (record {
        gives = record {
          used = t ∷ inner.gives.used;
          parts = cons_same t _ _ inner.gives.parts;
          spelled = g.unary x y.0 t inner.gives.used (record { kind = unary_sign_of t.kind x is }) inner.gives.tight inner.gives.spelled;
          tight = lit≤ tt;
          low = omega (arith, height-Unary t.place x y.0, inner.gives.low);
        };
        settled = settled_as y.0 (e.Unary t.place x y.0) y.1 (λ p. sym (ends_in_path-Unary t.place x y.0) ∙ p) inner.settled;
      })

  operand_sound : (ts : List Token) (a : Expr) (r : List Token) → operand (expr n) (binary n) (suc n) ts ≡ answer a r → Part unary_level (suc n) ts a r
  unfolding operand look
  operand_sound [] a r h = absurd cc
  operand_sound (t ∷ ts) a r h = operand_by_sound t ts a r (unary_of t.kind) refl h

  abbrev climbs : ℕ → Expr → Parser Expr
  climbs least = climb (expr n) (binary n) (suc n) least

  module _ (least : ℕ) (some : 1 ≤ least) (start ts : List Token) (left a : Expr) (r : List Token) (so_far : Gives least (suc n) start left ts) (within : next_binds ts ≤ level left) (settled : Settled left ts)
      (next : (ts' : List Token) (left' : Expr) → length ts' < length ts → Gives least (suc n) start left' ts' → next_binds ts' ≤ level left' → Settled left' ts' → climbs least left' ts' ≡ answer a r → Operand (suc n) least start a r)
      (tn : Turn Expr Expr) (mid : List Token) (ends : goes (climbs least) tn mid ≡ answer a r) where
    stops : next_binds ts < least → answer {A = Turn Expr Expr} (done left) ts ≡ answer tn mid → Operand (suc n) least start a r
    stops lt h = given (λ (v : Turn Expr Expr) l. goes (climbs least) v l ≡ answer a r → Operand (suc n) least start a r) (done left) tn ts mid h
        (λ y. given (λ v l. Operand (suc n) least start v l) left a ts r y (record { gives = so_far; after = lt; settled = settled })) ends

    goes_on : (x : Binary) → operator ts ≡ Some x → least ≤ binds x → height left < suc n
        → (skip >> (λ right. more (e.Binary (place left) x left right)) <$> binary n (binds x + 1)) ts ≡ answer tn mid → Operand (suc n) least start a r
    goes_on x is le low h =
        let c = bind_ok (skip ts) (λ _. (λ right. more (e.Binary (place left) x left right)) <$> binary n (binds x + 1)) tn mid h in
        let d = bind_ok (binary n (binds x + 1) c.1) (λ right. pure (more (e.Binary (place left) x left right))) tn mid c.3 in
        let right = hb (binds x + 1) (omega arith) (omega (arith, binds_few x)) c.1 d.0 d.1 d.2 in
        let t = operator_ok x ts c.0 c.1 is c.2 in
        let parts : start ≡ (so_far.used ++ t.token ∷ right.gives.used) ++ d.1 =
        so_far.parts ∙ after_same so_far.used _ _ (t.parts ∙ cons_same t.token _ _ right.gives.parts) ∙ sym (append_assoc so_far.used (t.token ∷ right.gives.used) d.1) in
        let in_left : binds x ≤ level left = rw (← ap binds_of is) within in
        let above : binds x < level d.0 = omega (arith, right.gives.tight) in
        let new : Gives least (suc n) start (e.Binary (place left) x left d.0) d.1 = record {
          used = so_far.used ++ t.token ∷ right.gives.used;
          parts = parts;
          spelled = g.binary x left d.0 t.token so_far.used right.gives.used in_left so_far.spelled t.sign above right.gives.spelled;
          tight = le;
          low = omega (arith, height-Binary (place left) x left d.0, right.gives.low);
        } in
        let shorter : length d.1 < length ts = omega (arith, shrinks (binary n (binds x + 1)) (local_binary n (binds x + 1)) c.1 d.0 d.1 d.2, ap length t.parts) in
        let after = settled_as d.0 (e.Binary (place left) x left d.0) d.1 (λ p. sym (ends_in_path-Binary (place left) x left d.0) ∙ p) right.settled in
        given (λ (v : Turn Expr Expr) l. goes (climbs least) v l ≡ answer a r → Operand (suc n) least start a r) (more (e.Binary (place left) x left d.0)) tn d.1 mid d.3
        (λ y. next d.1 (e.Binary (place left) x left d.0) shorter new (omega (arith, right.after)) after y) ends

    turns_by : (x : Option Binary) → operator ts ≡ x → turn_by (expr n) (binary n) (suc n) least left x ts ≡ answer tn mid → Operand (suc n) least start a r
    turns_by None is h = stops (rw is some) h
    turns_by (Some x) is h =
        elim (if_ok (nat_lt (binds x) least) _ _ ts _ h) [
          | inl y ↦ stops (rw is (ltb-true _ _ y.0)) y.1
          | inr y ↦ elim (if_ok (nat_le (suc n) (height left)) _ _ ts _ y.1) [
            | inl z ↦ absurd (let refused = z.1 in cc)
            | inr z ↦ goes_on x is (ltb-false _ _ y.0) (leb-false _ _ z.0) z.1
          ]
        ]

  climb_by : (f least : ℕ) (start ts : List Token) (left a : Expr) (r : List Token) → length ts < f → 1 ≤ least → Gives least (suc n) start left ts → next_binds ts ≤ level left → Settled left ts
      → climbs least left ts ≡ answer a r → Operand (suc n) least start a r
  unfolding climb turn see_operator
  climb_by zero least start ts left a r lt some so_far within settled h = absurd (omega arith)
  climb_by (suc f) least start ts left a r lt some so_far within settled h =
      let opened = sym (repeat-turn (turn (expr n) (binary n) (suc n) least) (moves_turn (expr n) (binary n) (local_expr n) (local_binary n) (suc n) least) left ts) ∙ h in
      let x = bind_ok (turn (expr n) (binary n) (suc n) least left ts) (goes (climbs least)) a r opened in
      turns_by least some start ts left a r so_far within settled (λ ts' left' less new in_new after y. climb_by f least start ts' left' a r (omega arith) some new in_new after y) x.0 x.1 x.3 (operator ts) refl x.2

  -- from an operand on
  pub climb_sound : (least : ℕ) → 1 ≤ least → least ≤ unary_level → (start ts : List Token) (left a : Expr) (r : List Token) → Part unary_level (suc n) start left ts → climbs least left ts ≡ answer a r
      → Operand (suc n) least start a r
  climb_sound least some few start ts left a r one h =
      climb_by (suc (length ts)) least start ts left a r (omega arith) some (looser unary_level least (suc n) start left ts few one.gives) (omega (arith, next_few (operator ts), one.gives.tight)) one.settled h

  operation_sound : (least : ℕ) → 1 ≤ least → least ≤ unary_level → (ts : List Token) (a : Expr) (r : List Token) → operation (expr n) (binary n) (suc n) least ts ≡ answer a r → Operand (suc n) least ts a r
  unfolding operation
  operation_sound least some few ts a r h =
      let x = bind_ok (operand (expr n) (binary n) (suc n) ts) (climbs least) a r h in
      climb_sound least some few ts x.1 x.0 a r (operand_sound ts x.0 x.1 x.2) x.3

  module _ (start ts : List Token) (left a : Expr) (r : List Token) (so_far : Operand (suc n) 1 start left ts) where
    tail_chosen : height left < suc n → choice (expr n) (binary n) left ts ≡ answer a r → Sentence (suc n) start a r
    unfolding choice
    tail_chosen low h =
        let c = bind_ok (expect (is_sign s.Question) ts) (λ _. expr n >>= λ yes'. expect (is_sign s.Colon) >>= λ _. expr n >>= λ no'. pure (e.Choice (place left) left yes' no')) a r h in
        let d = bind_ok (expr n c.1) (λ yes'. expect (is_sign s.Colon) >>= λ _. expr n >>= λ no'. pure (e.Choice (place left) left yes' no')) a r c.3 in
        let f = bind_ok (expect (is_sign s.Colon) d.1) (λ _. expr n >>= λ no'. pure (e.Choice (place left) left d.0 no')) a r d.3 in
        let z = bind_ok (expr n f.1) (λ no'. pure (e.Choice (place left) left d.0 no')) a r f.3 in
        let t = sign_ok s.Question ts c.0 c.1 c.2 in
        let one = he c.1 d.0 d.1 d.2 in
        let v = sign_ok s.Colon d.1 f.0 f.1 f.2 in
        let two = he f.1 z.0 z.1 z.2 in
        let front = so_far.gives in
        let after : ts ≡ t.token ∷ ((one.gives.used ++ v.token ∷ two.gives.used) ++ z.1) =
        t.parts ∙ cons_same t.token _ _ (one.gives.parts ∙ after_same one.gives.used _ _ (v.parts ∙ cons_same v.token _ _ two.gives.parts) ∙ sym (append_assoc one.gives.used (v.token ∷ two.gives.used) z.1)) in
        let parts : start ≡ (front.used ++ t.token ∷ (one.gives.used ++ v.token ∷ two.gives.used)) ++ z.1 =
        front.parts ∙ after_same front.used _ _ after ∙ sym (append_assoc front.used (t.token ∷ (one.gives.used ++ v.token ∷ two.gives.used)) z.1) in
        given (λ x l. Sentence (suc n) start x l) (e.Choice (place left) left d.0 z.0) a z.1 r z.3 (record {
          gives = record {
            used = front.used ++ t.token ∷ (one.gives.used ++ v.token ∷ two.gives.used);
            parts = parts;
            spelled = g.choice left d.0 z.0 t.token v.token front.used one.gives.used two.gives.used front.tight front.spelled t.sign one.gives.spelled v.sign two.gives.spelled;
            tight = omega arith;
            low = omega (arith, height-Choice (place left) left d.0 z.0, one.gives.low, two.gives.low);
          };
          closed = closed_as z.0 (e.Choice (place left) left d.0 z.0) z.1 (λ p. sym (ends_in_path-Choice (place left) left d.0 z.0) ∙ p) two.closed;
        })

    pub tail_sound : tail (expr n) (binary n) (suc n) left ts ≡ answer a r → Sentence (suc n) start a r
    unfolding tail see
    tail_sound h =
        elim (if_ok (sees (is_sign s.Question) ts) _ _ ts _ h) [
          | inl x ↦ elim (if_ok (nat_le (suc n) (height left)) _ _ ts _ x.1) [
            | inl y ↦ absurd (let refused = y.1 in cc)
            | inr y ↦ tail_chosen (leb-false _ _ y.0) y.1
          ]
          | inr x ↦ given (λ y l. Sentence (suc n) start y l) left a ts r x.1 (record {
            gives = looser 1 0 (suc n) start left ts (omega arith) so_far.gives;
            closed = record { no_operator = none_by (operator ts) so_far.after; no_choice = x.0; settled = so_far.settled };
          })
        ]

mutual
  unfolding binary expr

  pub binary_sound : (n least : ℕ) → 1 ≤ least → least ≤ unary_level → IsSound (binary n least) (Operand n least)
  binary_sound zero least some few ts a r h = absurd cc
  binary_sound (suc n) least some few ts a r h = operation_sound n (expr_sound n) (binary_sound n) least some few ts a r h

  pub expr_sound : (n : ℕ) → IsSound (expr n) (Sentence n)
  expr_sound zero ts a r h = absurd cc
  expr_sound (suc n) ts a r h =
      let x = bind_ok (operation (expr n) (binary n) (suc n) 1 ts) (tail (expr n) (binary n) (suc n)) a r h in
      tail_sound n (expr_sound n) (binary_sound n) ts x.1 x.0 a r (operation_sound n (expr_sound n) (binary_sound n) 1 (lit≤ tt) (lit≤ tt) ts x.0 x.1 x.2) x.3
