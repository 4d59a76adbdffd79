-- A list of parts, a part at a time.
use Rattle.std.proofs.Common.{◌≡◌, ℕ, zero, suc, ◌<◌, Bool, true, false, List, [], ◌∷◌, ◌++◌, length, Err, refl, sym, ap, ◌∙◌, append_assoc, append-nil, inl, inr, arith}
use Rattle.cm_tree.specs.declared.token.Token.{Token}
use Rattle.cm_tree.specs.declared.token.TokenKind.{TokenKind}
use Rattle.token_reader.specs.Parsers.{Parser, pure, see, sees, Turn, more, done, goes}
use Rattle.token_reader.specs.Lists.{turn_while, while_sees}
use Rattle.token_reader.specs.Local.{Local, Takes}
use Rattle.token_reader.proofs.Loops.{repeat-turn, repeat-more, repeat-done, repeat-err}
use Rattle.token_reader.proofs.Inverses.{answer, bind_ok, if_ok, given}
use Rattle.token_reader.proofs.Locality.{moves_while}

module _ {A : Type 0} (test : TokenKind → Bool) (part : Parser A) (local : Local part) (takes : Takes part) where
  module _ (found : List A) (ts : List Token) where
    pub while_more : (x : A) (r : List Token) → sees test ts ≡ true → part ts ≡ answer x r → while_sees test part found ts ≡ while_sees test part (found ++ x ∷ []) r
    unfolding while_sees turn_while see
    while_more x r goes_on is = repeat-more (turn_while test part) (moves_while test part local takes) found (found ++ x ∷ []) ts r (rw (goes_on, is) refl)

    pub while_fails : (e : List Token) → sees test ts ≡ true → part ts ≡ Err e → while_sees test part found ts ≡ Err e
    unfolding while_sees turn_while see
    while_fails e goes_on is = repeat-err (turn_while test part) (moves_while test part local takes) found ts e (rw (goes_on, is) refl)

    pub while_ends : sees test ts ≡ false → while_sees test part found ts ≡ answer found ts
    unfolding while_sees turn_while see
    while_ends ends = repeat-done (turn_while test part) (moves_while test part local takes) found found ts ts (rw ends refl)

  -- ---- what was read

  -- the parts that were read, one after the other
  unfoldable pub Read : List A → List Token → List Token → Type 0
  Read [] ts r = (sees test ts ≡ false) × (ts ≡ r)
  Read (x ∷ xs) ts r = (mid : List Token) × (sees test ts ≡ true) × (part ts ≡ answer x mid) × Read xs mid r

  pub record WhileOk (ts : List Token) (found all : List A) (r : List Token) : Type 0 where
    pub items : List A
    pub whole : all ≡ found ++ items
    pub read : Read items ts r

  while_end : (ts : List Token) (found all : List A) (r : List Token) → sees test ts ≡ false → answer found ts ≡ answer all r → WhileOk ts found all r
  unfolding Read
  while_end ts found all r ends h = given (λ z l. WhileOk ts found z l) found all ts r h (record { items = []; whole = sym (append-nil found); read = (ends, refl) })

  while_next : (ts : List Token) (found all : List A) (x : A) (mid r : List Token) → sees test ts ≡ true → part ts ≡ answer x mid → WhileOk mid (found ++ x ∷ []) all r → WhileOk ts found all r
  unfolding Read
  while_next ts found all x mid r goes_on is l = record {
    items = x ∷ l.items;
    whole = l.whole ∙ append_assoc found (x ∷ []) l.items;
    read = (mid, goes_on, is, l.read);
  }

  while_by : (f : ℕ) (ts : List Token) (found all : List A) (r : List Token) → length ts < f → while_sees test part found ts ≡ answer all r → WhileOk ts found all r
  unfolding while_sees turn_while see
  while_by zero ts found all r lt h = absurd (omega arith)
  while_by (suc f) ts found all r lt h =
      let unrolled = sym (repeat-turn (turn_while test part) (moves_while test part local takes) found ts) ∙ h in
      let b = bind_ok (turn_while test part found ts) (goes (while_sees test part)) all r unrolled in
      elim (if_ok (sees test ts) _ _ ts _ b.2) [
        | inl p ↦
            let c = bind_ok (part ts) (λ x. pure (more (found ++ x ∷ []))) b.0 b.1 p.1 in
            let less = takes.some ts c.0 c.1 c.2 in
            while_next ts found all c.0 c.1 r p.0 c.2
            (given (λ (z : Turn (List A) (List A)) l. goes (while_sees test part) z l ≡ answer all r → WhileOk c.1 (found ++ c.0 ∷ []) all r) (more (found ++ c.0 ∷ [])) b.0 c.1 b.1 c.3 (λ g. while_by f c.1 (found ++ c.0 ∷ []) all r (omega arith) g) b.3)
        | inr p ↦
            while_end ts found all r p.0 (given (λ (z : Turn (List A) (List A)) l. goes (while_sees test part) z l ≡ answer all r → answer found ts ≡ answer all r) (done found) b.0 ts b.1 p.1 (λ g. g) b.3)
      ]

  -- the parts that a loop read
  pub while_ok : (ts : List Token) (found all : List A) (r : List Token) → while_sees test part found ts ≡ answer all r → WhileOk ts found all r
  while_ok ts found all r h = while_by (suc (length ts)) ts found all r (omega arith) h

  -- and what a loop reads
  pub while_reads : (items : List A) (ts r : List Token) → Read items ts r → (found : List A) → while_sees test part found ts ≡ answer (found ++ items) r
  unfolding Read
  while_reads [] ts r h found = while_ends found ts h.0 ∙ ap (λ (l : List A). answer l ts) (sym (append-nil found)) ∙ ap (λ (l : List Token). answer (found ++ []) l) h.1
  while_reads (x ∷ xs) ts r h found =
      while_more found ts x h.0 h.1 h.2 ∙ while_reads xs h.0 r h.3 (found ++ x ∷ []) ∙ ap (λ (l : List A). answer l r) (append_assoc found (x ∷ []) xs)
