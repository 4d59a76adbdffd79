-- Comments: where the next `*/` stands.
use Rattle.std.proofs.Common.{◌≡◌, ℕ, zero, suc, ◌+◌, ◌≤◌, ◌<◌, ◌&&◌, ◌==◌, Bool, true, false, cond, List, [], ◌∷◌, ◌++◌, length, take, drop, Option, Some, None, refl, ap, sym, subst, ◌∙◌, arith, slice_index, length-append, append_assoc, ◌⊎◌, inl, inr, add-one, drop-cons}
use Rattle.std.proofs.lemmas.Bool.{eqb-true, cases_lt}
use Rattle.std.proofs.lemmas.List.{take_at, take-append-le, take-append-drop, drop_all, get_or-drop}
use Rattle.cm_tree.specs.Pieces.{Text, Closes}
use Rattle.cm_lexer.specs.Scan.{later, close_len}
use Rattle.cm_lexer.proofs.Runs.{both}

later_some : (o : Option ℕ) (n : ℕ) → later 1 o ≡ Some n → (m : ℕ) × (o ≡ Some m) × (n ≡ m + 1)
later_some None n is = absurd (cc)
later_some (Some m) n is = (m, refl, cc)

later_none : (o : Option ℕ) → later 1 o ≡ None → o ≡ None
later_none None is = refl
later_none (Some m) is = absurd (cc)

pub later_later : (n : ℕ) (o : Option ℕ) → later n (later 1 o) ≡ later (n + 1) o
later_later n None = refl
later_later n (Some m) = ap (λ (k : ℕ). Some k) (omega arith)

pub close_step : (byte : ℕ) (text : Text) → (byte == 42 && slice_index text 0 == 47) ≡ false → close_len (byte ∷ text) ≡ later 1 (close_len text)
unfolding close_len
close_step byte text is = rw is refl

pub close_here : (byte : ℕ) (text : Text) → (byte == 42 && slice_index text 0 == 47) ≡ true → close_len (byte ∷ text) ≡ Some 2
unfolding close_len
close_here byte text is = rw is refl

close_empty : close_len [] ≡ None
unfolding close_len
close_empty = refl

-- ---- what stands in a text

pub first_of : (text : Text) (byte : ℕ) → slice_index text 0 ≡ suc byte → text ≡ suc byte ∷ drop 1 text
first_of [] byte is = absurd (omega arith)
first_of (first ∷ text) byte is = ap (λ (b : ℕ). b ∷ text) is

closes_more : (byte : ℕ) (text : Text) → Closes text → Closes (byte ∷ text)
closes_more byte text c = record { before = byte ∷ c.before; after = c.after; is = ap (λ (t : Text). byte ∷ t) c.is }

no_head : (byte : ℕ) (text : Text) → ¬ Closes (byte ∷ text) → (byte == 42 && slice_index text 0 == 47) ≡ false
no_head byte text opens = by_test (byte == 42 && slice_index text 0 == 47) refl where
  by_test : (b : Bool) → (byte == 42 && slice_index text 0 == 47) ≡ b → b ≡ false
  by_test true is =
      let parts = both (byte == 42) (slice_index text 0 == 47) is in
      let star : byte ≡ 42 = eqb-true byte 42 parts.0 in
      let slash : text ≡ 47 ∷ drop 1 text = first_of text 46 (eqb-true (slice_index text 0) 47 parts.1) in
      let here : byte ∷ text ≡ 42 ∷ 47 ∷ drop 1 text = ap (λ (b : ℕ). b ∷ text) star ∙ ap (λ (t : Text). 42 ∷ t) slash in
      absurd (opens (record { before = []; after = drop 1 text; is = here }))
  by_test false is = refl

closes_tail : (byte : ℕ) (text : Text) → Closes (byte ∷ text) → (byte == 42 && slice_index text 0 == 47) ≡ false → Closes text
closes_tail byte text c test = by_before c.before c.is where
  by_before : (before : Text) → byte ∷ text ≡ before ++ (42 ∷ 47 ∷ c.after) → Closes text
  by_before [] is =
      let star : byte ≡ 42 = cc in
      let rest : text ≡ 47 ∷ c.after = cc in
      let none : (42 == 42 && slice_index (47 ∷ c.after) 0 == 47) ≡ false = subst (λ (b : ℕ). (b == 42 && slice_index (47 ∷ c.after) 0 == 47) ≡ false) star (subst (λ (t : Text). (byte == 42 && slice_index t 0 == 47) ≡ false) rest test) in
      absurd (cc)
  by_before (first ∷ before) is = record { before = before; after = c.after; is = cc }

same_head : (body left : Text) → slice_index (body ++ (42 ∷ 47 ∷ left)) 0 ≡ slice_index (body ++ (42 ∷ [])) 0
same_head [] left = refl
same_head (byte ∷ body) left = refl

short_opens : ¬ Closes (42 ∷ [])
short_opens c = absurd (omega (arith, ap length c.is, length-append c.before (42 ∷ 47 ∷ c.after)))

empty_opens : ¬ Closes []
empty_opens c = absurd (omega (arith, ap length c.is, length-append c.before (42 ∷ 47 ∷ c.after)))

-- ---- the next `*/`

pub close_first : (body left : Text) → ¬ Closes (body ++ (42 ∷ [])) → close_len (body ++ (42 ∷ 47 ∷ left)) ≡ Some (length body + 2)
close_first [] left opens = close_here 42 (47 ∷ left) refl
close_first (byte ∷ body) left opens =
    let tail = close_first body left (λ c. opens (closes_more byte (body ++ (42 ∷ [])) c)) in
    let test : (byte == 42 && slice_index (body ++ (42 ∷ 47 ∷ left)) 0 == 47) ≡ false = subst (λ (n : ℕ). (byte == 42 && n == 47) ≡ false) (sym (same_head body left)) (no_head byte (body ++ (42 ∷ [])) opens) in
    close_step byte (body ++ (42 ∷ 47 ∷ left)) test ∙ ap (later 1) tail ∙ ap (λ (n : ℕ). Some n) (omega arith)

-- the text closes after n bytes, and not before
pub record ClosesAt (text : Text) (n : ℕ) : Type 0 where
  pub front : Text
  pub rest : Text
  pub is : text ≡ front ++ (42 ∷ 47 ∷ rest)
  pub len : n ≡ length front + 2
  pub first : ¬ Closes (front ++ (42 ∷ []))

pub close_found : (text : Text) (n : ℕ) → close_len text ≡ Some n → ClosesAt text n
close_found [] n is = let none = close_empty in absurd (cc)
close_found (byte ∷ text) n is = by_test (close_found text) (byte == 42 && slice_index text 0 == 47) refl where
  by_test : ((m : ℕ) → close_len text ≡ Some m → ClosesAt text m) → (b : Bool) → (byte == 42 && slice_index text 0 == 47) ≡ b → ClosesAt (byte ∷ text) n
  by_test tail true test =
      let parts = both (byte == 42) (slice_index text 0 == 47) test in
      let star : byte ≡ 42 = eqb-true byte 42 parts.0 in
      let slash : text ≡ 47 ∷ drop 1 text = first_of text 46 (eqb-true (slice_index text 0) 47 parts.1) in
      let two : Some 2 ≡ Some n = sym (close_here byte text test) ∙ is in
      record {
        front = [];
        rest = drop 1 text;
        is = ap (λ (b : ℕ). b ∷ text) star ∙ ap (λ (t : Text). 42 ∷ t) slash;
        len = cc;
        first = short_opens;
      }
  by_test tail false test =
      let more = later_some (close_len text) n (sym (close_step byte text test) ∙ is) in
      let t = tail more.0 more.1 in
      let head : slice_index (t.front ++ (42 ∷ [])) 0 ≡ slice_index text 0 = sym (same_head t.front t.rest) ∙ ap (λ (x : Text). slice_index x 0) (sym t.is) in
      record {
        front = byte ∷ t.front;
        rest = t.rest;
        is = ap (λ (x : Text). byte ∷ x) t.is;
        len = omega (arith, more.2, t.len);
        first = λ c. t.first (closes_tail byte (t.front ++ (42 ∷ [])) c (subst (λ (k : ℕ). (byte == 42 && k == 47) ≡ false) (sym head) test));
      }

pub close_none : (text : Text) → close_len text ≡ None → ¬ Closes text
close_none [] is = empty_opens
close_none (byte ∷ text) is = by_test (close_none text) (byte == 42 && slice_index text 0 == 47) refl where
  by_test : (close_len text ≡ None → ¬ Closes text) → (b : Bool) → (byte == 42 && slice_index text 0 == 47) ≡ b → ¬ Closes (byte ∷ text)
  by_test tail true test = let two = close_here byte text test in absurd (cc)
  by_test tail false test = λ c. tail (later_none (close_len text) (sym (close_step byte text test) ∙ is)) (closes_tail byte text c test)

-- a text that doesn't close goes on to the close behind it
pub close_beyond : (body left : Text) (n : ℕ) → ¬ Closes body → close_len (body ++ left) ≡ Some n → length body < n
close_beyond body left n opens is = by_length (cases_lt (length body) n) where
  at : ClosesAt (body ++ left) n
  at = close_found (body ++ left) n is

  by_length : (length body < n) ⊎ (n ≤ length body) → length body < n
  by_length (inl beyond) = beyond
  by_length (inr within) =
      let front : take n (body ++ left) ≡ at.front ++ (42 ∷ 47 ∷ []) =
      ap (take n) (at.is ∙ sym (append_assoc at.front (42 ∷ 47 ∷ []) at.rest)) ∙ take_at (at.front ++ (42 ∷ 47 ∷ [])) at.rest n (omega (arith, at.len, length-append at.front (42 ∷ 47 ∷ []))) in
      let same : take n body ≡ at.front ++ (42 ∷ 47 ∷ []) = sym (take-append-le n body left within) ∙ front in
      let whole : body ≡ at.front ++ (42 ∷ 47 ∷ drop n body) =
      sym (take-append-drop n body) ∙ (ap (λ (t : Text). t ++ drop n body) same ∙ append_assoc at.front (42 ∷ 47 ∷ []) (drop n body)) in
      absurd (opens (record { before = at.front; after = drop n body; is = whole }))

-- ---- index by index

pub close_at : (text : Text) (at : ℕ) → at < length text → (slice_index text at == 42 && slice_index text (at + 1) == 47) ≡ true → close_len (drop at text) ≡ Some 2
close_at text at within is =
    let rest : drop at text ≡ slice_index text at ∷ drop (at + 1) text = rw add-one (drop-cons text at 0 within) in
    let next : slice_index (drop (at + 1) text) 0 ≡ slice_index text (at + 1) = get_or-drop (at + 1) text 0 0 ∙ ap (λ (n : ℕ). slice_index text n) (omega arith) in
    rw rest (close_here (slice_index text at) (drop (at + 1) text) (rw next is))

pub close_past : (text : Text) (at : ℕ) → at < length text → (slice_index text at == 42 && slice_index text (at + 1) == 47) ≡ false → close_len (drop at text) ≡ later 1 (close_len (drop (at + 1) text))
close_past text at within is =
    let rest : drop at text ≡ slice_index text at ∷ drop (at + 1) text = rw add-one (drop-cons text at 0 within) in
    let next : slice_index (drop (at + 1) text) 0 ≡ slice_index text (at + 1) = get_or-drop (at + 1) text 0 0 ∙ ap (λ (n : ℕ). slice_index text n) (omega arith) in
    rw rest (close_step (slice_index text at) (drop (at + 1) text) (rw next is))

pub close_end : (text : Text) (at : ℕ) → length text ≤ at → close_len (drop at text) ≡ None
close_end text at le = rw (drop_all at text le) close_empty
