-- Signs: what is read is the longest that stands at the front.
use Rattle.std.proofs.Common.{◌≡◌, ℕ, zero, suc, ◌+◌, ◌≤◌, ◌<◌, ◌&&◌, ◌||◌, ◌==◌, Bool, true, false, not, cond, List, [], ◌∷◌, ◌++◌, length, take, drop, Option, Some, None, refl, ap, sym, subst, ◌∙◌, arith, slice_index}
use Rattle.std.specs.Prelude.{nat_le, is_some}
use Rattle.std.specs.List.{prefix_len, list_all}
use Rattle.std.specs.Str.{bytes_eq}
use Rattle.std.proofs.lemmas.List.{take_at, take-append-drop, length-take}
use Rattle.cm_tree.specs.declared.sign.Sign.{Sign}
use Rattle.cm_tree.specs.Pieces.{Text, entry, signs}
use Rattle.cm_lexer.specs.Scan.{begun_by}
use Rattle.cm_lexer.proofs.Runs.{both, same_bytes, equal_bytes, chosen, entry_passes}

-- no entry is longer than an earlier one
abbrev pub falls : {A : Type 0} → List (Text × A) → Bool
falls [] = true
falls (e ∷ es) = list_all (λ o. nat_le (length o.0) (length e.0)) es && falls es

signs_fall : falls signs ≡ true
unfolding signs
signs_fall = refl

-- the first entry that begins a text is found under its own text
pub begun-entry : {A : Type 0} (table : List (Text × A)) (text : Text) (e : Text × A) → begun_by table text ≡ Some e → (entry table e.0 ≡ Some e.1) × (take (length e.0) text ≡ e.0)
begun-entry [] text e is = absurd (cc)
begun-entry {A} (h ∷ es) text e is = by_head (begun-entry es text e) (bytes_eq h.0 (take (length h.0) text)) refl is where
  by_head : (begun_by es text ≡ Some e → (entry es e.0 ≡ Some e.1) × (take (length e.0) text ≡ e.0)) → (b : Bool) → bytes_eq h.0 (take (length h.0) text) ≡ b → cond b (Some h) (begun_by es text) ≡ Some e → (entry (h ∷ es) e.0 ≡ Some e.1) × (take (length e.0) text ≡ e.0)
  by_head later true begins found =
      let head : h ≡ e = cc in
      subst (λ (x : Text × A). (entry (h ∷ es) x.0 ≡ Some x.1) × (take (length x.0) text ≡ x.0)) head (rw (equal_bytes h.0) refl, sym (same_bytes h.0 _ begins))
  by_head later false begins found = by_first (later found) (bytes_eq h.0 e.0) refl where
    by_first : (entry es e.0 ≡ Some e.1) × (take (length e.0) text ≡ e.0) → (b : Bool) → bytes_eq h.0 e.0 ≡ b → (entry (h ∷ es) e.0 ≡ Some e.1) × (take (length e.0) text ≡ e.0)
    by_first tail true first =
        let texts : h.0 ≡ e.0 = same_bytes h.0 e.0 first in
        let begun : h.0 ≡ take (length h.0) text = subst (λ (t : Text). t ≡ take (length t) text) (sym texts) (sym tail.1) in
        let yes = chosen h.0 (take (length h.0) text) begun in
        absurd (cc)
    by_first tail false first = (rw first tail.0, tail.1)

-- what begins a text that begins with an entry: an entry that is as long at least, and the same where it isn't longer
pub record Begun {A : Type 0} (table : List (Text × A)) (whole sign : Text) (x : A) : Type 0 where
  pub text : Text
  pub value : A
  pub is : begun_by table whole ≡ Some (text, value)
  pub reach : length sign ≤ length text
  pub same : length sign ≡ length text → value ≡ x

pub entry-begun : {A : Type 0} (table : List (Text × A)) (sign left : Text) (x : A) → falls table ≡ true → entry table sign ≡ Some x → Begun table (sign ++ left) sign x
entry-begun [] sign left x fall is = absurd (cc)
entry-begun {A} (h ∷ es) sign left x fall is = by_head (entry-begun es sign left x (both (list_all (λ (o : Text × A). nat_le (length o.0) (length h.0)) es) (falls es) fall).1) (bytes_eq h.0 (take (length h.0) (sign ++ left))) refl (bytes_eq h.0 sign) refl is where
  parts : (list_all (λ (o : Text × A). nat_le (length o.0) (length h.0)) es ≡ true) × (falls es ≡ true)
  parts = both (list_all (λ (o : Text × A). nat_le (length o.0) (length h.0)) es) (falls es) fall

  by_head : (entry es sign ≡ Some x → Begun es (sign ++ left) sign x) → (b : Bool) → bytes_eq h.0 (take (length h.0) (sign ++ left)) ≡ b → (c : Bool) → bytes_eq h.0 sign ≡ c → cond c (Some h.1) (entry es sign) ≡ Some x → Begun (h ∷ es) (sign ++ left) sign x
  by_head later true begins true first found =
      let value : h.1 ≡ x = cc in
      record { text = h.0; value = h.1; is = rw begins refl; reach = omega (arith, ap length (same_bytes h.0 sign first)); same = λ _. value }
  by_head later true begins false first found =
      let shorter : nat_le (length sign) (length h.0) ≡ true = entry_passes (λ (o : Text × A). nat_le (length o.0) (length h.0)) es sign x parts.0 found in
      record {
        text = h.0;
        value = h.1;
        is = rw begins refl;
        reach = grind (arith, shorter);
        same = λ e.
            let front : take (length h.0) (sign ++ left) ≡ sign = take_at sign left (length h.0) e in
            let yes = chosen h.0 sign (same_bytes h.0 _ begins ∙ front) in
            absurd (cc);
      }
  by_head later false begins true first found =
      let texts : h.0 ≡ sign = same_bytes h.0 sign first in
      let front : take (length h.0) (sign ++ left) ≡ sign = take_at sign left (length h.0) (sym (ap length texts)) in
      let yes = chosen h.0 (take (length h.0) (sign ++ left)) (texts ∙ sym front) in
      absurd (cc)
  by_head later false begins false first found =
      let more = later found in
      record { text = more.text; value = more.value; is = rw begins more.is; reach = more.reach; same = more.same }

pub sign_begun : (sign left : Text) (x : Sign) → entry signs sign ≡ Some x → Begun signs (sign ++ left) sign x
sign_begun sign left x is = entry-begun signs sign left x signs_fall is
