-- Bytes of readers and writers that tell what they have, piece by piece.
use Rattle.std.proofs.Common.{◌≡◌, ℕ, zero, suc, ◌+◌, ◌≤◌, List, [], ◌∷◌, ◌++◌, length, take, drop, Option, Some, None, refl, sym, ◌∙◌, ap, subst, arith}
use Rattle.std.specs.Prelude.{IfSome}
use Rattle.std.specs.Io.KnownBytes.{Appends, Consumes, IsAtEnd, Keeps}
use Rattle.real_files.specs.Outside.{AppendsFront}
use Rattle.std.proofs.lemmas.List.{append-nil, append_assoc, length-drop, take-append-drop}
use Rattle.std.proofs.Math.Seq.{take-nil, take-append_seam}

-- ---- reading

pub consumes_none : (a : Option (List ℕ)) → Consumes a a []
consumes_none None = tt
consumes_none (Some xs) = refl

pub consumes_more : (a b c : Option (List ℕ)) (xs ys : List ℕ) → Consumes a b xs → Consumes b c ys → Consumes a c (xs ++ ys)
consumes_more None b c xs ys h k = tt
consumes_more (Some a) None c xs ys h k = absurd h
consumes_more (Some a) (Some b) None xs ys h k = absurd k
consumes_more (Some a) (Some b) (Some c) xs ys h k = h ∙ ap (λ (l : List ℕ). xs ++ l) k ∙ sym (append_assoc xs ys c)

take_all : (n : ℕ) (l : List ℕ) → length l ≤ n → take n l ≡ l
take_all n [] few = take-nil n
take_all zero (x ∷ l) few = absurd (omega arith)
take_all (suc n) (x ∷ l) few = ap (λ (r : List ℕ). x ∷ r) (take_all n l (omega arith))

pub front_full : (a b : Option (List ℕ)) (xs : List ℕ) (most : ℕ) → Consumes a b xs → length xs ≡ most → IfSome a (λ whole. xs ≡ take most whole)
front_full None b xs most h e = tt
front_full (Some a) None xs most h e = absurd h
front_full (Some a) (Some b) xs most h e =
    sym (ap (λ (l : List ℕ). take most l) h ∙ subst (λ (n : ℕ). take n (xs ++ b) ≡ xs) e (take-append_seam xs b))

pub front_end : (a b : Option (List ℕ)) (xs : List ℕ) (most : ℕ) → Consumes a b xs → IsAtEnd b → length xs ≤ most → IfSome a (λ whole. xs ≡ take most whole)
front_end None b xs most h e few = tt
front_end (Some a) None xs most h e few = absurd h
front_end (Some a) (Some b) xs most h e few =
    let whole : a ≡ xs = h ∙ ap (λ (l : List ℕ). xs ++ l) e ∙ append-nil xs in
    sym (ap (λ (l : List ℕ). take most l) whole ∙ take_all most xs few)

-- ---- writing

pub appends_none : (a : Option (List ℕ)) → Appends a a []
appends_none None = tt
appends_none (Some xs) = sym (append-nil xs)

pub appends_more : (a b c : Option (List ℕ)) (xs ys : List ℕ) → Appends a b xs → Appends b c ys → Appends a c (xs ++ ys)
appends_more None b c xs ys h k = tt
appends_more (Some a) None c xs ys h k = absurd h
appends_more (Some a) (Some b) None xs ys h k = absurd k
appends_more (Some a) (Some b) (Some c) xs ys h k = k ∙ ap (λ (l : List ℕ). l ++ ys) h ∙ append_assoc a xs ys

pub appends_kept : (a b c : Option (List ℕ)) (xs : List ℕ) → Appends a b xs → Keeps b c → Appends a c xs
appends_kept None b c xs h k = tt
appends_kept (Some a) None c xs h k = absurd h
appends_kept (Some a) (Some b) None xs h k = absurd k
appends_kept (Some a) (Some b) (Some c) xs h k = k ∙ h

-- a piece of which a front is written, and the rest is not
pub record Wrote (old now : Option (List ℕ)) (piece rest : List ℕ) : Type 0 where
  pub done : List ℕ
  pub split : piece ≡ done ++ rest
  pub written : Appends old now done

pub wrote_none : (a : Option (List ℕ)) (piece : List ℕ) → Wrote a a piece piece
wrote_none a piece = record { done = []; split = refl; written = appends_none a }

pub wrote_more : (a b c : Option (List ℕ)) (piece rest : List ℕ) (n : ℕ) → Wrote a b piece rest → Appends b c (take n rest) → Wrote a c piece (drop n rest)
wrote_more a b c piece rest n w h = record {
  done = w.done ++ take n rest;
  split = w.split ∙ ap (λ (l : List ℕ). w.done ++ l) (sym (take-append-drop n rest)) ∙ sym (append_assoc w.done (take n rest) (drop n rest));
  written = appends_more a b c w.done (take n rest) w.written h;
}

-- the same where what is left is cut to its length
pub wrote_rest : (a b c : Option (List ℕ)) (piece rest : List ℕ) (n m : ℕ) → Wrote a b piece rest → Appends b c (take n rest) → length rest ≤ n + m → Wrote a c piece (take m (drop n rest))
wrote_rest a b c piece rest n m w h few =
    let left : length (drop n rest) ≤ m = subst (λ (k : ℕ). k ≤ m) (sym (length-drop n rest)) (omega arith) in
    subst (λ (l : List ℕ). Wrote a c piece l) (sym (take_all m (drop n rest) left)) (wrote_more a b c piece rest n w h)

pub wrote_kept : (a b c : Option (List ℕ)) (piece rest : List ℕ) → Wrote a b piece rest → Keeps b c → Wrote a c piece rest
wrote_kept a b c piece rest w k = record { done = w.done; split = w.split; written = appends_kept a b c w.done w.written k }

pub wrote_front : (a b : Option (List ℕ)) (piece rest : List ℕ) → Wrote a b piece rest → AppendsFront a b piece
wrote_front a b piece rest w = record {
  count = length w.done;
  appended = subst (λ (l : List ℕ). Appends a b l) (sym (ap (λ (l : List ℕ). take (length w.done) l) w.split ∙ take-append_seam w.done rest)) w.written;
}

pub wrote_all : (a b : Option (List ℕ)) (piece rest : List ℕ) → Wrote a b piece rest → rest ≡ [] → Appends a b piece
wrote_all a b piece rest w e = subst (λ (l : List ℕ). Appends a b l) (sym (w.split ∙ ap (λ (l : List ℕ). w.done ++ l) e ∙ append-nil w.done)) w.written

pub front_kept : (a b c : Option (List ℕ)) (piece : List ℕ) → AppendsFront a b piece → Keeps b c → AppendsFront a c piece
front_kept a b c piece f k = record { count = f.count; appended = appends_kept a b c (take f.count piece) f.appended k }
