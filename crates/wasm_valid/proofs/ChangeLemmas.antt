-- Steps on what is known of the innermost sequence.
use Rattle.std.proofs.Common.{◌≡◌, ◌<◌, ◌≤◌, ◌+◌, ℕ, List, [], ◌∷◌, length, get_or, take, drop, Option, Some, None, Bool, true, false, refl, sym, ap, ◌∙◌, subst, arith, drop-cons, add-one}
use Rattle.std.specs.Prelude.{reverse}
use Rattle.std.specs.Option.{option_and_then, option_map}
use Rattle.std.proofs.lemmas.List.{reverse-append, take_more, drop_all}
use Rattle.wasm_tree.specs.declared.module.ValType.{ValType}
use Rattle.wasm_tree.specs.declared.module.ValType.TheVariants.{I32}
use Rattle.wasm_tree.specs.Typed.{result_types}
use Rattle.wasm_valid.specs.Checking.{Known, Sequence, unreached, with_known, some_if, may_be, take_one, take_all, put_one, put_all, take_any, takes, ends, joined, drops, selects}
use Rattle.wasm_valid.specs.Frames.{TookAny, HasNone, with_one, with_all, with_none, changed, Tells}

-- taking one of a type is taking any, and the test
one_by_any : (type : ValType) (dead : Bool) (ks : List (Option ValType)) → take_one type (record { dead = dead; types = ks }) ≡ option_and_then (λ taken. some_if (may_be taken.0 type) taken.1) (take_any (record { dead = dead; types = ks }))
unfolding take_one take_any
one_by_any type true [] = refl
one_by_any type false [] = refl
one_by_any type dead (k ∷ ks) = refl

one_is : (ss after : List Sequence) (t : Option ValType) (type : ValType) → TookAny ss t after → changed (take_one type) ss ≡ some_if (may_be t type) after
one_is [] after t type h = absurd h
one_is (s ∷ ss) after t type h =
    ap (λ o. option_map (λ known. with_known known s ∷ ss) o) (one_by_any type s.known.dead s.known.types ∙ ap (option_and_then (λ (taken : Option ValType × Known). some_if (may_be taken.0 type) taken.1)) h.1)
    ∙ (at (may_be t type) ∙ ap (some_if (may_be t type)) (sym h.2))
  where
    at : (b : Bool) → option_map (λ known. with_known known s ∷ ss) (some_if b h.0) ≡ some_if b (with_known h.0 s ∷ ss)
    at true = refl
    at false = refl

pub one_took : (ss after : List Sequence) (t : Option ValType) (type : ValType) (b : Bool) → TookAny ss t after → b ≡ may_be t type → Tells b (changed (take_one type) ss) after
one_took ss after t type true h e = one_is ss after t type h ∙ ap (λ b. some_if b after) (sym e)
one_took ss after t type false h e = one_is ss after t type h ∙ ap (λ b. some_if b after) (sym e)

pub one_other : (ss after : List Sequence) (t : Option ValType) (type : ValType) → TookAny ss t after → may_be t type ≡ false → changed (take_one type) ss ≡ None
one_other ss after t type h e = one_is ss after t type h ∙ ap (λ b. some_if b after) e

pub one_lacks : (ss : List Sequence) (type : ValType) → HasNone ss → changed (take_one type) ss ≡ None
one_lacks [] type h = refl
one_lacks (s ∷ ss) type h =
    ap (λ o. option_map (λ known. with_known known s ∷ ss) o) (one_by_any type s.known.dead s.known.types ∙ ap (option_and_then (λ (taken : Option ValType × Known). some_if (may_be taken.0 type) taken.1)) h)

-- ---- several

all_first : (ss : List Sequence) (type : ValType) (types : List ValType) → changed (take_all (type ∷ types)) ss ≡ option_and_then (changed (take_all types)) (changed (take_one type) ss)
unfolding take_all
all_first [] type types = refl
all_first (s ∷ ss) type types = at (take_one type s.known)
  where
    at : (o : Option Known) → option_map (λ known. with_known known s ∷ ss) (option_and_then (take_all types) o) ≡ option_and_then (changed (take_all types)) (option_map (λ known. with_known known s ∷ ss) o)
    at None = refl
    at (Some k) = refl

dropped : (types : List ValType) (i : ℕ) (d : ValType) → i < length types → drop i types ≡ get_or types i d ∷ drop (i + 1) types
dropped types i d lt = drop-cons types i d lt ∙ ap (λ (n : ℕ). get_or types i d ∷ drop n types) (sym (add-one i))

all_none : (ss : List Sequence) → 0 < length ss → changed (take_all []) ss ≡ Some ss
unfolding take_all
all_none [] some = absurd (omega (arith, some))
all_none (s ∷ ss) some = refl

pub all_begin : (ss : List Sequence) (types : List ValType) (i : ℕ) → length types ≤ i → 0 < length ss → changed (take_all (drop i types)) ss ≡ Some ss
all_begin ss types i le some = ap (λ l. changed (take_all l) ss) (drop_all i types le) ∙ all_none ss some

pub all_back_begin : (ss : List Sequence) (types : List ValType) (n : ℕ) → n ≡ 0 → 0 < length ss → changed (take_all (reverse (take n types))) ss ≡ Some ss
all_back_begin ss types n e some = ap (λ (k : ℕ). changed (take_all (reverse (take k types))) ss) e ∙ all_none ss some

pub all_more : (ss next : List Sequence) (types : List ValType) (i : ℕ) (d : ValType) → i < length types → changed (take_one (get_or types i d)) ss ≡ Some next → changed (take_all (drop (i + 1) types)) next ≡ changed (take_all (drop i types)) ss
all_more ss next types i d lt e =
    sym (ap (λ l. changed (take_all l) ss) (dropped types i d lt) ∙ (all_first ss (get_or types i d) (drop (i + 1) types) ∙ ap (option_and_then (changed (take_all (drop (i + 1) types)))) e))

pub all_other : (ss : List Sequence) (types : List ValType) (i : ℕ) (d : ValType) → i < length types → changed (take_one (get_or types i d)) ss ≡ None → changed (take_all (drop i types)) ss ≡ None
all_other ss types i d lt e =
    ap (λ l. changed (take_all l) ss) (dropped types i d lt) ∙ (all_first ss (get_or types i d) (drop (i + 1) types) ∙ ap (option_and_then (changed (take_all (drop (i + 1) types)))) e)

-- ---- and what follows

put_after : (ss after : List Sequence) (ins outs : List ValType) → changed (take_all ins) ss ≡ Some after → changed (takes ins outs) ss ≡ Some (with_all outs after)
put_after [] after ins outs e = absurd cc
put_after (s ∷ ss) after ins outs e = at (take_all ins s.known) e
  where
    at : (o : Option Known) → option_map (λ known. with_known known s ∷ ss) o ≡ Some after → option_map (λ known. with_known known s ∷ ss) (option_map (put_all outs) o) ≡ Some (with_all outs after)
    at None e = absurd cc
    at (Some k) e = let is : with_known k s ∷ ss ≡ after = cc e in ap (λ l. Some (with_all outs l)) is

fails_after : (ss : List Sequence) (ins : List ValType) (f : Known → Known) → changed (take_all ins) ss ≡ None → changed (λ known. option_map f (take_all ins known)) ss ≡ None
fails_after [] ins f e = refl
fails_after (s ∷ ss) ins f e = at (take_all ins s.known) e
  where
    at : (o : Option Known) → option_map (λ known. with_known known s ∷ ss) o ≡ None → option_map (λ known. with_known known s ∷ ss) (option_map f o) ≡ None
    at None e = refl
    at (Some k) e = absurd cc

with_all_none : (ss : List Sequence) → with_all [] ss ≡ ss
with_all_none [] = refl
with_all_none (s ∷ ss) = refl

pub takes_none : (ss after : List Sequence) (ins : List ValType) → changed (take_all ins) ss ≡ Some after → changed (takes ins []) ss ≡ Some after
takes_none ss after ins e = put_after ss after ins [] e ∙ ap (λ (l : List Sequence). Some l) (with_all_none after)

with_all_one : (ss : List Sequence) (t : ValType) → with_all (t ∷ []) ss ≡ with_one (Some t) ss
with_all_one [] t = refl
with_all_one (s ∷ ss) t = refl

pub takes_some : (ss after : List Sequence) (ins : List ValType) (gives : Option ValType) (t : ValType) → changed (take_all ins) ss ≡ Some after → gives ≡ Some t → changed (takes ins (result_types gives)) ss ≡ Some (with_one gives after)
takes_some ss after ins gives t e g =
    subst (λ (o : Option ValType). changed (takes ins (result_types o)) ss ≡ Some (with_one o after)) (sym g) (put_after ss after ins (t ∷ []) e ∙ ap (λ (l : List Sequence). Some l) (with_all_one after t))

pub takes_other : (ss : List Sequence) (ins outs : List ValType) → changed (take_all ins) ss ≡ None → changed (takes ins outs) ss ≡ None
takes_other ss ins outs e = fails_after ss ins (put_all outs) e

pub ends_here : (ss after : List Sequence) (ins : List ValType) → changed (take_all ins) ss ≡ Some after → changed (ends ins) ss ≡ Some (with_none after)
ends_here [] after ins e = absurd cc
ends_here (s ∷ ss) after ins e = at (take_all ins s.known) e
  where
    at : (o : Option Known) → option_map (λ known. with_known known s ∷ ss) o ≡ Some after → option_map (λ known. with_known known s ∷ ss) (option_map (λ k. unreached) o) ≡ Some (with_none after)
    at None e = absurd cc
    at (Some k) e = let is : with_known k s ∷ ss ≡ after = cc e in ap (λ l. Some (with_none l)) is

pub ends_other : (ss : List Sequence) (ins : List ValType) → changed (take_all ins) ss ≡ None → changed (ends ins) ss ≡ None
ends_other ss ins e = fails_after ss ins (λ k. unreached) e

pub drops_one : (ss after : List Sequence) (t : Option ValType) → TookAny ss t after → changed drops ss ≡ Some after
drops_one [] after t h = absurd h
drops_one (s ∷ ss) after t h =
    ap (λ o. option_map (λ known. with_known known s ∷ ss) (option_map (λ (taken : Option ValType × Known). taken.1) o)) h.1 ∙ ap (λ (l : List Sequence). Some l) (sym h.2)

pub drops_none : (ss : List Sequence) → HasNone ss → changed drops ss ≡ None
drops_none [] h = refl
drops_none (s ∷ ss) h = ap (λ o. option_map (λ known. with_known known s ∷ ss) (option_map (λ (taken : Option ValType × Known). taken.1) o)) h

-- ---- a choice

-- an i32 and two operands were taken, and what is known of either of the two is this
pub selected : (ss one two three : List Sequence) (a b t : Option ValType) → changed (take_one I32) ss ≡ Some one → TookAny one b two → TookAny two a three → joined a b ≡ Some t → changed selects ss ≡ Some (with_one t three)
selected [] one two three a b t e eb ea et = absurd cc
selected (s ∷ ss) one two three a b t e eb ea et = at (take_one I32 s.known) refl e
  where
    last : (k : Known) → one ≡ with_known k s ∷ ss → take_one I32 s.known ≡ Some k → changed selects (s ∷ ss) ≡ Some (with_one t three)
    last k is ek =
        let b1 = subst (λ l. TookAny l b two) is eb in
        let a1 = subst (λ l. TookAny l a three) b1.2 ea in
        let known : selects s.known ≡ Some (put_one t a1.0) = rw (ek, b1.1, a1.1, et) refl in
        ap (λ o. option_map (λ known. with_known known s ∷ ss) o) known ∙ ap (λ l. Some (with_one t l)) (sym a1.2)

    at : (o : Option Known) → take_one I32 s.known ≡ o → option_map (λ known. with_known known s ∷ ss) o ≡ Some one → changed selects (s ∷ ss) ≡ Some (with_one t three)
    at None ek e = absurd cc
    at (Some k) ek e = last k (sym (cc e)) ek

pub select_lacks : (ss : List Sequence) → changed (take_one I32) ss ≡ None → changed selects ss ≡ None
select_lacks [] e = refl
select_lacks (s ∷ ss) e = at (take_one I32 s.known) refl e
  where
    at : (o : Option Known) → take_one I32 s.known ≡ o → option_map (λ known. with_known known s ∷ ss) o ≡ None → changed selects (s ∷ ss) ≡ None
    at None ek e = let known : selects s.known ≡ None = rw ek refl in ap (λ o. option_map (λ known. with_known known s ∷ ss) o) known
    at (Some k) ek e = absurd cc

pub select_lacks_second : (ss one : List Sequence) → changed (take_one I32) ss ≡ Some one → HasNone one → changed selects ss ≡ None
select_lacks_second [] one e n = refl
select_lacks_second (s ∷ ss) one e n = at (take_one I32 s.known) refl e
  where
    at : (o : Option Known) → take_one I32 s.known ≡ o → option_map (λ known. with_known known s ∷ ss) o ≡ Some one → changed selects (s ∷ ss) ≡ None
    at None ek e = absurd cc
    at (Some k) ek e =
        let is : one ≡ with_known k s ∷ ss = sym (cc e) in
        let n1 : take_any k ≡ None = subst HasNone is n in
        let known : selects s.known ≡ None = rw (ek, n1) refl in
        ap (λ o. option_map (λ known. with_known known s ∷ ss) o) known

pub select_lacks_first : (ss one two : List Sequence) (b : Option ValType) → changed (take_one I32) ss ≡ Some one → TookAny one b two → HasNone two → changed selects ss ≡ None
select_lacks_first [] one two b e eb n = refl
select_lacks_first (s ∷ ss) one two b e eb n = at (take_one I32 s.known) refl e
  where
    last : (k : Known) → one ≡ with_known k s ∷ ss → take_one I32 s.known ≡ Some k → changed selects (s ∷ ss) ≡ None
    last k is ek =
        let b1 = subst (λ l. TookAny l b two) is eb in
        let n1 : take_any b1.0 ≡ None = subst HasNone b1.2 n in
        let known : selects s.known ≡ None = rw (ek, b1.1, n1) refl in
        ap (λ o. option_map (λ known. with_known known s ∷ ss) o) known

    at : (o : Option Known) → take_one I32 s.known ≡ o → option_map (λ known. with_known known s ∷ ss) o ≡ Some one → changed selects (s ∷ ss) ≡ None
    at None ek e = absurd cc
    at (Some k) ek e = last k (sym (cc e)) ek

pub select_differs : (ss one two three : List Sequence) (a b : Option ValType) → changed (take_one I32) ss ≡ Some one → TookAny one b two → TookAny two a three → joined a b ≡ None → changed selects ss ≡ None
select_differs [] one two three a b e eb ea et = refl
select_differs (s ∷ ss) one two three a b e eb ea et = at (take_one I32 s.known) refl e
  where
    last : (k : Known) → one ≡ with_known k s ∷ ss → take_one I32 s.known ≡ Some k → changed selects (s ∷ ss) ≡ None
    last k is ek =
        let b1 = subst (λ l. TookAny l b two) is eb in
        let a1 = subst (λ l. TookAny l a three) b1.2 ea in
        let known : selects s.known ≡ None = rw (ek, b1.1, a1.1, et) refl in
        ap (λ o. option_map (λ known. with_known known s ∷ ss) o) known

    at : (o : Option Known) → take_one I32 s.known ≡ o → option_map (λ known. with_known known s ∷ ss) o ≡ Some one → changed selects (s ∷ ss) ≡ None
    at None ek e = absurd cc
    at (Some k) ek e = last k (sym (cc e)) ek

-- ---- calls

-- the parameters from the last to the first
last_of : (types : List ValType) (n : ℕ) (d : ValType) → n < length types → reverse (take (n + 1) types) ≡ get_or types n d ∷ reverse (take n types)
last_of types n d lt = ap reverse (take_more types n d lt) ∙ reverse-append (take n types) (get_or types n d ∷ [])

pub all_back : (ss next : List Sequence) (types : List ValType) (n : ℕ) (d : ValType) → n < length types → changed (take_one (get_or types n d)) ss ≡ Some next → changed (take_all (reverse (take n types))) next ≡ changed (take_all (reverse (take (n + 1) types))) ss
all_back ss next types n d lt e =
    sym (ap (λ l. changed (take_all l) ss) (last_of types n d lt) ∙ (all_first ss (get_or types n d) (reverse (take n types)) ∙ ap (option_and_then (changed (take_all (reverse (take n types))))) e))

pub other_back : (ss : List Sequence) (types : List ValType) (n : ℕ) (d : ValType) → n < length types → changed (take_one (get_or types n d)) ss ≡ None → changed (take_all (reverse (take (n + 1) types))) ss ≡ None
other_back ss types n d lt e =
    ap (λ l. changed (take_all l) ss) (last_of types n d lt) ∙ (all_first ss (get_or types n d) (reverse (take n types)) ∙ ap (option_and_then (changed (take_all (reverse (take n types))))) e)

pub put_begin : (ss : List Sequence) → with_all (reverse (take 0 [])) ss ≡ ss
put_begin ss = with_all_none ss

pub put_more : (ss : List Sequence) (types : List ValType) (n : ℕ) (d : ValType) → n < length types → with_one (Some (get_or types n d)) (with_all (reverse (take n types)) ss) ≡ with_all (reverse (take (n + 1) types)) ss
put_more [] types n d lt = refl
put_more (s ∷ ss) types n d lt = ap (λ l. with_all l (s ∷ ss)) (sym (last_of types n d lt))

pub calls_after : (ss after : List Sequence) (ins outs : List ValType) → changed (take_all ins) ss ≡ Some after → changed (takes ins outs) ss ≡ Some (with_all outs after)
calls_after ss after ins outs e = put_after ss after ins outs e
