-- Sections, one behind another: what is read of them is spelled and in order, what is spelled is read again, and where
-- one isn't read, a rule fails there.
use Rattle.std.proofs.Common.{◌≡◌, ℕ, zero, suc, ◌≤◌, ◌<◌, Bool, true, false, not, cond, eqb, leb, eq-eqb, List, [], ◌∷◌, ◌++◌, length, get_or, Option, Some, None, refl, sym, ap, subst, ◌∙◌, append_assoc, arith, ◌⊎◌, inl, inr, Result, Ok, Err}
use Rattle.std.specs.Prelude.{◌||◌, Contains, filter, MatchOption}
use Rattle.std.specs.List.{list_all}
use Rattle.std.proofs.lemmas.Bool.{ne_eqb, leb-true}
use Rattle.std.proofs.lemmas.Bool.Decides.{nat_tests}
use Rattle.std.proofs.lemmas.List.{append-nil, length-append}
use Rattle.wasm_tree.specs.declared.module.Custom.{Custom}
use Rattle.wasm_tree.specs.Spelled.{Joined, Begins, Each, Vector, Raw, ids, InOrder, contents_of, Lists, CustomsAre, is_cmajor, Sized, RawSection, Custom_contents}
use Rattle.wasm_reader.specs.declared.section.Found.{Found}
use Rattle.wasm_reader.specs.Reading.{with_custom, behind_id, ◌>>=◌, at, Reader, Others, custom_at, vector_at, filled_at, choice, customs_at, listed_at, with_others, section_at, section_then, last_at}
use Rattle.wasm_reader.proofs.Readers.{both_true, begins_with, Taken, Broken, Reads, assoc, broken-as, fills}
use Rattle.wasm_tree.specs.declared.failure.ModuleRule.{ModuleRule}
use Rattle.wasm_tree.specs.declared.failure.ModuleRule.TheVariants as rule
use Rattle.wasm_reader.specs.declared.fault.Fault.{Fault}
use Rattle.wasm_reader.specs.Fault.{NoVector, NoneSized, NoName, OfKind, Holds, AllHold, last_id, MayFollow, NoContents, NoSection}
use Rattle.wasm_reader.proofs.Ends.{Ends, with_value, with_fault, step, step_in, regroup, weaker}
use Rattle.wasm_reader.proofs.Parts.{vector-reads, filled-reads, custom-fills}

-- ---- the custom sections found so far, and those to come

abbrev pub total : Found → List Custom → List Custom
total found customs = (found.others ++ filter (λ custom. not (is_cmajor custom.name)) customs) ++ (found.named ++ filter (λ custom. is_cmajor custom.name) customs)

total-by : (b : Bool) (others named cs ds : List Custom) (c : Custom) →
    let g : Found = cond b (record { others = others; named = named ++ c ∷ [] }) (record { others = others ++ c ∷ []; named = named }) in
    (g.others ++ cs) ++ (g.named ++ ds) ≡ (others ++ cond (not b) (c ∷ cs) cs) ++ (named ++ cond b (c ∷ ds) ds)
total-by true others named cs ds c = ap (λ (l : List Custom). (others ++ cs) ++ l) (append_assoc named (c ∷ []) ds)
total-by false others named cs ds c = ap (λ (l : List Custom). l ++ (named ++ ds)) (append_assoc others (c ∷ []) cs)

-- one more custom section found is one fewer to come
pub total-with : (found : Found) (c : Custom) (cs : List Custom) → total (with_custom c found) cs ≡ total found (c ∷ cs)
total-with found c cs =
    total-by (is_cmajor c.name) found.others found.named (filter (λ custom. not (is_cmajor custom.name)) cs) (filter (λ custom. is_cmajor custom.name) cs) c

-- nothing was found
abbrev pub begin : Found
begin = record { others = []; named = [] }

-- with none to come, the custom sections are those found
pub unfiltered : (g : Found) → total g [] ≡ g.others ++ g.named
unfiltered g = rw (append-nil g.others, append-nil g.named) refl

-- ---- one list behind another

-- what is spelled stands behind what is spelled
pub each-append : {A : Type 0} (P : A → List ℕ → Type 0) (xs ys : List A) (a b : List ℕ) → Each P xs a → Each P ys b → Each P (xs ++ ys) (a ++ b)
each-append P [] ys a b h k = subst (λ (l : List ℕ). Each P ys (l ++ b)) (sym h) k
each-append P (x ∷ xs) ys a b h k =
    record { front = h.front; back = h.back ++ b; whole = ap (λ (l : List ℕ). l ++ b) h.whole ∙ append_assoc h.front h.back b; first = h.first; second = each-append P xs ys h.back b h.second k }

-- a section that is no custom one adds no custom section
pub skips : (raw : Raw) (more : List Raw) (cs : List Custom) → 0 < raw.id → CustomsAre more cs → CustomsAre (raw ∷ more) cs
skips raw more [] some h = (some, h)
skips raw more (c ∷ cs) some h = inr (some, h)

pub unskipped : (raw : Raw) (raws : List Raw) (customs : List Custom) → 0 < raw.id → CustomsAre (raw ∷ raws) customs → CustomsAre raws customs
unskipped raw raws [] some h = h.1
unskipped raw raws (c ∷ customs) some (inl h) = absurd (omega (arith, h.0))
unskipped raw raws (c ∷ customs) some (inr h) = h.1

-- ---- the sections with an id

-- a section with another id is passed over
pub passed_over : (j : ℕ) (raw : Raw) (raws : List Raw) → (raw.id ≡ j → ⊥) → contents_of j (raw ∷ raws) ≡ contents_of j raws
passed_over j raw raws e = rw (ne_eqb raw.id j e) refl

-- a section with the id is the first that has it
pub found_here : (j : ℕ) (raw : Raw) (raws : List Raw) → raw.id ≡ j → contents_of j (raw ∷ raws) ≡ Some raw.contents
found_here j raw raws e = rw (eq-eqb raw.id j e) refl

-- an id up to the last one before is not among the sections behind it
pub none_below : (b j : ℕ) (raws : List Raw) → InOrder b raws → 0 < j → j ≤ b → contents_of j raws ≡ None
none_below b j [] h some le = refl
none_below b j (raw ∷ raws) (inl h) some le =
    let apart : raw.id ≡ j → ⊥ = λ (e : raw.id ≡ j). absurd (omega (arith, h.0)) in
    rw (ne_eqb raw.id j apart) (none_below b j raws h.1 some le)
none_below b j (raw ∷ raws) (inr h) some le =
    let apart : raw.id ≡ j → ⊥ = λ (e : raw.id ≡ j). absurd (omega (arith, h.0)) in
    rw (ne_eqb raw.id j apart) (none_below raw.id j raws h.2 some (omega (arith, h.0)))

-- what a section lists, by what its contents are
pub lists-by : {A : Type 0} (P : A → List ℕ → Type 0) (id : ℕ) (raws : List Raw) (xs : List A) (o : Option (List ℕ)) → contents_of id raws ≡ o → MatchOption o (xs ≡ []) (Vector P xs) → Lists P id raws xs
lists-by P id raws xs o e h = subst (λ (o : Option (List ℕ)). MatchOption o (xs ≡ []) (Vector P xs)) (sym e) h

or_true : (a b : Bool) → (a || b) ≡ true → (a ≡ true) ⊎ (b ≡ true)
or_true true b e = inl refl
or_true false b e = inr e

-- the ids of a list, by a test of each
pub tested : (p : ℕ → Bool) (xs : List ℕ) (k x : ℕ) → list_all p xs ≡ true → k < length xs → get_or xs k x ≡ x → p x ≡ true
tested p [] k x e lt is = absurd (omega arith)
tested p (y ∷ ys) zero x e lt is = subst (λ (z : ℕ). p z ≡ true) is (both_true (p y) (list_all p ys) e).0
tested p (y ∷ ys) (suc k) x e lt is = tested p ys k x (both_true (p y) (list_all p ys) e).1 (omega arith) is

-- no id of the subset lies between these
abbrev pub AreNext : ℕ → ℕ → Type 0
AreNext b id = list_all (λ y. leb y b || leb id y) ids ≡ true

-- the next id above b is at least this one
pub next_id : (b id x : ℕ) → AreNext b id → Contains ids x → b < x → id ≤ x
next_id b id x e c lt =
    elim (or_true (leb x b) (leb id x) (tested (λ y. leb y b || leb id y) ids c.0 x e c.1 c.2)) [
      | inl h ↦ absurd (omega (arith, leb-true x b h))
      | inr h ↦ leb-true id x h
    ]

-- ---- the byte before a section

-- where bytes are found behind an id, it is the first byte
pub behind-found : (id : ℕ) (bytes contents : List ℕ) → behind_id id bytes ≡ Some contents → bytes ≡ id ∷ contents
unfolding behind_id
behind-found id [] contents e = absurd cc
behind-found id (b ∷ bytes) contents e = grind (arith, nat_tests)

-- behind the id that is the first byte, the others stand
pub behind-here : (id : ℕ) (contents : List ℕ) → behind_id id (id ∷ contents) ≡ Some contents
unfolding behind_id
behind-here id contents = rw (eq-eqb id id refl) refl

-- behind another first byte nothing is found
pub behind-other : (id b : ℕ) (bytes : List ℕ) → (b ≡ id → ⊥) → behind_id id (b ∷ bytes) ≡ None
unfolding behind_id
behind-other id b bytes apart = rw (ne_eqb b id apart) refl

-- behind no byte nothing is found
pub behind-none : (id : ℕ) → behind_id id [] ≡ None
unfolding behind_id
behind-none id = refl

-- where nothing is found behind an id, the first byte is another
pub none-first : {id b : ℕ} {bytes more : List ℕ} → behind_id id bytes ≡ None → bytes ≡ b ∷ more → b ≡ id → ⊥
none-first {id} {b} {bytes} {more} e w is =
    let here : behind_id id bytes ≡ Some more = ap (behind_id id) (w ∙ ap (λ (x : ℕ). x ∷ more) is) ∙ behind-here id more in
    absurd (cc (here, e))

-- the first section, as its id and what stands behind it
pub first_is : {id : ℕ} {P Q : List ℕ → Type 0} {bytes : List ℕ} (j : Joined (Begins id P) Q bytes) → (text : List ℕ) × (bytes ≡ id ∷ (text ++ j.back)) × P text
first_is j = (j.first.back, j.whole ∙ ap (λ (l : List ℕ). l ++ j.back) (begins_with j.first), j.first.second)

-- all sections of the bytes, behind this id: what they list, and the custom ones, behind those found before
pub record All {B : Type 0} (L : B → List Raw → Type 0) (b : ℕ) (found : Found) (bytes : List ℕ) (y : B × List Custom) : Type 0 where
  pub raws : List Raw
  pub customs : List Custom
  pub each : Each RawSection raws bytes
  pub order : InOrder b raws
  pub are : CustomsAre raws customs
  pub lists : L y.0 raws
  pub sorted : y.1 ≡ total found customs

-- behind sections in order that hold what they may, the next one fails
abbrev pub NoSections : ℕ → ModuleRule → ℕ → List ℕ → Type 0
NoSections b r left bytes = (raws : List Raw) × InOrder b raws × AllHold raws × Joined (Each RawSection raws) (NoSection (last_id b raws) r left) bytes

abbrev pub AllEnds : {B : Type 0} → (B → List Raw → Type 0) → ℕ → Found → List ℕ → Result (B × List Custom) Fault → Type 0
AllEnds L b found bytes r = Ends (All L b found bytes) (Broken (NoSections b) bytes) r

-- reading all sections behind an id; what they list depends on the higher ids alone
pub record Chain {B : Type 0} (L : B → List Raw → Type 0) (b : ℕ) (k : Others B) : Type 0 where
  pub along : (y : B) (some more : List Raw) → ((j : ℕ) → b < j → contents_of j some ≡ contents_of j more) → L y more → L y some
  pub ends : (found : Found) (bytes : List ℕ) → AllEnds L b found bytes (k found bytes)
  pub again : (found : Found) (bytes : List ℕ) (y : B × List Custom) → All L b found bytes y → k found bytes ≡ Ok y

-- the same where no custom section begins
record Inner {B : Type 0} (L : B → List Raw → Type 0) (b : ℕ) (k : Others B) : Type 0 where
  along : (y : B) (some more : List Raw) → ((j : ℕ) → b < j → contents_of j some ≡ contents_of j more) → L y more → L y some
  ends : (found : Found) (bytes : List ℕ) → behind_id 0 bytes ≡ None → AllEnds L b found bytes (k found bytes)
  again : (found : Found) (bytes : List ℕ) (y : B × List Custom) → behind_id 0 bytes ≡ None → All L b found bytes y → k found bytes ≡ Ok y

-- ---- one section in front

-- the section whose contents behind its id were taken, and what follows it
in_front : {A : Type 0} {P : A → List ℕ → Type 0} {Q : List ℕ → Type 0} {id : ℕ} {bytes contents : List ℕ} {x : A} {rest : List ℕ} → bytes ≡ id ∷ contents → (t : Taken (λ x. Sized (P x)) contents x rest) → Q rest
    → Joined (RawSection (record { id = id; contents = t.spelled.0 })) Q bytes
in_front {id = id} {rest = rest} is t q = record { front = id ∷ t.front; back = rest; whole = is ∙ ap (λ (l : List ℕ). id ∷ l) t.whole; first = record { front = id ∷ []; back = t.front; whole = refl; first = refl; second = t.spelled.1 }; second = q }

-- a section fails behind its id
fails-here : {b id : ℕ} {bytes contents : List ℕ} {x : Fault} {F : ModuleRule → ℕ → List ℕ → Type 0} → bytes ≡ id ∷ contents → MayFollow b id → Broken F contents x → (F x.rule x.left contents → NoContents id x.rule x.left contents) → Broken (NoSections b) bytes x
fails-here {b} {bytes = bytes} {x = x} is may s to =
    record { fails = ([], tt, tt, record { front = []; back = bytes; whole = refl; first = refl; second = subst (NoSection b x.rule x.left) (sym is) (inr (may, to s.fails)) }); within = omega (arith, s.within, ap length is) }

-- a section fails behind this one
fails-behind : {A : Type 0} {P : A → List ℕ → Type 0} {b c id : ℕ} {bytes contents : List ℕ} {y : A} {rest : List ℕ} {x : Fault} → bytes ≡ id ∷ contents → (t : Taken (λ x. Sized (P x)) contents y rest) → Holds id t.spelled.0
    → ((raw : Raw) (raws : List Raw) → raw.id ≡ id → InOrder c raws → InOrder b (raw ∷ raws) × (last_id b (raw ∷ raws) ≡ last_id c raws)) → Broken (NoSections c) rest x → Broken (NoSections b) bytes x
fails-behind {id = id} {rest = rest} {x = x} is t holds follows s =
    let f = s.fails in
    let raw : Raw = record { id = id; contents = t.spelled.0 } in
    let o = follows raw f.0 refl f.1 in
    record { fails = (raw ∷ f.0, o.0, (holds, f.2), assoc (in_front is t (subst (λ (n : ℕ). Joined (Each RawSection f.0) (NoSection n x.rule x.left) rest) (sym o.1) f.3))); within = omega (arith, s.within, ap length is, ap length t.whole, length-append t.front rest) }

-- ---- custom sections

custom-reads : Reads (λ x. Sized (Custom_contents x)) (NoneSized Custom_contents NoName) (filled_at custom_at)
custom-reads = filled-reads custom-fills

-- custom sections are passed over
customs-ends : {B : Type 0} {L : B → List Raw → Type 0} {b : ℕ} {k : Others B} → Inner L b k → (n : ℕ) (found : Found) (bytes : List ℕ) → length bytes ≤ n → AllEnds L b found bytes (customs_at n found bytes >>= λ c. k c.0 c.1)
unfolding customs_at
customs-ends i zero found [] le = i.ends found [] (behind-none 0)
customs-ends i zero found (x ∷ bytes) le = absurd (omega arith)
customs-ends {B} {L} {b} {k} i (suc n) found bytes le = by (customs-ends i n) (behind_id 0 bytes) refl where
  by : ((found : Found) (bytes : List ℕ) → length bytes ≤ n → AllEnds L b found bytes (customs_at n found bytes >>= λ c. k c.0 c.1)) → (o : Option (List ℕ)) → behind_id 0 bytes ≡ o
      → AllEnds L b found bytes (choice o (Ok (found, bytes)) (λ contents. filled_at custom_at contents >>= λ c. customs_at n (with_custom c.0 found) c.1) >>= λ c. k c.0 c.1)
  by so None is = i.ends found bytes is
  by so (Some contents) is =
      let first = behind-found 0 bytes contents is in
      step_in (filled_at custom_at contents) _ _ (custom-reads.ends contents) (λ x s. fails-here first (inl refl) s (λ f. inl (refl, f))) (λ y t.
      weaker (so (with_custom y.0 found) y.1 (omega (arith, ap length first, ap length t.whole, length-append t.front y.1)))
      (λ z a. record {
        raws = (record { id = 0; contents = t.spelled.0 }) ∷ a.raws;
        customs = y.0 ∷ a.customs;
        each = in_front first t a.each;
        order = inl (refl, a.order);
        are = inl (refl, t.spelled.2, a.are);
        lists = i.along z.0 _ a.raws (λ j lt. passed_over j (record { id = 0; contents = t.spelled.0 }) a.raws (λ (e : 0 ≡ j). absurd (omega arith))) a.lists;
        sorted = a.sorted ∙ total-with found y.0 a.customs;
      })
      (λ x s. fails-behind first t (inl (refl, (y.0, t.spelled.2))) (λ raw raws e o. (inl (e, o), rw e refl)) s))

-- where none begins, none is passed over
stop : {B : Type 0} {L : B → List Raw → Type 0} {b : ℕ} {k : Others B} → Inner L b k → (n : ℕ) {found : Found} {bytes : List ℕ} {y : B × List Custom} → behind_id 0 bytes ≡ None → All L b found bytes y → (customs_at n found bytes >>= λ c. k c.0 c.1) ≡ Ok y
unfolding customs_at
stop i zero {found} {bytes} {y} clear a = i.again found bytes y clear a
stop i (suc n) {found} {bytes} {y} clear a = rw clear (i.again found bytes y clear a)

customs-again : {B : Type 0} {L : B → List Raw → Type 0} {b : ℕ} {k : Others B} → Inner L b k → (n : ℕ) (found : Found) (bytes : List ℕ) (y : B × List Custom) (raws : List Raw) (customs : List Custom) → length bytes ≤ n → Each RawSection raws bytes → InOrder b raws → CustomsAre raws customs
    → L y.0 raws → y.1 ≡ total found customs → (customs_at n found bytes >>= λ c. k c.0 c.1) ≡ Ok y
unfolding customs_at
customs-again i n found bytes y [] customs le each order are lists sorted =
    stop i n (ap (behind_id 0) each ∙ behind-none 0) (record { raws = []; customs = customs; each = each; order = order; are = are; lists = lists; sorted = sorted })
customs-again i n found bytes y (raw ∷ raws) customs le each (inr order) are lists sorted =
    let s = first_is each in
    let clear : behind_id 0 bytes ≡ None = ap (behind_id 0) s.1 ∙ behind-other 0 raw.id (s.0 ++ each.back) (λ (e : raw.id ≡ 0). absurd (omega (arith, order.0))) in
    stop i n clear (record { raws = raw ∷ raws; customs = customs; each = each; order = inr order; are = are; lists = lists; sorted = sorted })
customs-again i n found bytes y (raw ∷ raws) [] le each (inl order) are lists sorted = absurd (omega (arith, order.0, are.0))
customs-again i n found bytes y (raw ∷ raws) (c ∷ cs) le each (inl order) (inr are) lists sorted = absurd (omega (arith, order.0, are.0))
customs-again i zero found bytes y (raw ∷ raws) (c ∷ cs) le each (inl order) (inl are) lists sorted = absurd (omega (arith, ap length (first_is each).1))
customs-again i (suc n) found bytes y (raw ∷ raws) (c ∷ cs) le each (inl order) (inl are) lists sorted =
    let s = first_is each in
    let read : filled_at custom_at (s.0 ++ each.back) ≡ Ok (c, each.back) = custom-reads.again c s.0 each.back (raw.contents, s.2, are.1) in
    let kept = i.along y.0 raws (raw ∷ raws) (λ j lt. sym (passed_over j raw raws (λ (e : raw.id ≡ j). absurd (omega (arith, order.0))))) lists in
    let zero : bytes ≡ 0 ∷ (s.0 ++ each.back) = s.1 ∙ ap (λ (x : ℕ). x ∷ (s.0 ++ each.back)) order.0 in
    rw (zero, behind-here 0 (s.0 ++ each.back), read)
    (customs-again i n (with_custom c found) each.back y raws cs (omega (arith, ap length s.1, length-append s.0 each.back)) each.second order.1 are.2 kept (sorted ∙ sym (total-with found c cs)))

customs-chain : {B : Type 0} {L : B → List Raw → Type 0} {b : ℕ} {k : Others B} → Inner L b k → Chain L b (λ found bytes. customs_at (length bytes) found bytes >>= λ c. k c.0 c.1)
customs-chain i = record { along = i.along; ends = λ found bytes. customs-ends i (length bytes) found bytes (omega arith); again = λ found bytes y a. customs-again i (length bytes) found bytes y a.raws a.customs (omega arith) a.each a.order a.are a.lists a.sorted }

-- ---- the section with an id

-- what a stage of reading is: what spells an element and what fails of one, and the ids before it and of its own
pub record Stage {A : Type 0} (P : A → List ℕ → Type 0) (F : ModuleRule → ℕ → List ℕ → Type 0) (f : Reader A) (before id : ℕ) : Type 1 where
  pub reads : Reads P F f
  pub lt : before < id
  pub next : AreNext before id
  pub known : Contains ids id
  pub kind : (Q : (A : Type 0) → (A → List ℕ → Type 0) → (ModuleRule → ℕ → List ℕ → Type 0) → Type 0) → Q (List A) (Vector P) (NoVector P F) → OfKind Q id

-- what the section lists, and the others
abbrev pub Both : {A B : Type 0} → (A → List ℕ → Type 0) → ℕ → (B → List Raw → Type 0) → List A × B → List Raw → Type 0
Both P id L y raws = Lists P id raws y.0 × L y.1 raws

-- sections in order behind an id are so behind a lower one
sooner : {b id : ℕ} (raws : List Raw) → b < id → InOrder id raws → InOrder b raws
sooner [] lt h = tt
sooner (raw ∷ raws) lt (inl h) = inl (h.0, sooner raws lt h.1)
sooner (raw ∷ raws) lt (inr h) = inr (omega (arith, h.0), h.1, h.2)

-- where the section with the id isn't next, an id that may be next is higher
beyond : {A : Type 0} {P : A → List ℕ → Type 0} {F : ModuleRule → ℕ → List ℕ → Type 0} {f : Reader A} {b id x : ℕ} {bytes more : List ℕ} → Stage P F f b id → behind_id id bytes ≡ None → bytes ≡ x ∷ more → Contains ids x → b < x → id < x
beyond {b = b} {id} {x} s none w known lt =
    let le : id ≤ x = next_id b id x s.next known lt in
    let other : x ≡ id → ⊥ = none-first none w in
    omega arith

later : {A : Type 0} {P : A → List ℕ → Type 0} {F : ModuleRule → ℕ → List ℕ → Type 0} {f : Reader A} {b id : ℕ} (bytes : List ℕ) (raws : List Raw) → Stage P F f b id → behind_id 0 bytes ≡ None → behind_id id bytes ≡ None → Each RawSection raws bytes → InOrder b raws → InOrder id raws
later bytes [] s clear none each order = tt
later bytes (raw ∷ raws) s clear none each (inl h) = absurd (none-first clear (first_is each).1 h.0)
later bytes (raw ∷ raws) s clear none each (inr h) = inr (beyond s none (first_is each).1 h.1 h.0, h.1, h.2)

sooner-fails : {A : Type 0} {P : A → List ℕ → Type 0} {F : ModuleRule → ℕ → List ℕ → Type 0} {f : Reader A} {b id : ℕ} {bytes : List ℕ} {r : ModuleRule} {left : ℕ} → Stage P F f b id → behind_id 0 bytes ≡ None → behind_id id bytes ≡ None → NoSections id r left bytes → NoSections b r left bytes
sooner-fails {b = b} {id} {bytes} {r} {left} s clear none (raws, order, hold, j) = by raws order hold j where
  next : (back : List ℕ) → bytes ≡ back → NoSection id r left back → NoSection b r left back
  next [] w h = h
  next (x ∷ more) w (inl h) = inl (h.0, h.1, λ may. h.2 (elim may [ inl z ↦ inl z | inr m ↦ inr (beyond s none w m.1 m.0, m.1) ]))
  next (x ∷ more) w (inr (inl z, h)) = inr (inl z, h)
  next (x ∷ more) w (inr (inr m, h)) = inr (inr (omega (arith, m.0, s.lt), m.1), h)

  by : (raws : List Raw) → InOrder id raws → AllHold raws → Joined (Each RawSection raws) (NoSection (last_id id raws) r left) bytes → NoSections b r left bytes
  by [] order hold j = ([], tt, tt, record { front = j.front; back = j.back; whole = j.whole; first = j.first; second = next j.back (j.whole ∙ ap (λ (l : List ℕ). l ++ j.back) j.first) j.second })
  by (raw ∷ raws) (inl order) hold j = absurd (none-first clear (j.whole ∙ ap (λ (l : List ℕ). l ++ j.back) (first_is j.first).1) order.0)
  by (raw ∷ raws) (inr order) hold j =
      let other = ne_eqb raw.id 0 (λ (e : raw.id ≡ 0). absurd (omega (arith, order.0))) in
      (raw ∷ raws, inr (omega (arith, order.0, s.lt), order.1, order.2), hold, rw other (rw other at j))

-- the section is read, if it is there, and then the others
listed-inner : {A B : Type 0} {P : A → List ℕ → Type 0} {F : ModuleRule → ℕ → List ℕ → Type 0} {f : Reader A} {L : B → List Raw → Type 0} {b id : ℕ} {k : Others B} → Stage P F f b id → Chain L id k → Inner (Both P id L) b (λ found bytes. listed_at f id found bytes >>= λ x. with_others k x)
listed-inner {A} {B} {P} {F} {f} {L} {b} {id} {k} s c = record {
  along = λ y some more e l. (lists-by P id some y.0 (contents_of id more) (e id s.lt) l.0, c.along y.1 some more (λ j lt. e j (omega (arith, s.lt))) l.1);
  ends = λ found bytes clear. ends found bytes clear (behind_id id bytes) refl;
  again = λ found bytes y clear a. again found bytes y clear (behind_id id bytes) refl a.raws a.customs a.each a.order a.are a.lists.0 a.lists.1 a.sorted;
} where
  some : 0 < id
  some = omega (arith, s.lt)

  from : Found → List ℕ → Option (List ℕ) → Result ((List A × B) × List Custom) Fault
  from found bytes o = choice o (Ok (([], found), bytes)) (λ contents. filled_at (vector_at f) contents >>= λ x. Ok ((x.0, found), x.1)) >>= λ x. with_others k x

  ends : (found : Found) (bytes : List ℕ) → behind_id 0 bytes ≡ None → (o : Option (List ℕ)) → behind_id id bytes ≡ o → AllEnds (Both P id L) b found bytes (from found bytes o)
  ends found bytes clear None none =
      step (k found bytes) (c.ends found bytes) (λ x e. broken-as e (sooner-fails s clear none))
      (λ y a. with_value _ (record { raws = a.raws; customs = a.customs; each = a.each; order = sooner a.raws s.lt a.order; are = a.are; lists = (lists-by P id a.raws [] None (none_below id id a.raws a.order some (omega arith)) refl, a.lists); sorted = a.sorted }))
  ends found bytes clear (Some contents) is =
      let first = behind-found id bytes contents is in
      step_in (filled_at (vector_at f) contents) _ _ ((filled-reads (fills (vector-reads s.reads))).ends contents) (λ x e. fails-here first (inr (s.lt, s.known)) e (s.kind (λ A P F. NoneSized P F x.rule x.left contents))) (λ y t.
      let raw : Raw = record { id = id; contents = t.spelled.0 } in
      step (k found y.1) (c.ends found y.1)
      (λ x e. fails-behind first t (s.kind (λ A P F. (x : A) × P x t.spelled.0) (y.0, t.spelled.2))
      (λ raw raws e o. (inr (omega (arith, s.lt), subst (Contains ids) (sym e) s.known, subst (λ (n : ℕ). InOrder n raws) (sym e) o), rw (ne_eqb raw.id 0 (λ (z : raw.id ≡ 0). absurd (omega arith)), e) refl)) e)
      (λ z a. with_value _ (record {
        raws = raw ∷ a.raws;
        customs = a.customs;
        each = in_front first t a.each;
        order = inr (s.lt, s.known, a.order);
        are = skips raw a.raws a.customs some a.are;
        lists = (lists-by P id (raw ∷ a.raws) y.0 (Some t.spelled.0) (found_here id raw a.raws refl) t.spelled.2, c.along z.0 (raw ∷ a.raws) a.raws (λ j lt. passed_over j raw a.raws (λ (e : id ≡ j). absurd (omega arith))) a.lists);
        sorted = a.sorted;
      })))

  again : (found : Found) (bytes : List ℕ) (y : (List A × B) × List Custom) → behind_id 0 bytes ≡ None → (o : Option (List ℕ)) → behind_id id bytes ≡ o → (raws : List Raw) (customs : List Custom) → Each RawSection raws bytes → InOrder b raws → CustomsAre raws customs → Lists P id raws y.0.0 → L y.0.1 raws
      → y.1 ≡ total found customs → from found bytes o ≡ Ok y
  again found bytes y clear None none raws customs each order are lists others sorted =
      let o : InOrder id raws = later bytes raws s clear none each order in
      let empty : y.0.0 ≡ [] = rw (none_below id id raws o some (omega arith)) at lists in
      rw (c.again found bytes (y.0.1, y.1) (record { raws = raws; customs = customs; each = each; order = o; are = are; lists = others; sorted = sorted }))
      (ap (λ (l : List A). let r : Result ((List A × B) × List Custom) Fault = Ok ((l, y.0.1), y.1) in r) (sym empty))
  again found bytes y clear (Some contents) is [] customs each order are lists others sorted = absurd (cc (behind-found id bytes contents is, each))
  again found bytes y clear (Some contents) is (raw ∷ raws) customs each (inl order) are lists others sorted = absurd (none-first clear (first_is each).1 order.0)
  again found bytes y clear (Some contents) is (raw ∷ raws) customs each (inr order) are lists others sorted =
      let w = first_is each in
      let first = behind-found id bytes contents is in
      let same : raw.id ≡ id = cc (w.1, first) in
      let behind : contents ≡ w.0 ++ each.back = cc (w.1, first) in
      let vector : Vector P y.0.0 raw.contents = rw (found_here id raw raws same) at lists in
      let read : filled_at (vector_at f) (w.0 ++ each.back) ≡ Ok (y.0.0, each.back) = (filled-reads (fills (vector-reads s.reads))).again y.0.0 w.0 each.back (raw.contents, w.2, vector) in
      let kept = c.along y.0.1 raws (raw ∷ raws) (λ j lt. sym (passed_over j raw raws (λ (e : raw.id ≡ j). absurd (omega arith)))) others in
      rw (behind, read, c.again found each.back (y.0.1, y.1) (record { raws = raws; customs = customs; each = each.second; order = subst (λ (n : ℕ). InOrder n raws) same order.2; are = unskipped raw raws customs (omega (arith, order.0)) are; lists = kept; sorted = sorted })) refl

-- a section, and the others behind it
pub section-chain : {A B : Type 0} {P : A → List ℕ → Type 0} {F : ModuleRule → ℕ → List ℕ → Type 0} {f : Reader A} {L : B → List Raw → Type 0} {b id : ℕ} {k : Others B} → Reads P F f → b < id → AreNext b id → Contains ids id
    → ((Q : (A : Type 0) → (A → List ℕ → Type 0) → (ModuleRule → ℕ → List ℕ → Type 0) → Type 0) → Q (List A) (Vector P) (NoVector P F) → OfKind Q id) → Chain L id k → Chain (Both P id L) b (section_then f id k)
unfolding section_then section_at
section-chain {P = P} {f = f} {L} {b} {id} {k} reads lt next known kind c =
    let s : Stage P _ f b id = record { reads = reads; lt = lt; next = next; known = known; kind = kind } in
    let all = customs-chain (listed-inner s c) in
    let whole = λ (found : Found) (bytes : List ℕ). regroup (customs_at (length bytes) found bytes) (λ x. listed_at f id x.0 x.1) (λ x. with_others k x) in
    record { along = all.along; ends = λ found bytes. subst (AllEnds (Both P id L) b found bytes) (sym (whole found bytes)) (all.ends found bytes); again = λ found bytes y a. whole found bytes ∙ all.again found bytes y a }

-- behind the last id of all, the sections that aren't custom ones end
abbrev pub Nothing : Unit {0} → List Raw → Type 0
Nothing y raws = Unit {0}

beyond_last : (x : ℕ) → Contains ids x → 11 < x → ⊥
beyond_last x c lt = absurd (omega (arith, leb-true x 11 (tested (λ y. leb y 11) ids c.0 x refl c.1 c.2)))

last-inner : Inner Nothing 11 (λ found bytes. cond (eqb (length bytes) 0) (Ok (tt, found.others ++ found.named)) (Err (at rule.Section (length bytes))))
last-inner = record { along = λ y some more e l. tt; ends = ends; again = λ found bytes y clear a. again found bytes y clear a.raws a.customs a.each a.order a.are a.sorted } where
  ends : (found : Found) (bytes : List ℕ) → behind_id 0 bytes ≡ None → AllEnds Nothing 11 found bytes (cond (eqb (length bytes) 0) (Ok (tt, found.others ++ found.named)) (Err (at rule.Section (length bytes))))
  ends found [] clear = with_value _ (record { raws = []; customs = []; each = refl; order = tt; are = refl; lists = tt; sorted = sym (unfiltered found) })
  ends found (b ∷ bytes) clear =
      let none : MayFollow 11 b → ⊥ = λ may. elim may [ inl z ↦ none-first clear refl z | inr m ↦ beyond_last b m.1 m.0 ] in
      rw (ne_eqb (length (b ∷ bytes)) 0 (λ (e : length (b ∷ bytes) ≡ 0). absurd (omega arith)))
      (with_fault (at rule.Section (length (b ∷ bytes))) (record { fails = ([], tt, tt, record { front = []; back = b ∷ bytes; whole = refl; first = refl; second = inl (refl, refl, none) }); within = omega arith }))

  again : (found : Found) (bytes : List ℕ) (y : Unit {0} × List Custom) → behind_id 0 bytes ≡ None → (raws : List Raw) (customs : List Custom) → Each RawSection raws bytes → InOrder 11 raws → CustomsAre raws customs → y.1 ≡ total found customs
      → cond (eqb (length bytes) 0) (Ok (tt, found.others ++ found.named)) (Err (at rule.Section (length bytes))) ≡ Ok y
  again found bytes y clear [] customs each order are sorted = rw each (ap (λ (l : List Custom). let r : Result (Unit {0} × List Custom) Fault = Ok (tt, l) in r) (sym (unfiltered found) ∙ ap (total found) (sym are) ∙ sym sorted))
  again found bytes y clear (raw ∷ raws) customs each (inl order) are sorted = absurd (none-first clear (first_is each).1 order.0)
  again found bytes y clear (raw ∷ raws) customs each (inr order) are sorted = absurd (beyond_last raw.id order.1 order.0)

pub last-chain : Chain Nothing 11 last_at
unfolding last_at
last-chain = customs-chain last-inner
