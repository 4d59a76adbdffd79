-- The code of a function: how deep sequences stand, and up to its own `end`.
use Rattle.std.proofs.Common.{◌≡◌, ℕ, zero, suc, ◌+◌, ◌≤◌, ◌<◌, Bool, true, false, cond, eqb, ltb, List, [], ◌∷◌, ◌++◌, length, Option, Some, None, Result, Ok, refl, sym, ap, subst, ◌∙◌, arith, ◌⊎◌, inl, inr}
use Rattle.std.specs.Prelude.{◌&&◌}
use Rattle.std.specs.Option.{option_and_then}
use Rattle.std.proofs.lemmas.Bool.{ne_eqb, cases_Bool}
use Rattle.std.proofs.lemmas.List.{append-nil, length-append}
use Rattle.std.proofs.lemmas.Bool.Decides.{nat_tests}
use Rattle.wasm_tree.specs.declared.failure.ModuleRule.{ModuleRule}
use Rattle.wasm_tree.specs.declared.failure.ModuleRule.TheVariants as rule
use Rattle.wasm_tree.specs.declared.instr.Instr.{Instr}
use Rattle.wasm_tree.specs.declared.instr.Instr.TheVariants as instr
use Rattle.wasm_tree.specs.Opcode.{opcode_of}
use Rattle.wasm_tree.specs.Control.{most_open, opened, after_instruction, after_code}
use Rattle.wasm_tree.specs.Spelled.{Joined, Each, LocalRuns, Body, Instruction, Expression}
use Rattle.wasm_reader.specs.declared.fault.Fault.{Fault}
use Rattle.wasm_reader.specs.Fault.{InTurn, NoLocalRuns, NoInstruction, StrayElse, IsTooDeep, TooDeep, NoExpression, BodyContents, NoBody}
use Rattle.wasm_reader.specs.Samples.{samples, sample_of}
use Rattle.wasm_reader.specs.Reading.{◌>>=◌, at, filled_at, instruction_at, opens, room_at, next_at, code_from, expression_at, body_at}
use Rattle.wasm_reader.proofs.Ends.{Ends, with_value, with_fault, step, by_test, by_value}
use Rattle.wasm_reader.proofs.Readers.{Taken, Broken, ReadEnds, Reads, broken-as, assoc, behind, begins_with, regrouped, ends-as, ends-behind, field, last, from_first, fills, both_true}
use Rattle.wasm_reader.proofs.Parts.{filled-reads}
use Rattle.wasm_reader.proofs.LocalLaws.{local_runs-reads}
use Rattle.wasm_reader.proofs.Instructions.{sample_like, sample-of, instruction-reads}

-- ---- how deep sequences stand

too_deep : (arms : List Bool) (bytes : List ℕ) → (ltb most_open (length arms) && opens bytes) ≡ true → IsTooDeep arms bytes
unfolding opens
too_deep arms [] e = absurd (cc (both_true (ltb most_open (length arms)) false e).1)
too_deep arms (b ∷ bytes) e = grind (arith, nat_tests)

is_deep : (arms : List Bool) (bytes : List ℕ) → IsTooDeep arms bytes → (ltb most_open (length arms) && opens bytes) ≡ true
unfolding opens
is_deep arms [] d = absurd d
is_deep arms (b ∷ bytes) d = grind (arith, nat_tests)

room-ends : (arms : List Bool) (bytes : List ℕ) → Ends (λ _. IsTooDeep arms bytes → ⊥) (Broken (TooDeep arms) bytes) (room_at arms bytes)
unfolding room_at
room-ends arms bytes =
    by_test (ltb most_open (length arms) && opens bytes) (λ p. with_fault (at rule.Limit (length bytes)) (record { fails = (refl, refl, too_deep arms bytes p); within = omega arith })) (λ p. with_value tt (λ d. absurd (cc (p, is_deep arms bytes d))))

room-again : (arms : List Bool) (bytes : List ℕ) → (IsTooDeep arms bytes → ⊥) → room_at arms bytes ≡ Ok tt
unfolding room_at
room-again arms bytes shallow =
    elim (cases_Bool (ltb most_open (length arms) && opens bytes)) [
      | inl h ↦ absurd (shallow (too_deep arms bytes h))
      | inr h ↦ rw h refl
    ]

-- a sequence is opened inside as many as may be open, and only there
opened-some : (arm a : Bool) (arms next : List Bool) → opened arm (a ∷ arms) ≡ Some next → length (a ∷ arms) ≤ most_open
opened-some arm a arms next e = grind (arith, nat_tests)

opened-none : (arm a : Bool) (arms : List Bool) → opened arm (a ∷ arms) ≡ None → most_open < length (a ∷ arms)
opened-none arm a arms e = grind (arith, nat_tests)

-- the immediates of an instruction change nothing of what is open after it
after_like : (a : Bool) (arms : List Bool) (i : Instr) → after_instruction (a ∷ arms) (sample_like i) ≡ after_instruction (a ∷ arms) i
after_like a arms (instr.Block t) = refl
after_like a arms i = refl

after_sample : (a : Bool) (arms : List Bool) (i like : Instr) (b : ℕ) → sample_of b ≡ Some like → opcode_of i ≡ b → after_instruction (a ∷ arms) like ≡ after_instruction (a ∷ arms) i
after_sample a arms i like b some is = cc (sample-of i, ap sample_of is, after_like a arms i)

opens_within : (a : Bool) (arms next : List Bool) (i : Instr) → (opcode_of i ≡ 0x02) ⊎ ((opcode_of i ≡ 0x03) ⊎ (opcode_of i ≡ 0x04)) → after_instruction (a ∷ arms) i ≡ Some next → length (a ∷ arms) ≤ most_open
unfolding sample_of samples
opens_within a arms next i (inl is) e = opened-some false a arms next (after_sample a arms i (instr.Block None) 0x02 refl is ∙ e)
opens_within a arms next i (inr (inl is)) e = opened-some false a arms next (after_sample a arms i (instr.Loop None) 0x03 refl is ∙ e)
opens_within a arms next i (inr (inr is)) e = opened-some true a arms next (after_sample a arms i (instr.If None) 0x04 refl is ∙ e)

-- where an instruction may stand, it opens no sequence too deep
shallow-of : (arms next : List Bool) (i : Instr) (bytes back : List ℕ) → bytes ≡ opcode_of i ∷ back → after_instruction arms i ≡ Some next → IsTooDeep arms bytes → ⊥
shallow-of [] next i bytes back w e deep = absurd cc
shallow-of (a ∷ arms) next i bytes back w e deep =
    let d = subst (IsTooDeep (a ∷ arms)) w deep in
    let within : length (a ∷ arms) ≤ most_open = opens_within a arms next i d.1 e in
    absurd (omega (arith, d.0))

-- only an `else` is stray where the sequences don't stand too deep
stray : (a : Bool) (arms : List Bool) (i : Instr) (bytes back : List ℕ) → bytes ≡ opcode_of i ∷ back → after_instruction (a ∷ arms) i ≡ None → (IsTooDeep (a ∷ arms) bytes → ⊥) → StrayElse (a ∷ arms) rule.Opcode (length bytes) bytes
stray a arms (instr.Block t) bytes back w e shallow = absurd (shallow (subst (IsTooDeep (a ∷ arms)) (sym w) (opened-none false a arms e, inl refl)))
stray a arms (instr.Loop t) bytes back w e shallow = absurd (shallow (subst (IsTooDeep (a ∷ arms)) (sym w) (opened-none false a arms e, inr (inl refl))))
stray a arms (instr.If t) bytes back w e shallow = absurd (shallow (subst (IsTooDeep (a ∷ arms)) (sym w) (opened-none true a arms e, inr (inr refl))))
stray a arms instr.Else bytes back w e shallow = (refl, refl, record { front = 0x05 ∷ []; back = back; whole = w; first = refl; second = e })
stray a arms i bytes back w e shallow = absurd cc

-- ---- code

-- from these open sequences on, the code ends them all
abbrev Coded : List Bool → List Instr → List ℕ → Type 0
Coded arms code bytes = Each Instruction code bytes × (after_code arms code ≡ Some [])

-- what fails where these sequences are open
abbrev Stops : List Bool → ModuleRule → ℕ → List ℕ → Type 0
Stops arms r left back = TooDeep arms r left back ⊎ ((IsTooDeep arms back → ⊥) × (NoInstruction r left back ⊎ StrayElse arms r left back))

-- behind code that doesn't end them all, something fails
abbrev From : List Bool → ModuleRule → ℕ → List ℕ → Type 0
From arms r left bytes = (code : List Instr) × (after : List Bool) × (after_code arms code ≡ Some after) × (0 < length after) × Joined (Each Instruction code) (Stops after r left) bytes

at_once : {r : ModuleRule} {left : ℕ} {bytes : List ℕ} (a : Bool) (arms : List Bool) → Stops (a ∷ arms) r left bytes → From (a ∷ arms) r left bytes
at_once {bytes = bytes} a arms h = ([], a ∷ arms, refl, omega arith, record { front = []; back = bytes; whole = refl; first = refl; second = h })

pub some_open : (arms : List Bool) → (arms ≡ [] → ⊥) → eqb (length arms) 0 ≡ false
some_open [] some = absurd (some refl)
some_open (a ∷ arms) some = ne_eqb (length (a ∷ arms)) 0 (λ (e : length (a ∷ arms) ≡ 0). absurd (omega arith))

-- code reaches what it reaches behind its first instruction
reaches : (arms next after : List Bool) (i : Instr) (code : List Instr) → after_instruction arms i ≡ Some next → after_code next code ≡ Some after → after_code arms (i ∷ code) ≡ Some after
reaches arms next after i code e h = rw e h

-- what is read behind an instruction
abbrev rest_of : ℕ → List Bool → Instr → List ℕ → Result (List Instr × List ℕ) Fault
rest_of n next i rest = cond (eqb (length next) 0) (Ok (i ∷ [], rest)) (code_from n next rest >>= λ more. Ok (i ∷ more.0, more.1))

-- behind an instruction the function ends, or more code is read or fails
rest-ends : (n : ℕ) → ((a : Bool) (arms : List Bool) (bytes : List ℕ) → length bytes ≤ n → ReadEnds (Coded (a ∷ arms)) (From (a ∷ arms)) bytes (code_from n (a ∷ arms) bytes))
    → (a : Bool) (arms : List Bool) (bytes : List ℕ) (i : Instr) (rest : List ℕ) → length bytes ≤ suc n → Taken Instruction bytes i rest → (next : List Bool) → after_instruction (a ∷ arms) i ≡ Some next → ReadEnds (Coded (a ∷ arms)) (From (a ∷ arms)) bytes (rest_of n next i rest)
rest-ends n so a arms bytes i rest le t [] follows =
    with_value (i ∷ [], rest) (record { front = t.front; whole = t.whole; spelled = (record { front = t.front; back = []; whole = sym (append-nil t.front); first = t.spelled; second = refl }, reaches (a ∷ arms) _ _ i [] follows refl) })
rest-ends n so a arms bytes i rest le t (b ∷ next) follows =
    let takes : length t.front ≡ suc (length t.spelled.back) = ap length (begins_with t.spelled) ∙ omega arith in
    let less : length rest ≤ n = omega (arith, ap length t.whole, length-append t.front rest) in
    rw (some_open (b ∷ next) (λ (q : b ∷ next ≡ []). absurd cc))
    (step (code_from n (b ∷ next) rest) (ends-behind t (so b next rest less))
    (λ x f. broken-as f (λ j. let k = j.second in (i ∷ k.0, k.1, reaches (a ∷ arms) _ _ i k.0 follows k.2, k.3, assoc (behind j k.4))))
    (λ more u. with_value (i ∷ more.0, more.1) (record { front = u.front; whole = u.whole; spelled = (behind u.spelled u.spelled.second.0, reaches (a ∷ arms) _ _ i more.0 follows u.spelled.second.1) })))

next-ends : (a : Bool) (arms : List Bool) (bytes : List ℕ)
    → Ends (λ y. (after_instruction (a ∷ arms) y.0.0 ≡ Some y.0.1) × Taken Instruction bytes y.0.0 y.1) (Broken (Stops (a ∷ arms)) bytes) (next_at (a ∷ arms) bytes)
unfolding next_at
next-ends a arms bytes =
    step (room_at (a ∷ arms) bytes) (room-ends (a ∷ arms) bytes) (λ x b. broken-as b (λ h. inl h)) (λ u shallow.
    step (instruction_at bytes) (instruction-reads.ends bytes) (λ x b. broken-as b (λ h. inr (shallow, inl h))) (λ y t.
    let w : bytes ≡ opcode_of y.0 ∷ (t.spelled.back ++ y.1) = t.whole ∙ ap (λ (l : List ℕ). l ++ y.1) (begins_with t.spelled) in
    step _ (by_value {G = λ next. after_instruction (a ∷ arms) y.0 ≡ Some next} {N = Broken (Stops (a ∷ arms)) bytes} (at rule.Opcode (length bytes)) (after_instruction (a ∷ arms) y.0) (λ next e. e)
    (λ e. record { fails = inr (shallow, inr (stray a arms y.0 bytes (t.spelled.back ++ y.1) w e shallow)); within = omega arith })) (λ x b. b)
    (λ next follows. with_value ((y.0, next), y.1) (follows, t))))

code-ends : (n : ℕ) (a : Bool) (arms : List Bool) (bytes : List ℕ) → length bytes ≤ n → ReadEnds (Coded (a ∷ arms)) (From (a ∷ arms)) bytes (code_from n (a ∷ arms) bytes)
unfolding code_from
code-ends zero a arms [] le = with_fault (at rule.Size 0) (record { fails = at_once a arms (inr (λ d. d, inl (inl (refl, refl)))); within = omega arith })
code-ends zero a arms (b ∷ bytes) le = absurd (omega arith)
code-ends (suc n) a arms bytes le =
    step (next_at (a ∷ arms) bytes) (next-ends a arms bytes) (λ x b. broken-as b (λ h. at_once a arms h)) (λ y h. rest-ends n (code-ends n) a arms bytes y.0.0 y.1 le h.1 y.0.1 h.0)

nothing_after : (code : List Instr) → after_code [] code ≡ Some [] → code ≡ []
nothing_after [] e = refl
nothing_after (i ∷ code) e = absurd cc

code-again : (n : ℕ) (a : Bool) (arms : List Bool) (code : List Instr) (front rest : List ℕ) → length code ≤ n → Each Instruction code front → after_code (a ∷ arms) code ≡ Some [] → code_from n (a ∷ arms) (front ++ rest) ≡ Ok (code, rest)
unfolding code_from next_at
code-again n a arms [] front rest le h closed = absurd cc
code-again zero a arms (i ∷ code) front rest le h closed = absurd (omega arith)
code-again (suc n) a arms (i ∷ code) front rest le h closed = by (λ b next. code-again n b next code h.back rest (omega arith) h.second) (after_instruction (a ∷ arms) i) refl closed where
  one : instruction_at (front ++ rest) ≡ Ok (i, h.back ++ rest)
  one = ap instruction_at (regrouped h rest) ∙ instruction-reads.again i h.front (h.back ++ rest) h.first

  room : (next : List Bool) → after_instruction (a ∷ arms) i ≡ Some next → room_at (a ∷ arms) (front ++ rest) ≡ Ok tt
  room next e =
      room-again (a ∷ arms) (front ++ rest)
      (shallow-of (a ∷ arms) next i (front ++ rest) (h.first.back ++ (h.back ++ rest)) (regrouped h rest ∙ ap (λ (l : List ℕ). l ++ (h.back ++ rest)) (begins_with h.first)) e)

  by : ((b : Bool) (next : List Bool) → after_code (b ∷ next) code ≡ Some [] → code_from n (b ∷ next) (h.back ++ rest) ≡ Ok (code, rest)) → (o : Option (List Bool)) → after_instruction (a ∷ arms) i ≡ o → option_and_then (λ next. after_code next code) o ≡ Some []
      → code_from (suc n) (a ∷ arms) (front ++ rest) ≡ Ok (i ∷ code, rest)
  by so None e closed = absurd cc
  by so (Some []) e closed =
      let last : code ≡ [] = nothing_after code closed in
      let none : h.back ≡ [] = subst (λ (l : List Instr). Each Instruction l h.back) last h.second in
      let two : h.back ++ rest ≡ rest = ap (λ (l : List ℕ). l ++ rest) none in
      rw (room [] e, one, e, last, two) refl
  by so (Some (b ∷ next)) e closed = rw (room (b ∷ next) e, one, e, some_open (b ∷ next) (λ (q : b ∷ next ≡ []). absurd cc), so b next closed) refl

each-length : (code : List Instr) (bytes : List ℕ) → Each Instruction code bytes → length code ≤ length bytes
each-length [] bytes h = omega arith
each-length (i ∷ code) bytes h =
    let some : length h.front ≡ 1 + length h.first.back = ap length (begins_with h.first) ∙ omega arith in
    omega (arith, each-length code h.back h.second, ap length h.whole, length-append h.front h.back)

expression-reads : Reads Expression NoExpression expression_at
unfolding expression_at
expression-reads = record {
  ends = λ bytes. ends-as (code-ends (length bytes) false [] bytes (omega arith)) (λ code bytes h. record { spelled = h.0; closed = h.1 }) (λ r left bytes h. h);
  again = λ code front rest h.
      code-again (length (front ++ rest)) false [] code front rest (omega (arith, length-append front rest, each-length code front h.spelled)) h.spelled h.closed;
}

contents-reads : Reads BodyContents (InTurn NoLocalRuns LocalRuns (λ _. NoExpression)) body_at
unfolding body_at
contents-reads = from_first (field (λ b. b.locals) local_runs-reads (λ locals. last (λ b. b.code) (λ code. record { locals = locals; code = code }) expression-reads (λ x. (tt, refl)) (λ x. refl) (λ c r. rw (← r.1) refl)))

pub body-reads : Reads Body NoBody (filled_at body_at)
body-reads = filled-reads (fills contents-reads)
