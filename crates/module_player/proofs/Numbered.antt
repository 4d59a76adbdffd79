-- The numbers of the event inputs.
use Rattle.std.proofs.Common.{◌≡◌, ◌<◌, ◌≤◌, ◌+◌, ◌++◌, ℕ, zero, suc, List, [], ◌∷◌, length, drop, get_or, Bool, true, false, Some, refl, sym, ap, ◌∙◌, subst, arith, append_assoc, append-nil}
use Rattle.std.specs.Prelude.{slice_get, ◌&&◌, if◌then◌else◌}
use Rattle.std.proofs.lemmas.List.{drop_all}
use Rattle.cm_base.specs.declared.host.HostEnd.{HostEnd}
use Rattle.cm_base.specs.Parts.{is_input, is_event}
use Rattle.wasm_tree.specs.Section.{Slot}
use Rattle.wasm_tree.specs.Slots.{event_number}
use Rattle.module_player.specs.Given.{numbers_from}
use Rattle.module_player.specs.Writing.{ends_in}
use Rattle.module_player.proofs.Written.{slot_read, left_of}

abbrev one_of : HostEnd → ℕ
one_of end = if is_input end.flow && is_event end.kind then 1 else 0

-- as far as the loop has come
pub record AreNumbered (slots : List Slot) (at number : ℕ) (all : List ℕ) : Type 0 where
  pub whole : all ++ numbers_from number (drop at slots) ≡ numbers_from 0 slots
  pub few : number ≤ at

pub numbered_first : (slots : List Slot) → AreNumbered slots 0 0 []
numbered_first slots = record { whole = refl; few = omega arith }

pub numbered_next : (slots : List Slot) (at number next : ℕ) (all more : List ℕ) (end : HostEnd) → at < length slots → end ≡ get_or (ends_in slots) at end → AreNumbered slots at number all → more ≡ all ++ number ∷ [] →
    next ≡ (if is_input end.flow && is_event end.kind then 1 else 0) + number → AreNumbered slots (at + 1) next more
numbered_next slots at number next all more end l e are m n =
    let read = slot_read slots at end l e in
    let slot = read.slot in
    let one : one_of slot.end + number ≡ next = ap (λ (x : HostEnd). one_of x + number) read.same ∙ sym n in
    record {
      whole =
          ap (λ xs. xs ++ numbers_from next (drop (at + 1) slots)) m
          ∙ (append_assoc all (number ∷ []) (numbers_from next (drop (at + 1) slots))
          ∙ (ap (λ k. all ++ (number ∷ numbers_from k (drop (at + 1) slots))) (sym one)
          ∙ (ap (λ rest. all ++ numbers_from number rest) (sym (left_of slots at slot read.found)) ∙ are.whole)));
      few = few_by (is_input end.flow && is_event end.kind) n are.few;
    }
  where
    few_by : (b : Bool) {next number at : ℕ} → next ≡ (if b then 1 else 0) + number → number ≤ at → next ≤ at + 1
    few_by true e l = omega (arith, e, l)
    few_by false e l = omega (arith, e, l)

pub numbered_all : (slots : List Slot) (at number : ℕ) (all : List ℕ) → length slots ≤ at → AreNumbered slots at number all → all ≡ numbers_from 0 slots
numbered_all slots at number all l are = sym (append-nil all) ∙ (ap (λ rest. all ++ numbers_from number rest) (sym (drop_all at slots l)) ∙ are.whole)

-- the number of an endpoint among the event inputs
number_by : (slots : List Slot) (n at : ℕ) → at < length slots → get_or (numbers_from n slots) at 0 ≡ event_number slots at + n
number_by [] n at l = absurd (omega (arith, l))
number_by (slot ∷ slots) n zero l = omega arith
number_by (slot ∷ slots) n (suc at) l =
    let rest = number_by slots (one_of slot.end + n) at (omega (arith, l)) in
    rest ∙ omega arith

pub number_is : (slots : List Slot) (numbers : List ℕ) (at : ℕ) → numbers ≡ numbers_from 0 slots → at < length slots → get_or numbers at 0 ≡ event_number slots at
number_is slots numbers at e l = ap (λ xs. get_or xs at 0) e ∙ (number_by slots 0 at l ∙ omega arith)

numbers_by : (n : ℕ) (slots : List Slot) → length (numbers_from n slots) ≡ length slots
numbers_by n [] = refl
numbers_by n (slot ∷ slots) = ap suc (numbers_by (one_of slot.end + n) slots)

pub numbers_many : (slots : List Slot) (numbers : List ℕ) → numbers ≡ numbers_from 0 slots → length numbers ≡ length slots
numbers_many slots numbers e = ap length e ∙ numbers_by 0 slots
