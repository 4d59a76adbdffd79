-- The control stack's list, which its array has the other way round.
use Rattle.std.proofs.Common.{◌≡◌, ℕ, suc, ◌-◌, ◌<◌, ◌≤◌, Bool, true, false, List, [], ◌∷◌, length, get_or, take, sym, ap, ◌∙◌, arith, add-one}
use Rattle.std.specs.Prelude.{reverse, slice_set, Some, None}
use Rattle.std.proofs.lemmas.List.{reverse-append, take_more, take_more_set}
use Rattle.wasm_tree.specs.declared.instr.Instr.TheVariants as instr
use Rattle.wasm_tree.specs.Control.{after_instruction, at_begin, second_arm}

-- the innermost sequence first
top : (n : ℕ) (arms : List Bool) → n < length arms → reverse (take (suc n) arms) ≡ get_or arms n false ∷ reverse (take n arms)
top n arms lt = ap reverse (ap (λ (k : ℕ). take k arms) (sym (add-one n)) ∙ take_more arms n false lt) ∙ reverse-append (take n arms) (get_or arms n false ∷ [])

top_set : (n : ℕ) (arms : List Bool) (arm : Bool) → n < length arms → reverse (take (suc n) (slice_set arms n arm)) ≡ arm ∷ reverse (take n arms)
top_set n arms arm lt = ap reverse (ap (λ (k : ℕ). take k (slice_set arms n arm)) (sym (add-one n)) ∙ take_more_set arms n arm lt) ∙ reverse-append (take n arms) (arm ∷ [])

at_last : (count : ℕ) → 0 < count → count ≡ suc (count - 1)
at_last count lt = omega arith

pub begun : (arms : List Bool) → 0 < length arms → reverse (take 1 (slice_set arms 0 false)) ≡ at_begin
begun arms lt = top_set 0 arms false lt

pub sequence_ended : (count : ℕ) (arms : List Bool) → 0 < count → count ≤ length arms → after_instruction (reverse (take count arms)) instr.End ≡ Some (reverse (take (count - 1) arms))
sequence_ended count arms lt le =
    ap (λ sequences. after_instruction sequences instr.End) (ap (λ (k : ℕ). reverse (take k arms)) (at_last count lt) ∙ top (count - 1) arms (omega arith))

at_else : (count : ℕ) (arms : List Bool) → 0 < count → count ≤ length arms → after_instruction (reverse (take count arms)) instr.Else ≡ second_arm (get_or arms (count - 1) false) (reverse (take (count - 1) arms))
at_else count arms lt le =
    ap (λ sequences. after_instruction sequences instr.Else) (ap (λ (k : ℕ). reverse (take k arms)) (at_last count lt) ∙ top (count - 1) arms (omega arith))

pub arm_kept : (count : ℕ) (arms : List Bool) → 0 < count → count ≤ length arms → get_or arms (count - 1) false ≡ false → after_instruction (reverse (take count arms)) instr.Else ≡ None
arm_kept count arms lt le arm = at_else count arms lt le ∙ ap (λ a. second_arm a (reverse (take (count - 1) arms))) arm

pub arm_ended : (count : ℕ) (arms : List Bool) → 0 < count → count ≤ length arms → get_or arms (count - 1) false ≡ true →
    after_instruction (reverse (take count arms)) instr.Else ≡ Some (reverse (take count (slice_set arms (count - 1) false)))
arm_ended count arms lt le arm =
    at_else count arms lt le ∙ ap (λ a. second_arm a (reverse (take (count - 1) arms))) arm
    ∙ ap Some (sym (ap (λ (k : ℕ). reverse (take k (slice_set arms (count - 1) false))) (at_last count lt) ∙ top_set (count - 1) arms false (omega arith)))
