-- Where a module is out of reductions, the source was out of turns there.
use Rattle.std.proofs.Common.{◌≡◌, ◌≢◌, ℕ, suc, ◌+◌, ◌*◌, List, [], ◌∷◌, Option, Some, refl, ap, ◌⊎◌, inl, inr}
use Rattle.cm_base.specs.Parts.{Part, Task, Set, Begin, following, part_at}
use Rattle.cm_base.specs.Players.{Left, Goes, Spent, Traps, Player, Stop, OutIn, after_part, stops, Outcome, PartEnd, NotBegun, PartEnds, PartSpent, PartTraps, part_end, when_ended, play_part}
use Rattle.wasm_tree.specs.Keeps.{KeepsRun}

-- a run that is out is so in a part that it began
out_here : {World : Type 0} (part other : Part) (last : World) (left : Left World) (go : World → Stop World) (of : World → ℕ → PartEnd) (at_number : ℕ → Option Part) → after_part part left go ≡ OutIn other last →
    ((world : World) → go world ≡ OutIn other last → (number : ℕ) × (at_number number ≡ Some other) × (of world number ≡ PartSpent)) →
    ((part ≡ other) × (part_end left ≡ PartSpent)) ⊎ ((number : ℕ) × (at_number number ≡ Some other) × (when_ended left (λ world. of world number) ≡ PartSpent))
out_here part other last (Goes world) go of at_number e each = inr (each world e)
out_here part other last (Spent world) go of at_number e each = let same : part ≡ other = cc (e) in inl (same, refl)
out_here part other last (Traps world) go of at_number e each = absurd (cc (e))

-- a run that is out of its budget is so in a part of a number, which is spent
pub out_at : {World : Type 0} (player : Player World) (n : ℕ) (tasks : List Task) (world last : World) (part : Part) → stops player n tasks world ≡ OutIn part last →
    (number : ℕ) × (part_at number tasks ≡ Some part) × (play_part player n n number tasks world ≡ PartSpent)
unfolding stops play_part
out_at player n [] world last part e = absurd (cc (e))
out_at player n (Set endpoint value ∷ tasks) world last part e = out_at player n tasks (player.set endpoint value world) last part e
out_at player n (Begin first ∷ tasks) world last part e =
    elim (out_here first part last (player.perform n first (following tasks) world) (stops player n tasks) (λ w number. play_part player n n number tasks w) (λ number. part_at number tasks) e
    (λ next more. out_at player n tasks next last part more)) [
      | inl now ↦ (0, ap Some now.0, now.1)
      | inr later ↦ (suc later.0, later.1, later.2)
    ]

-- with the reductions that n turns are worth
over_by : (source target : PartEnd) → (source ≢ PartSpent → target ≢ NotBegun → target ≡ PartEnds) → target ≡ PartSpent → source ≡ PartSpent
over_by PartSpent target parts e = refl
over_by NotBegun target parts e = absurd (cc (parts (λ h. cc (h)) (λ h. cc (h, e)), e))
over_by PartEnds target parts e = absurd (cc (parts (λ h. cc (h)) (λ h. cc (h, e)), e))
over_by PartTraps target parts e = absurd (cc (parts (λ h. cc (h)) (λ h. cc (h, e)), e))

-- a part of the module that is spent is one in which the source is out of n turns
pub spent_over : {cost : ℕ} {source target : ℕ → Outcome} {source_part : (before own number : ℕ) → PartEnd} {target_part : (bound number : ℕ) → PartEnd} → KeepsRun cost source target source_part target_part →
    (n number : ℕ) → target_part (cost * (n + 1)) number ≡ PartSpent → source_part (cost * (n + 1)) n number ≡ PartSpent
spent_over {cost} {source_part = source_part} {target_part} keeps n number e =
    over_by (source_part (cost * (n + 1)) n number) (target_part (cost * (n + 1)) number) (keeps.part_by_part n number) e
