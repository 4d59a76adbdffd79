-- A program whose events lead forward.
use Rattle.std.proofs.Common.{◌≡◌, ℕ, zero, suc, ◌<◌, true, [], ◌∷◌, None, refl, ap, arith}
use Rattle.std.proofs.lemmas.Bool.{false≢true}
use Rattle.cm_base.specs.declared.host.Flow.TheVariants as flows
use Rattle.cm_base.specs.declared.host.Kind.TheVariants as kinds
use Rattle.cm_base.specs.declared.host.Scalar.TheVariants as scalars
use Rattle.cm_base.specs.Parts.{is_event}
use Rattle.cm_core.specs.Linked.{Linked, unit_at, leaf_point, end_of}
use Rattle.cm_core.specs.Forward.{GoesOn, EndIn, has_leaf, IsForward}
use Rattle.cm_core.proofs.Build.{end, unit, graph, link, linked}

-- a leaf that sends an event to the next one, which tells the host
abbrev sending : Linked
sending =
    linked
    (graph (end flows.Output kinds.Event scalars.Int32 ∷ [])
    (unit (end flows.Output kinds.Event scalars.Int32 ∷ []) [] [] [] ∷ unit (end flows.Input kinds.Event scalars.Int32 ∷ end flows.Output kinds.Event scalars.Int32 ∷ []) [] [] [] ∷ [])
    (link 1 0 2 0 None ∷ link 2 1 0 0 None ∷ []))

sent : (i e : ℕ) → (end_of (unit_at sending i) e).kind ≡ kinds.Event → EndIn (GoesOn sending.order i) (leaf_point sending i e) sending.flat.chains
sent zero zero is = (λ s. refl, (λ s. tt, tt))
sent zero (suc e) is = absurd (false≢true (ap is_event is))
sent (suc zero) zero is = (λ s. absurd (false≢true s), (λ s. tt, tt))
sent (suc zero) (suc zero) is = (λ s. absurd (false≢true s), (λ s. tt, tt))
sent (suc zero) (suc (suc e)) is = absurd (false≢true (ap is_event is))
sent (suc (suc i)) e is = absurd (false≢true (ap is_event is))

placed : (i : ℕ) → i < 2 → has_leaf sending.order i ≡ true
placed zero le = refl
placed (suc zero) le = refl
placed (suc (suc i)) le = absurd (omega arith)

forward : IsForward sending
forward = record { events = sent; sends = λ k. (λ s. refl, (λ s. tt, tt)); leaves = placed }
