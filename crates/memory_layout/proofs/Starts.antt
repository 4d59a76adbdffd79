-- The events that start at an endpoint, chain by chain, and what they count together.
use Rattle.std.specs.Prelude.{◌≡◌, refl, ℕ, ◌+◌, ◌<◌, ◌==◌, ◌&&◌, if◌then◌else◌, Bool, true, false, List, [], ◌∷◌, ◌++◌, length, sum_by, Option, Some, None, take, get_or, cond}
use Rattle.std.specs.List.{cons_option}
use Rattle.std.proofs.Common.{ap, sym, ◌∙◌, arith}
use Rattle.std.proofs.lemmas.Grind.{common_steps}
use Rattle.std.proofs.lemmas.List.Elements.{filter_map-append}
use Rattle.std.proofs.lemmas.List.Sums.{sum_by-cons}
use Rattle.cm_base.specs.Parts.{is_event}
use Rattle.cm_base.specs.declared.place.LeafId.{LeafId}
use Rattle.cm_base.specs.declared.place.EndId.{EndId}
use Rattle.cm_core.specs.declared.flat.Chain.{Chain}
use Rattle.cm_core.specs.Linked.{Linked, same_leaf}
use Rattle.cm_core.specs.Measures.{along, reached_size}
use Rattle.cm_core.specs.Sizes.{scalars}
use Rattle.memory_layout.specs.declared.events.Event.{Event}
use Rattle.memory_layout.specs.Events.{event_of, events_from, event_size}

-- one chain more
pub events_more : (chains : List Chain) (i x : ℕ) (d : Chain) → i < length chains → events_from (take (i + 1) chains) x ≡ events_from (take i chains) x
    ++ cond (is_event (get_or chains i d).kind && ((get_or chains i d).from.end.0 == x)) (event_of (get_or chains i d) ∷ []) []
events_more chains i x d h = grind (arith, common_steps, filter_map-append)

module _ (l : Linked) (handled : ℕ → ℕ → ℕ) (leaf : Option LeafId) (end : EndId) where
  first_by : (event same here : Bool) (first : Event) (v : ℕ) (rest : List Event) → event_size l handled leaf first ≡ (if same then v else 0) →
      sum_by (event_size l handled leaf) (cons_option (if event && here then Some first else None) rest)
      ≡ (if event && (same && here) then v else 0) + sum_by (event_size l handled leaf) rest
  first_by true same true first v rest is = sum_by-cons (event_size l handled leaf) first rest ∙ ap (λ (n : ℕ). n + sum_by (event_size l handled leaf) rest) (is ∙ both same)
    where
      both : (b : Bool) → (if b then v else 0) ≡ (if b && true then v else 0)
      both true = refl
      both false = refl
  first_by true true false first v rest is = omega arith
  first_by true false false first v rest is = omega arith
  first_by false same here first v rest is = omega arith

  -- the events of a point count together what its chains count
  pub events_sum : (chains : List Chain) → sum_by (event_size l handled leaf) (events_from chains end.0) ≡ sum_by (along l handled (record { leaf = leaf; end = end })) chains
  events_sum [] = refl
  events_sum (c ∷ cs) =
      first_by (is_event c.kind) (same_leaf c.from.leaf leaf) (c.from.end.0 == end.0) (event_of c) (scalars c.shape + reached_size l handled c.to.leaf c.to.end) (events_from cs end.0) refl
      ∙ ap (λ (n : ℕ). along l handled (record { leaf = leaf; end = end }) c + n) (events_sum cs)
      ∙ sym (sum_by-cons (along l handled (record { leaf = leaf; end = end })) c cs)
