-- A written connection has no fault where no row of the table holds.
use Rattle.std.proofs.Common.{◌≡◌, ◌≢◌, ◌∙◌, ℕ, Bool, sym, true, false, Option, Some, None, length, refl, ⊎_elim, List, All, subst, ◌<◌, ◌≤◌, arith}
use Rattle.std.proofs.lemmas.Int.{ints}
use Rattle.std.specs.Prelude.{IsSome, IsTrue, ◌↔◌, is_some, Contains, ℤ, pos, negsuc, ◌≤ℤ◌, nat_lt}
use Rattle.std.proofs.lemmas.Bool.{cases_eq, ltb-true, ltb-false}
use Rattle.cm_base.specs.declared.cause.Cause.TheVariants.{DelayRange}
use Rattle.cm_core.specs.Consistent.{IsConsistent, IsLink}
use Rattle.graph_flat.specs.Sound.{IsSoundLink}
use Rattle.cm_base.specs.declared.host.Kind.{Kind}
use Rattle.cm_base.specs.declared.host.Kind.TheVariants.{Stream, Value, Event}
use Rattle.cm_base.specs.declared.cause.Cause.{Cause}
use Rattle.cm_base.specs.declared.place.Place.{Place}
use Rattle.cm_core.specs.declared.program.Program.{Program}
use Rattle.cm_core.specs.declared.link.Link.{Link}
use Rattle.cm_core.specs.Expanded.{group_at, picked, is_spread, declared_end, is_source}
use Rattle.cm_core.specs.GraphFaults.{LinkFault, IsDelay, source, destination, source_index, destination_index, counts, kinds, types, delay_kind, delay_range}

pub record PassesRows (p : Program) (l : Link) : Type 0 where
  pub source : is_source p l.from ≡ true
  pub destination : is_source p l.to ≡ false
  pub source_index : picked (group_at p l.from) l.from.index ≢ None
  pub destination_index : picked (group_at p l.to) l.to.index ≢ None
  pub counts : is_spread p l.from ≡ true → is_spread p l.to ≡ true → length (group_at p l.from).nodes ≡ length (group_at p l.to).nodes
  pub kinds : (declared_end p l.from).kind ≡ (declared_end p l.to).kind
  pub types : (declared_end p l.from).ty ≡ (declared_end p l.to).ty
  pub delay_kind : IsSome l.delay → (declared_end p l.from).kind ≡ Stream
  pub delay_range : IsDelay l.delay

pub sound : (p : Program) (l : Link) → PassesRows p l → (cause : Cause) (place : Place) → LinkFault p l cause place → ⊥
sound p l h cause place (source f) = let e : true ≡ false = sym h.source ∙ f in cc
sound p l h cause place (destination f) = let e : false ≡ true = sym h.destination ∙ f in cc
sound p l h cause place (source_index f) = h.source_index f
sound p l h cause place (destination_index f) = h.destination_index f
sound p l h cause place (counts a b f) = f (h.counts a b)
sound p l h cause place (kinds f) = f h.kinds
sound p l h cause place (types f) = f h.types
sound p l h cause place (delay_kind s f) = f (h.delay_kind s)
sound p l h cause place (delay_range f) = f h.delay_range

pub true_has : {P : Type 0} (b : Bool) → (IsTrue b ↔ P) → b ≡ true → P
true_has b h e = h.0 e

pub false_not : {P : Type 0} (b : Bool) → (IsTrue b ↔ P) → b ≡ false → P → ⊥
false_not b h e q = let f : b ≡ true = h.1 q in let no : true ≡ false = sym f ∙ e in cc

pub none_of : {A : Type 0} (o : Option A) → is_some o ≡ false → o ≡ None
none_of None e = refl
none_of (Some x) e = cc

pub some_of : {A : Type 0} (o : Option A) → is_some o ≡ true → o ≡ None → ⊥
some_of None e f = cc
some_of (Some x) e f = cc

pub equal_counts : (a b : ℕ) (P Q : Type 0) → ((P × Q × (a ≢ b)) → ⊥) → P → Q → a ≡ b
equal_counts a b P Q h p q = ⊎_elim (λ (e : a ≡ b). e) (λ (ne : a ≡ b → ⊥). absurd (h (p, q, ne))) (cases_eq a b)

value_is_none : Value ≢ Stream
value_is_none e = cc

event_is_none : Event ≢ Stream
event_is_none e = cc

pub stream_only : (k : Kind) (P : Type 0) → ((P × (k ≢ Stream)) → ⊥) → P → k ≡ Stream
stream_only Stream P h p = refl
stream_only Value P h p = absurd (h (p, value_is_none))
stream_only Event P h p = absurd (h (p, event_is_none))

-- an element with a property that all have
all_contained : {X : Type 0} (P : X → Type 0) (xs : List X) (x : X) → All P xs → Contains xs x → P x
all_contained P xs x h (k, lt, e) = subst P e (h k x lt)

pub link_is : (p : Program) (l : Link) → IsConsistent p → Contains p.links l → IsLink p l
link_is p l h c = all_contained (IsLink p) p.links l h.links c

within_delay : (n : ℕ) → (((pos 0 ≤ℤ pos n) × (pos n ≤ℤ pos 1048576) → ⊥) → ⊥) → (b : Bool) → nat_lt 1048576 n ≡ b → (pos 0 ≤ℤ pos n) × (pos n ≤ℤ pos 1048576)
within_delay n h true e = absurd (h (λ q. let lt : 1048576 < n = ltb-true 1048576 n e in let u = q.1 in omega (arith, ints, u, lt)))
within_delay n h false e = let le : n ≤ 1048576 = ltb-false 1048576 n e in (omega (arith, ints, le), omega (arith, ints, le))

delay_is : (d : Option ℤ) → ((IsDelay d → ⊥) → ⊥) → IsDelay d
delay_is None h = tt
delay_is (Some (pos n)) h = within_delay n h (nat_lt 1048576 n) refl
delay_is (Some (negsuc n)) h = absurd (h (λ q. let u = q.0 in omega (arith, ints, u)))

pub sound_delay : (p : Program) (l : Link) → IsSoundLink p l → IsDelay l.delay
sound_delay p l h = delay_is l.delay (λ no. h DelayRange l.place (delay_range no))
