-- What is counted for endpoints and handlers by their numbers.
use Rattle.std.specs.Prelude.{◌≡◌, refl, ℕ, zero, suc, ◌+◌, ◌<◌, ◌≤◌, ◌==◌, if◌then◌else◌, Bool, true, false, not, cond, nat_lt, List, [], ◌∷◌, length, map, All, sum_by, Option, Some, None, position, option_map, slice_index_or}
use Rattle.std.specs.List.{position_or_len}
use Rattle.std.proofs.lemmas.Bool.{ltb-true, ltb-false, lt-ltb, le-ltb}
use Rattle.std.proofs.Common.{ap, sym, ◌∙◌, arith}
use Rattle.std.proofs.lemmas.Grind.{common_steps}
use Rattle.std.proofs.lemmas.List.Elements.{All-head, All-tail}
use Rattle.cm_base.specs.declared.place.EndId.{EndId}
use Rattle.cm_base.specs.declared.place.LeafId.{LeafId}
use Rattle.cm_core.specs.declared.flat.Chain.{Chain}
use Rattle.cm_core.specs.declared.unit.Handler.{Handler}
use Rattle.cm_core.specs.Calls.{handler_among}
use Rattle.cm_core.specs.Code.{stmt_of}
use Rattle.cm_core.specs.Linked.{Linked, no_end_id}
use Rattle.cm_core.specs.Measures.{handler_size, chains_size}
use Rattle.cm_core.specs.Sizes.{Measured, stmt_size}
use Rattle.memory_layout.specs.Events.{events_from, event_size}
use Rattle.memory_layout.specs.declared.events.Event.{Event}
use Rattle.memory_layout.proofs.Starts.{events_sum}
use Rattle.memory_layout.specs.Graphs.{body_among}
use Rattle.memory_layout.specs.Held.{held}
use Rattle.memory_layout.specs.Scales.{counts_or}

-- writes of the endpoints, and behind them that of the first of all
pub counts_are : (g : EndId → ℕ) (ends : List EndId) (e : ℕ) → held (counts_or (map (λ (x : EndId). held (g x)) ends) (held (g no_end_id)) e) ≡ held (g (slice_index_or ends e no_end_id))
counts_are g [] e = omega arith
counts_are g (x ∷ xs) zero = omega arith
counts_are g (x ∷ xs) (suc e) = counts_are g xs e

-- no chain starts behind the endpoints of all
pub none_from : (chains : List Chain) (n x : ℕ) → n ≤ x → All (λ (c : Chain). c.from.end.0 < n) chains → events_from chains x ≡ []
none_from [] n x le h = refl
none_from (c ∷ cs) n x le h =
    let low : c.from.end.0 < n = All-head (λ (c : Chain). c.from.end.0 < n) c cs h in
    let rest : events_from cs x ≡ [] = none_from cs n x le (All-tail (λ (c : Chain). c.from.end.0 < n) c cs h) in
    other (c.from.end.0 == x) refl low rest
  where
    other : (b : Bool) → (c.from.end.0 == x) ≡ b → c.from.end.0 < n → events_from cs x ≡ [] → events_from (c ∷ cs) x ≡ []
    other b at low rest = grind (arith, common_steps, low, rest, le)

-- the body of the handler of an input among the bodies of all
bodies_by : (m : Measured) (e : ℕ) (h : Handler) (hs : List Handler) (b : Bool) (found : Option ℕ) (k : ℕ) →
    body_among (map (λ (h : Handler). held (stmt_size m (stmt_of h.body))) hs) found ≡ held (handler_size m (handler_among e (k + 1) hs)) →
    body_among (map (λ (h : Handler). held (stmt_size m (stmt_of h.body))) (h ∷ hs)) (if b then Some 0 else option_map suc found)
    ≡ held (handler_size m (if b then Some (k, h) else handler_among e (k + 1) hs))
bodies_by m e h hs true found k rest = refl
bodies_by m e h hs false None k rest = rest
bodies_by m e h hs false (Some n) k rest = rest

place_less : (n count : ℕ) (less : Bool) → nat_lt n count ≡ less → cond (nat_lt (1 + n) (suc count)) (Some (1 + n)) None ≡ option_map suc (cond less (Some n) None)
place_less n count true at =
    let below : n < count = ltb-true n count at in
    let here : nat_lt (1 + n) (suc count) ≡ true = lt-ltb (1 + n) (suc count) (omega arith) in
    let next : 1 + n ≡ suc n = omega arith in
    ap (λ (b : Bool). cond b (Some (1 + n)) None) here ∙ ap (λ (k : ℕ). Some k) next
place_less n count false at =
    let past : count ≤ n = ltb-false n count at in
    let here : nat_lt (1 + n) (suc count) ≡ false = le-ltb (1 + n) (suc count) (omega arith) in
    ap (λ (b : Bool). cond b (Some (1 + n)) None) here

place_by : (b : Bool) (n count : ℕ) →
    cond (nat_lt (cond (not b) (1 + n) 0) (suc count)) (Some (cond (not b) (1 + n) 0)) None ≡ (if b then Some 0 else option_map suc (cond (nat_lt n count) (Some n) None))
place_by true n count =
    let here : nat_lt 0 (suc count) ≡ true = lt-ltb 0 (suc count) (omega arith) in
    ap (λ (b : Bool). cond b (Some 0) None) here
place_by false n count = place_less n count (nat_lt n count) refl

-- the place of the handler of an input, handler by handler
place_is : (e : ℕ) (h : Handler) (hs : List Handler) →
    position (λ (h : Handler). h.end == e) (h ∷ hs) ≡ (if h.end == e then Some 0 else option_map suc (position (λ (h : Handler). h.end == e) hs))
place_is e h hs = place_by (h.end == e) (position_or_len (λ (h : Handler). h.end == e) hs) (length hs)

pub body_is : (m : Measured) (e : ℕ) (hs : List Handler) (k : ℕ) →
    body_among (map (λ (h : Handler). held (stmt_size m (stmt_of h.body))) hs) (position (λ (h : Handler). h.end == e) hs) ≡ held (handler_size m (handler_among e k hs))
body_is m e [] k = refl
body_is m e (h ∷ hs) k =
    ap (λ (found : Option ℕ). body_among (map (λ (h : Handler). held (stmt_size m (stmt_of h.body))) (h ∷ hs)) found) (place_is e h hs)
    ∙ bodies_by m e h hs (h.end == e) (position (λ (h : Handler). h.end == e) hs) k (body_is m e hs (k + 1))

-- what chains from a point count, by the events that start there
pub point_is : (l : Linked) (handled : ℕ → ℕ → ℕ) (leaf : Option LeafId) (end : EndId) (events : List Event) (size : ℕ) → events ≡ events_from l.flat.chains end.0 →
    size ≡ held (sum_by (event_size l handled leaf) events) → size ≡ held (chains_size l handled (record { leaf = leaf; end = end }))
point_is l handled leaf end events size is sized =
    sized ∙ ap (λ (es : List Event). held (sum_by (event_size l handled leaf) es)) is ∙ ap held (events_sum l handled leaf end l.flat.chains)

pub no_point : (l : Linked) (handled : ℕ → ℕ → ℕ) (leaf : Option LeafId) (end : EndId) (n : ℕ) → n ≤ end.0 → All (λ (c : Chain). c.from.end.0 < n) l.flat.chains →
    0 ≡ held (chains_size l handled (record { leaf = leaf; end = end }))
no_point l handled leaf end n le within =
    ap (λ (es : List Event). held (sum_by (event_size l handled leaf) es)) (sym (none_from l.flat.chains n end.0 le within)) ∙ ap held (events_sum l handled leaf end l.flat.chains)
