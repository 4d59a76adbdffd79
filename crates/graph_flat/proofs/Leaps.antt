-- Paths that jump on: what they lead to, their delays, and the steps that a search has left.
use Rattle.std.proofs.Common.{◌≡◌, ℕ, ◌+◌, ◌<◌, ◌≤◌, Bool, true, false, cond, List, [], ◌∷◌, length, get_or, refl, ap, ◌∙◌, sym, arith, All, subst, Option, Some, None, append-nil, Vec, set, ⊎_elim}
use Rattle.std.specs.Global.{Global}
use Rattle.std.proofs.Math.ListN.{length-set}
use Rattle.std.proofs.lemmas.Grind.{common_steps}
use Rattle.std.specs.Prelude.{◌==◌, map, filter, sum_by, Contains, slice_index, slice_index_or}
use Rattle.std.specs.List.{flat_map}
use Rattle.std.proofs.lemmas.List.{get_or_default}
use Rattle.std.proofs.lemmas.List.Folds.{flat_map-map}
use Rattle.std.proofs.lemmas.List.Sums.{sum_by-cons}
use Rattle.std.proofs.lemmas.List.Elements.{All-filter, All-map, filter_passes}
use Rattle.std.proofs.lemmas.Bool.{eqb-true, ltb-false, cases_eq}
use Rattle.cm_base.specs.declared.place.EndId.{EndId}
use Rattle.cm_core.specs.declared.link.Connection.{Connection}
use Rattle.cm_core.specs.Tree.{is_among}
use Rattle.cm_core.specs.Routes.{Route, leaving, routes_from}
use Rattle.graph_flat.specs.declared.paths.Path.{Path}
use Rattle.graph_flat.specs.declared.wires.Wires.{Wires}
use Rattle.graph_flat.specs.Paths.{first_path, joined, extended, jumped, leap, next_path, path_of, completed, paths_on, steps_from, IsLow, IsJump, MayJump, IsShort, IsBelow, is_live}
use Rattle.graph_flat.specs.Wires.{IsReady}
use Rattle.graph_flat.proofs.Counting.{contains_all, dead_told}
use Rattle.graph_flat.proofs.Routing.{begins, goes_on, pruned, pieces_agree, steps_on}

joined_twice : (x y z : Path) → joined (joined x y) z ≡ joined x (joined y z)
joined_twice x y z =
    let e : (x.delay + y.delay) + z.delay ≡ x.delay + (y.delay + z.delay) = omega arith in
    ap (λ (k : ℕ). let p : Path = record { from = x.from; to = z.to; delay = k; first = x.first; last = z.last } in p) e

jumped_after : (o : Option Path) (x : Path) (c : Connection) → joined x (jumped o (first_path c)) ≡ jumped o (extended x c)
jumped_after None x c = refl
jumped_after (Some y) x c = sym (joined_twice x (first_path c) y)

same_jumped : (cs : List Connection) (goals : List EndId) (n : ℕ) (rank : ℕ → ℕ) (e : EndId) (o : Option Path) → MayJump cs goals n rank e o → (x : Path) → x.to ≡ e → paths_on cs goals n x ≡ paths_on cs goals n (jumped o x)
same_jumped cs goals n rank e None h x t = refl
same_jumped cs goals n rank e (Some y) h x t = h.same x t

completed_none : (b : Bool) (x : Path) (rs : List Route) → b ≡ false → rs ≡ [] → completed b x rs ≡ []
completed_none b x rs f e = rw (f, e) refl

-- what leads nowhere is left out, and all others may jump
shortened : (n : ℕ) (w : Wires) → IsReady n w → (f g : Connection → Path) (cs : List Connection) → All (IsBelow n) cs → ((c : Connection) → (f c).to ≡ c.to)
    → ((c : Connection) → g c ≡ jumped (slice_index_or w.jumps.items c.to.0 None) (f c))
    → flat_map (paths_on w.connections.items w.targets.items n) (map f cs) ≡ flat_map (paths_on w.connections.items w.targets.items n) (map g (filter (is_live w.counts) cs))
shortened n w r f g cs within to is =
    let on : Path → List Path = paths_on w.connections.items w.targets.items n in
    flat_map-map on f cs
    ∙ sym (pruned (λ (c : Connection). on (f c)) (is_live w.counts) cs (λ c m dead.
    let lt : c.to.0 < n = (contains_all (IsBelow n) cs c within m).to in
    let zero_there : slice_index w.counts c.to.0 ≡ 0 = (let z : slice_index w.counts c.to.0 ≤ 0 = ltb-false 0 (slice_index w.counts c.to.0) dead in omega (arith, z)) in
    let none = dead_told w.connections.items w.targets.items w.is_target.items n 65537 w.counts r.marks (omega arith) r.counts c.to lt zero_there in
    let a : is_among (f c).to w.targets.items ≡ false = ap (λ (e : EndId). is_among e w.targets.items) (to c) ∙ none.0 in
    let b : routes_from w.connections.items w.targets.items n (f c).to ≡ [] = ap (routes_from w.connections.items w.targets.items n) (to c) ∙ none.1 in
    completed_none (is_among (f c).to w.targets.items) (f c) (routes_from w.connections.items w.targets.items n (f c).to) a b))
    ∙ pieces_agree (λ (c : Connection). on (f c)) (λ (c : Connection). on (g c)) (filter (is_live w.counts) cs)
    (λ c. same_jumped w.connections.items w.targets.items n r.rank c.to (slice_index_or w.jumps.items c.to.0 None) (r.jumps c.to) (f c) (to c) ∙ ap on (sym (is c)))
    ∙ sym (flat_map-map on g (filter (is_live w.counts) cs))

pub below_leaving : (n : ℕ) (w : Wires) → IsReady n w → (e : EndId) → All (IsBelow n) (leaving w.connections.items e)
below_leaving n w r e = All-filter (λ (c : Connection). c.from.0 == e.0) (IsBelow n) w.connections.items r.within

-- the routes from an endpoint
pub begins_far : (n : ℕ) (w : Wires) (r : IsReady n w) (e : EndId) (row : List Connection) → row ≡ filter (is_live w.counts) (leaving w.connections.items e)
    → map path_of (routes_from w.connections.items w.targets.items n e) ≡ flat_map (paths_on w.connections.items w.targets.items n) (map (leap w.jumps.items) row)
begins_far n w r e row is =
    begins w.connections.items w.targets.items n r.rank r.falls e
    ∙ shortened n w r first_path (leap w.jumps.items) (leaving w.connections.items e) (below_leaving n w r e) (λ c. refl) (λ c. refl)
    ∙ ap (λ (cs : List Connection). flat_map (paths_on w.connections.items w.targets.items n) (map (leap w.jumps.items) cs)) (sym is)

-- a path that isn't at a target
pub goes_far : (n : ℕ) (w : Wires) (r : IsReady n w) (x : Path) (row : List Connection) → is_among x.to w.targets.items ≡ false → row ≡ filter (is_live w.counts) (leaving w.connections.items x.to)
    → paths_on w.connections.items w.targets.items n x ≡ flat_map (paths_on w.connections.items w.targets.items n) (map (next_path w.jumps.items x) row)
goes_far n w r x row t is =
    goes_on w.connections.items w.targets.items n r.rank r.falls x t
    ∙ shortened n w r (extended x) (next_path w.jumps.items x) (leaving w.connections.items x.to) (below_leaving n w r x.to) (λ c. refl) (λ c. jumped_after (slice_index_or w.jumps.items c.to.0 None) x c)
    ∙ ap (λ (cs : List Connection). flat_map (paths_on w.connections.items w.targets.items n) (map (next_path w.jumps.items x) cs)) (sym is)

one_less : {X : Type 0} (f g : X → ℕ) (b : Bool) (x : X) (xs ys : List X) → f x ≤ g x → sum_by f xs ≤ sum_by g ys → sum_by f (cond b (x ∷ xs) xs) ≤ sum_by g (x ∷ ys)
one_less f g true x xs ys h r = let a = sum_by-cons f x xs in let b = sum_by-cons g x ys in omega (arith, a, b, h, r)
one_less f g false x xs ys h r = let b = sum_by-cons g x ys in omega (arith, b, r)

filtered_less : {X : Type 0} (f g : X → ℕ) (p : X → Bool) (xs : List X) → ((x : X) → f x ≤ g x) → sum_by f (filter p xs) ≤ sum_by g xs
filtered_less f g p [] h = omega arith
filtered_less f g p (x ∷ xs) h = one_less f g (p x) x (filter p xs) xs (h x) (filtered_less f g p xs h)

steps_jumped : (cs : List Connection) (goals : List EndId) (n : ℕ) (rank : ℕ → ℕ) (o : Option Path) (x : Path) → MayJump cs goals n rank x.to o → steps_from cs goals n (jumped o x).to ≤ steps_from cs goals n x.to
steps_jumped cs goals n rank None x h = omega arith
steps_jumped cs goals n rank (Some y) x h = h.steps

-- the steps of what goes on, and one more
pub steps_far : (n : ℕ) (w : Wires) (r : IsReady n w) (e : EndId) (row : List Connection) → is_among e w.targets.items ≡ false → row ≡ filter (is_live w.counts) (leaving w.connections.items e)
    → sum_by (λ (c : Connection). steps_from w.connections.items w.targets.items n (leap w.jumps.items c).to) row < steps_from w.connections.items w.targets.items n e
steps_far n w r e row t is =
    let far : Connection → ℕ = λ (c : Connection). steps_from w.connections.items w.targets.items n (leap w.jumps.items c).to in
    let near : Connection → ℕ = λ (c : Connection). steps_from w.connections.items w.targets.items n c.to in
    let less : sum_by far (filter (is_live w.counts) (leaving w.connections.items e)) ≤ sum_by near (leaving w.connections.items e) =
    filtered_less far near (is_live w.counts) (leaving w.connections.items e) (λ c. steps_jumped w.connections.items w.targets.items n r.rank (slice_index_or w.jumps.items c.to.0 None) (first_path c) (r.jumps c.to)) in
    let same : sum_by far row ≡ sum_by far (filter (is_live w.counts) (leaving w.connections.items e)) = ap (sum_by far) is in
    let all = steps_on w.connections.items w.targets.items n r.rank r.falls e t in
    omega (arith, less, same, all)

-- what holds of what passes a test
all_kept : {X : Type 0} (P : X → Type 0) (p : X → Bool) (xs : List X) → ((x : X) → Contains xs x → p x ≡ true → P x) → All P (filter p xs)
all_kept P p xs h = λ k d lt.
    let there : All (Contains xs) (filter p xs) = All-filter p (Contains xs) xs (λ j e le. (j, le, get_or_default xs j (get_or xs j e) e le)) in
    h (get_or (filter p xs) k d) (there k d lt) (filter_passes p xs k d lt)

-- connections that a rank falls along, of a delay that fits
pub record IsStep (n : ℕ) (rank : ℕ → ℕ) (e : EndId) (c : Connection) : Type 0 where
  pub below : IsBelow n c
  pub falls : rank c.to.0 < rank c.from.0
  pub from : c.from.0 ≡ e.0

pub row_steps : (n : ℕ) (w : Wires) (r : IsReady n w) (e : EndId) → All (IsStep n r.rank e) (filter (is_live w.counts) (leaving w.connections.items e))
row_steps n w r e = All-filter (is_live w.counts) (IsStep n r.rank e) (leaving w.connections.items e)
    (all_kept (IsStep n r.rank e) (λ (c : Connection). c.from.0 == e.0) w.connections.items (λ c m t. record {
      below = contains_all (IsBelow n) w.connections.items c r.within m;
      falls = r.falls.falls c m;
      from = eqb-true c.from.0 e.0 t;
    }))

low_first : (n : ℕ) (rank : ℕ → ℕ) (e : EndId) (c : Connection) → IsStep n rank e c → IsLow n rank (first_path c)
low_first n rank e c s = record { within = s.below.to; delay = (let d = s.below.delay in let f = s.falls in omega (arith, d, f)) }

low_joined : (n : ℕ) (rank : ℕ → ℕ) (x y : Path) → IsLow n rank x → IsLow n rank y → y.from.0 ≡ x.to.0 → IsLow n rank (joined x y)
low_joined n rank x y a b e = record { within = b.within; delay = (let f = ap rank e in let u = a.delay in let v = b.delay in omega (arith, f, u, v)) }

low_jumped : (cs : List Connection) (goals : List EndId) (n : ℕ) (rank : ℕ → ℕ) (o : Option Path) (x : Path) → IsLow n rank x → MayJump cs goals n rank x.to o → IsLow n rank (jumped o x)
low_jumped cs goals n rank None x a h = a
low_jumped cs goals n rank (Some y) x a h = low_joined n rank x y a h.low (ap (λ (e : EndId). e.0) h.from)

from_jumped : (o : Option Path) (x : Path) → (jumped o x).from ≡ x.from
from_jumped None x = refl
from_jumped (Some y) x = refl

pub low_leap : (n : ℕ) (w : Wires) (r : IsReady n w) (e : EndId) (c : Connection) → IsStep n r.rank e c → IsLow n r.rank (leap w.jumps.items c)
low_leap n w r e c s = low_jumped w.connections.items w.targets.items n r.rank (slice_index_or w.jumps.items c.to.0 None) (first_path c) (low_first n r.rank e c s) (r.jumps c.to)

pub from_leap : (jumps : List (Option Path)) (c : Connection) → (leap jumps c).from ≡ c.from
from_leap jumps c = from_jumped (slice_index_or jumps c.to.0 None) (first_path c)

-- the paths that a search puts on its stack are low
pub low_begins : (n : ℕ) (w : Wires) (r : IsReady n w) (e : EndId) (row : List Connection) → row ≡ filter (is_live w.counts) (leaving w.connections.items e) → All (IsLow n r.rank) (map (leap w.jumps.items) row)
low_begins n w r e row is = rw is (All-map (IsLow n r.rank) (leap w.jumps.items) (filter (is_live w.counts) (leaving w.connections.items e))
    (λ k d lt. low_leap n w r e _ (row_steps n w r e k d lt)))

pub low_goes : (n : ℕ) (w : Wires) (r : IsReady n w) (x : Path) (row : List Connection) → IsLow n r.rank x → row ≡ filter (is_live w.counts) (leaving w.connections.items x.to) → All (IsLow n r.rank) (map (next_path w.jumps.items x) row)
low_goes n w r x row low is = rw is (All-map (IsLow n r.rank) (next_path w.jumps.items x) (filter (is_live w.counts) (leaving w.connections.items x.to))
    (λ k d lt. let s = row_steps n w r x.to k d lt in low_joined n r.rank x (leap w.jumps.items (get_or (filter (is_live w.counts) (leaving w.connections.items x.to)) k d)) low (low_leap n w r x.to _ s)
    (ap (λ (e : EndId). e.0) (from_leap w.jumps.items (get_or (filter (is_live w.counts) (leaving w.connections.items x.to)) k d)) ∙ s.from)))

-- a low path has a delay far below the greatest number
pub low_delay : (n : ℕ) (w : Wires) (r : IsReady n w) (x : Path) → n < 4294967296 → IsLow n r.rank x → x.delay < 1152921504606846976
low_delay n w r x few low = let d = low.delay in let l = r.falls.low x.from.0 in omega (arith, d, l, few)

short_one : (n : ℕ) (w : Wires) (r : IsReady n w) (e : EndId) (o : Option Path) → n < 4294967296 → MayJump w.connections.items w.targets.items n r.rank e o → IsShort o
short_one n w r e None few h = tt
short_one n w r e (Some y) few h = low_delay n w r y few h.low

pub jumps_short : (n : ℕ) (w : Wires) (r : IsReady n w) → n < 4294967296 → All IsShort w.jumps.items
jumps_short n w r few = λ k d lt. subst IsShort (get_or_default w.jumps.items k None d lt) (short_one n w r (record { 0 = k }) (slice_index_or w.jumps.items k None) few (r.jumps (record { 0 = k })))

pub row_within : (n : ℕ) (w : Wires) (r : IsReady n w) (e : EndId) (row : List Connection) → row ≡ filter (is_live w.counts) (leaving w.connections.items e) → All (λ (c : Connection). c.to.0 < n) row
row_within n w r e row is = rw is (λ k d lt. (row_steps n w r e k d lt).below.to)

-- a jump from an endpoint with one way on
pub may_jump : (n : ℕ) (w : Wires) (r : IsReady n w) (e : EndId) (c : Connection) → is_among e w.targets.items ≡ false → c ∷ [] ≡ filter (is_live w.counts) (leaving w.connections.items e)
    → IsJump w.connections.items w.targets.items n r.rank e (leap w.jumps.items c)
may_jump n w r e c t is =
    let all : All (IsStep n r.rank e) (c ∷ []) = subst (All (IsStep n r.rank e)) (sym is) (row_steps n w r e) in
    let s : IsStep n r.rank e c = all 0 c (omega arith) in
    record {
      low = low_leap n w r e c s;
      from = from_leap w.jumps.items c ∙ ap (λ (k : ℕ). let i : EndId = record { 0 = k } in i) s.from;
      steps = (let f = steps_far n w r e (c ∷ []) t is in let one = sum_by-cons (λ (c : Connection). steps_from w.connections.items w.targets.items n (leap w.jumps.items c).to) c [] in omega (arith, f, one));
      same = λ x at. goes_far n w r x (c ∷ []) (ap (λ (i : EndId). is_among i w.targets.items) at ∙ t) (is ∙ ap (λ (i : EndId). filter (is_live w.counts) (leaving w.connections.items i)) (sym at))
          ∙ append-nil (paths_on w.connections.items w.targets.items n (next_path w.jumps.items x c));
    }

-- the row of an endpoint
pub row_is : (n : ℕ) (w : Wires) → IsReady n w → (end : ℕ) (row : Vec Connection Global) → end < n → row ≡ get_or w.rows.items end row → row.items ≡ filter (is_live w.counts) (leaving w.connections.items (record { 0 = end }))
row_is n w r end row lt e = ap (λ (v : Vec Connection Global). v.items) e ∙ r.rows.1 (record { 0 = end }) row lt

pub only_one : {X : Type 0} (xs : List X) (x : X) → length xs ≡ 1 → x ≡ get_or xs 0 x → xs ≡ x ∷ []
only_one [] x l e = absurd (omega (arith, l))
only_one {X} (y ∷ []) x l e = ap (λ (z : X). z ∷ []) (sym e)
only_one (y ∷ z ∷ zs) x l e = absurd (omega (arith, l))

-- an element that was written
set_here : (js : List (Option Path)) (x q : ℕ) (v : Option Path) → x < length js → q ≡ x → get_or (set js x v) q None ≡ v
set_here js x q v lt e = grind (arith, common_steps)

set_other : (js : List (Option Path)) (x q : ℕ) (v : Option Path) → (q ≡ x → ⊥) → get_or (set js x v) q None ≡ get_or js q None
set_other js x q v ne = grind (arith, common_steps)

-- one more jump
pub one_jump : (n : ℕ) (w : Wires) (r : IsReady n w) (jumps : Vec (Option Path) Global) (end : ℕ) (y : Path) → end < n → jumps.items ≡ set w.jumps.items end (Some y)
    → IsJump w.connections.items w.targets.items n r.rank (record { 0 = end }) y
    → IsReady n (record { connections = w.connections; targets = w.targets; is_target = w.is_target; counts = w.counts; rows = w.rows; jumps = jumps })
one_jump n w r jumps end y lt is h = record {
  rank = r.rank;
  falls = r.falls;
  within = r.within;
  marks_count = r.marks_count;
  marks = r.marks;
  counts = r.counts;
  rows = r.rows;
  jumps_count = ap length is ∙ length-set w.jumps.items end (Some y) ∙ r.jumps_count;
  jumps = λ e.
      let at : List (Option Path) → Type 0 = λ js. MayJump w.connections.items w.targets.items n r.rank e (get_or js e.0 None) in
      let may : Option Path → Type 0 = λ o. MayJump w.connections.items w.targets.items n r.rank e o in
      subst at (sym is) (⊎_elim
      (λ (q : e.0 ≡ end). subst may (sym (set_here w.jumps.items end e.0 (Some y) (let l = r.jumps_count in omega (arith, l, lt)) q))
      (subst (λ (k : ℕ). IsJump w.connections.items w.targets.items n r.rank (record { 0 = k }) y) (sym q) h))
      (λ (ne : e.0 ≡ end → ⊥). subst may (sym (set_other w.jumps.items end e.0 (Some y) ne)) (r.jumps e))
      (cases_eq e.0 end));
}

-- whether an endpoint is a target, as it is marked
pub target_is : (n : ℕ) (w : Wires) → IsReady n w → (end : ℕ) (mark b : Bool) → end < n → mark ≡ get_or w.is_target.items end mark → mark ≡ b → is_among (record { 0 = end }) w.targets.items ≡ b
target_is n w r end mark b lt e t =
    sym (r.marks (record { 0 = end })) ∙ get_or_default w.is_target.items end false mark (let l = r.marks_count in omega (arith, l, lt)) ∙ sym e ∙ t
