-- A search for routes: what it has on its stack, and what it finds.
use Rattle.std.proofs.Common.{◌≡◌, ℕ, ◌+◌, ◌<◌, ◌≤◌, Bool, true, false, cond, List, [], ◌∷◌, ◌++◌, length, reverse, refl, ap, ◌∙◌, sym, arith, append_assoc, length-append, append-nil, zero, suc, subst}
use Rattle.std.specs.Prelude.{◌==◌, map, filter, sum_by, Contains}
use Rattle.std.specs.List.{flat_map}
use Rattle.std.proofs.lemmas.List.{reverse-append, map-append, length-reverse}
use Rattle.std.proofs.lemmas.List.Concat.{flat_map-append}
use Rattle.std.proofs.lemmas.List.Folds.{flat_map-map}
use Rattle.std.proofs.lemmas.List.Sums.{sum_by-cons}
use Rattle.std.proofs.lemmas.Bool.{eqb-true}
use Rattle.cm_base.specs.declared.place.EndId.{EndId}
use Rattle.cm_core.specs.declared.link.Connection.{Connection}
use Rattle.cm_core.specs.Tree.{is_among}
use Rattle.cm_core.specs.Routes.{Route, last_of, with_first, leaving, routes_by, routes_from}
use Rattle.graph_flat.specs.declared.paths.Path.{Path}
use Rattle.graph_flat.specs.Paths.{first_path, extended, delay_sum, path_of, with_route, completed, paths_on, steps_by, steps_from, Falls}
use Rattle.graph_flat.proofs.Stack.{contains_here, contains_more}

one_kept : {X A : Type 0} (f g : X → List A) (b : Bool) (x : X) (xs : List X) → (b ≡ true → f x ≡ g x) → flat_map f xs ≡ flat_map g xs → flat_map f (cond b (x ∷ xs) xs) ≡ flat_map g (cond b (x ∷ xs) xs)
one_kept f g true x xs h r = let a = h refl in rw (a, r) refl
one_kept f g false x xs h r = r

kept_agree : {X A : Type 0} (f g : X → List A) (p : X → Bool) (xs : List X) → ((x : X) → Contains xs x → p x ≡ true → f x ≡ g x) → flat_map f (filter p xs) ≡ flat_map g (filter p xs)
kept_agree f g p [] h = refl
kept_agree f g p (x ∷ xs) h = one_kept f g (p x) x (filter p xs) (h x (contains_here x xs)) (kept_agree f g p xs (λ y m. h y (contains_more x y xs m)))

one_summed : {X : Type 0} (f g : X → ℕ) (b : Bool) (x : X) (xs : List X) → (b ≡ true → f x ≡ g x) → sum_by f xs ≡ sum_by g xs → sum_by f (cond b (x ∷ xs) xs) ≡ sum_by g (cond b (x ∷ xs) xs)
one_summed f g true x xs h r = sum_by-cons f x xs ∙ ap (λ (k : ℕ). k + sum_by f xs) (h refl) ∙ ap (λ (k : ℕ). g x + k) r ∙ sym (sum_by-cons g x xs)
one_summed f g false x xs h r = r

summed_agree : {X : Type 0} (f g : X → ℕ) (p : X → Bool) (xs : List X) → ((x : X) → Contains xs x → p x ≡ true → f x ≡ g x) → sum_by f (filter p xs) ≡ sum_by g (filter p xs)
summed_agree f g p [] h = refl
summed_agree f g p (x ∷ xs) h = one_summed f g (p x) x (filter p xs) (h x (contains_here x xs)) (summed_agree f g p xs (λ y m. h y (contains_more x y xs m)))

not_kept : {X : Type 0} (b : Bool) (x : X) (xs : List X) → (b ≡ true → ⊥) → xs ≡ [] → cond b (x ∷ xs) xs ≡ []
not_kept true x xs h r = absurd (h refl)
not_kept false x xs h r = r

-- of a property that no element with a test has, no element passes the test
pub none_kept : {X : Type 0} (p : X → Bool) (xs : List X) → ((x : X) → Contains xs x → p x ≡ true → ⊥) → filter p xs ≡ []
none_kept p [] h = refl
none_kept p (x ∷ xs) h = not_kept (p x) x (filter p xs) (h x (contains_here x xs)) (none_kept p xs (λ y m. h y (contains_more x y xs m)))

by_goal : (b : Bool) (c : Connection) (xs ys : List Route) → xs ≡ ys → routes_by b c xs ≡ routes_by b c ys
by_goal b c xs ys e = ap (routes_by b c) e

steps_goal : (b : Bool) (m n : ℕ) → m ≡ n → steps_by b m ≡ steps_by b n
steps_goal b m n e = ap (steps_by b) e

rank_next : (cs : List Connection) (n : ℕ) (rank : ℕ → ℕ) → Falls cs n rank → (e : EndId) (c : Connection) → Contains cs c → (c.from.0 == e.0) ≡ true → rank c.to.0 < rank e.0
rank_next cs n rank h e c m t = subst (λ (k : ℕ). rank c.to.0 < rank k) (eqb-true c.from.0 e.0 t) (h.falls c m)

-- one more connection adds no route
pub stable : (cs : List Connection) (goals : List EndId) (n : ℕ) (rank : ℕ → ℕ) → Falls cs n rank → (d : ℕ) (e : EndId) → rank e.0 ≤ d → routes_from cs goals (suc d) e ≡ routes_from cs goals d e
stable cs goals n rank h zero e le =
    ap (flat_map (λ (c : Connection). routes_by (is_among c.to goals) c [])) (none_kept (λ (c : Connection). c.from.0 == e.0) cs (λ c m t. let l = rank_next cs n rank h e c m t in omega (arith, l, le)))
stable cs goals n rank h (suc d) e le =
    kept_agree (λ (c : Connection). routes_by (is_among c.to goals) c (routes_from cs goals (suc d) c.to)) (λ (c : Connection). routes_by (is_among c.to goals) c (routes_from cs goals d c.to)) (λ (c : Connection). c.from.0 == e.0) cs
    (λ c m t. by_goal (is_among c.to goals) c _ _ (stable cs goals n rank h d c.to (let l = rank_next cs n rank h e c m t in omega (arith, l, le))))

steps_one : (b : Bool) → steps_by b 0 ≡ 1
steps_one true = refl
steps_one false = refl

steady : (cs : List Connection) (goals : List EndId) (n : ℕ) (rank : ℕ → ℕ) → Falls cs n rank → (d : ℕ) (e : EndId) → rank e.0 ≤ d → steps_from cs goals (suc d) e ≡ steps_from cs goals d e
steady cs goals n rank h zero e le =
    ap (λ (xs : List Connection). steps_by (is_among e goals) (sum_by (λ (c : Connection). 1) xs)) (none_kept (λ (c : Connection). c.from.0 == e.0) cs (λ c m t. let l = rank_next cs n rank h e c m t in omega (arith, l, le))) ∙ steps_one (is_among e goals)
steady cs goals n rank h (suc d) e le =
    steps_goal (is_among e goals) _ _ (summed_agree (λ (c : Connection). steps_from cs goals (suc d) c.to) (λ (c : Connection). steps_from cs goals d c.to) (λ (c : Connection). c.from.0 == e.0) cs
    (λ c m t. steady cs goals n rank h d c.to (let l = rank_next cs n rank h e c m t in omega (arith, l, le))))

pub pieces_mapped : {A B C : Type 0} (f : B → C) (g : A → List B) (xs : List A) → map f (flat_map g xs) ≡ flat_map (λ x. map f (g x)) xs
pieces_mapped f g [] = refl
pieces_mapped {A} {B} {C} f g (x ∷ xs) = map-append f (g x) (flat_map g xs) ∙ ap (λ (ys : List C). map f (g x) ++ ys) (pieces_mapped f g xs)

pub pieces_agree : {A B : Type 0} (f g : A → List B) (xs : List A) → ((x : A) → f x ≡ g x) → flat_map f xs ≡ flat_map g xs
pieces_agree f g [] h = refl
pieces_agree f g (x ∷ xs) h = let a = h x in let b = pieces_agree f g xs h in rw (a, b) refl

pub pieces_of_pieces : {A B C : Type 0} (f : B → List C) (g : A → List B) (xs : List A) → flat_map f (flat_map g xs) ≡ flat_map (λ x. flat_map f (g x)) xs
pieces_of_pieces f g [] = refl
pieces_of_pieces {A} {B} {C} f g (x ∷ xs) = flat_map-append f (g x) (flat_map g xs) ∙ ap (λ (ys : List C). flat_map f (g x) ++ ys) (pieces_of_pieces f g xs)

pub map_agree : {A B : Type 0} (f g : A → B) (xs : List A) → ((x : A) → f x ≡ g x) → map f xs ≡ map g xs
map_agree f g [] h = refl
map_agree f g (x ∷ xs) h = let a = h x in let b = map_agree f g xs h in rw (a, b) refl

pub map_twice : {A B C : Type 0} (f : B → C) (g : A → B) (xs : List A) → map f (map g xs) ≡ map (λ x. f (g x)) xs
map_twice f g [] = refl
map_twice {A} {B} {C} f g (x ∷ xs) = ap (λ (ys : List C). f (g x) ∷ ys) (map_twice f g xs)

delay_alone : (c : Connection) → delay_sum (record { first = c; others = [] }) ≡ c.delay
delay_alone c = sum_by-cons (λ (c : Connection). c.delay) c [] ∙ (let z : c.delay + 0 ≡ c.delay = omega arith in z)

delay_more : (c : Connection) (r : Route) → delay_sum (with_first c r) ≡ c.delay + delay_sum r
delay_more c r = sum_by-cons (λ (c : Connection). c.delay) c (r.first ∷ r.others)

join_more : (x : Path) (c : Connection) (r : Route) → with_route x (with_first c r) ≡ with_route (extended x c) r
join_more x c r =
    let e : x.delay + delay_sum (with_first c r) ≡ (x.delay + c.delay) + delay_sum r = (let d = delay_more c r in omega (arith, d)) in
    ap (λ (k : ℕ). let y : Path = record { from = x.from; to = (last_of r).to; delay = k; first = x.first; last = (last_of r).place } in y) e

join_by : (b : Bool) (x : Path) (c : Connection) (rs : List Route) → map (with_route x) (routes_by b c rs) ≡ completed b (extended x c) rs
join_by true x c rs =
    ap (λ (k : ℕ). let y : Path = record { from = x.from; to = c.to; delay = x.delay + k; first = x.first; last = c.place } in y ∷ []) (delay_alone c)
join_by false x c rs = map_twice (with_route x) (with_first c) rs ∙ map_agree (λ (r : Route). with_route x (with_first c r)) (with_route (extended x c)) rs (join_more x c)

first_by : (b : Bool) (c : Connection) (rs : List Route) → map path_of (routes_by b c rs) ≡ completed b (first_path c) rs
first_by true c rs = ap (λ (k : ℕ). let y : Path = record { from = c.from; to = c.to; delay = k; first = c.place; last = c.place } in y ∷ []) (delay_alone c)
first_by false c rs = map_twice path_of (with_first c) rs ∙ map_agree (λ (r : Route). path_of (with_first c r)) (with_route (first_path c)) rs
    (λ r. ap (λ (k : ℕ). let y : Path = record { from = c.from; to = (last_of r).to; delay = k; first = c.place; last = (last_of r).place } in y) (delay_more c r))

not_target : (b : Bool) (x : Path) (rs : List Route) → b ≡ false → completed b x rs ≡ map (with_route x) rs
not_target b x rs e = ap (λ (t : Bool). completed t x rs) e

-- a path that isn't at a target goes on along each connection that leaves where it ends
pub goes_on : (cs : List Connection) (goals : List EndId) (n : ℕ) (rank : ℕ → ℕ) → Falls cs n rank → (x : Path) → is_among x.to goals ≡ false → paths_on cs goals n x ≡ flat_map (paths_on cs goals n) (map (extended x) (leaving cs x.to))
goes_on cs goals n rank h x t =
    not_target (is_among x.to goals) x (routes_from cs goals n x.to) t
    ∙ ap (map (with_route x)) (sym (stable cs goals n rank h n x.to (h.low x.to.0)))
    ∙ pieces_mapped (with_route x) (λ (c : Connection). routes_by (is_among c.to goals) c (routes_from cs goals n c.to)) (leaving cs x.to)
    ∙ pieces_agree _ (λ (c : Connection). paths_on cs goals n (extended x c)) (leaving cs x.to) (λ c. join_by (is_among c.to goals) x c (routes_from cs goals n c.to))
    ∙ sym (flat_map-map (paths_on cs goals n) (extended x) (leaving cs x.to))

-- a path at a target is found
pub is_found : (cs : List Connection) (goals : List EndId) (n : ℕ) (x : Path) → is_among x.to goals ≡ true → paths_on cs goals n x ≡ x ∷ []
is_found cs goals n x t = ap (λ (b : Bool). completed b x (routes_from cs goals n x.to)) t

-- the routes from an endpoint begin with each connection that leaves it
pub begins : (cs : List Connection) (goals : List EndId) (n : ℕ) (rank : ℕ → ℕ) → Falls cs n rank → (e : EndId) → map path_of (routes_from cs goals n e) ≡ flat_map (paths_on cs goals n) (map first_path (leaving cs e))
begins cs goals n rank h e =
    ap (map path_of) (sym (stable cs goals n rank h n e (h.low e.0)))
    ∙ pieces_mapped path_of (λ (c : Connection). routes_by (is_among c.to goals) c (routes_from cs goals n c.to)) (leaving cs e)
    ∙ pieces_agree _ (λ (c : Connection). paths_on cs goals n (first_path c)) (leaving cs e) (λ c. first_by (is_among c.to goals) c (routes_from cs goals n c.to))
    ∙ sym (flat_map-map (paths_on cs goals n) first_path (leaving cs e))

pub all_begin : (cs : List Connection) (goals : List EndId) (n : ℕ) (rank : ℕ → ℕ) → Falls cs n rank → (es : List EndId)
    → map path_of (flat_map (routes_from cs goals n) es) ≡ flat_map (paths_on cs goals n) (flat_map (λ (e : EndId). map first_path (leaving cs e)) es)
all_begin cs goals n rank h es =
    pieces_mapped path_of (routes_from cs goals n) es
    ∙ pieces_agree _ (λ (e : EndId). flat_map (paths_on cs goals n) (map first_path (leaving cs e))) es (begins cs goals n rank h)
    ∙ sym (pieces_of_pieces (paths_on cs goals n) (λ (e : EndId). map first_path (leaving cs e)) es)

pub steps_on : (cs : List Connection) (goals : List EndId) (n : ℕ) (rank : ℕ → ℕ) → Falls cs n rank → (e : EndId) → is_among e goals ≡ false
    → steps_from cs goals n e ≡ sum_by (λ (c : Connection). steps_from cs goals n c.to) (leaving cs e) + 1
steps_on cs goals n rank h e t = sym (steady cs goals n rank h n e (h.low e.0)) ∙ ap (λ (b : Bool). steps_by b (sum_by (λ (c : Connection). steps_from cs goals n c.to) (leaving cs e))) t

pub steps_some : (cs : List Connection) (goals : List EndId) (n : ℕ) (rank : ℕ → ℕ) → Falls cs n rank → (e : EndId) → is_among e goals ≡ true → 0 < steps_from cs goals n e
steps_some cs goals n rank h e t = let s : steps_from cs goals n e ≡ 1 = sym (steady cs goals n rank h n e (h.low e.0)) ∙ ap (λ (b : Bool). steps_by b (sum_by (λ (c : Connection). steps_from cs goals n c.to) (leaving cs e))) t in omega (arith, s)

prune_by : {X A : Type 0} (g : X → List A) (b : Bool) (x : X) (xs ks : List X) → (b ≡ false → g x ≡ []) → flat_map g ks ≡ flat_map g xs → flat_map g (cond b (x ∷ ks) ks) ≡ flat_map g (x ∷ xs)
prune_by {X} {A} g true x xs ks h r = ap (λ (ys : List A). g x ++ ys) r
prune_by {X} {A} g false x xs ks h r = r ∙ sym (ap (λ (ys : List A). ys ++ flat_map g xs) (h refl))

-- what leads nowhere needs no place on the stack
pub pruned : {X A : Type 0} (g : X → List A) (p : X → Bool) (xs : List X) → ((x : X) → Contains xs x → p x ≡ false → g x ≡ []) → flat_map g (filter p xs) ≡ flat_map g xs
pruned g p [] h = refl
pruned g p (x ∷ xs) h = prune_by g (p x) x xs (filter p xs) (h x (contains_here x xs)) (pruned g p xs (λ y m. h y (contains_more x y xs m)))

-- what is taken off the stack is replaced by what it leads to, with the last to come off first
pub replaced : {S R : Type 0} (g : S → List R) (found all : List R) (stack rest more row : List S) (x : S) → flat_map g stack ++ reverse found ≡ all → stack ≡ rest ++ x ∷ [] → more ≡ rest ++ row → flat_map g row ≡ g x
    → flat_map g more ++ reverse found ≡ all
replaced {S} {R} g found all stack rest more row x h e f u =
    let a : flat_map g more ≡ flat_map g rest ++ g x = ap (flat_map g) f ∙ flat_map-append g rest row ∙ ap (λ (ys : List R). flat_map g rest ++ ys) u in
    let b : flat_map g stack ≡ flat_map g rest ++ g x = ap (flat_map g) e ∙ flat_map-append g rest (x ∷ []) ∙ ap (λ (ys : List R). flat_map g rest ++ ys) (append-nil (g x)) in
    ap (λ (ys : List R). ys ++ reverse found) (a ∙ sym b) ∙ h

-- what is taken off the stack is found
pub taken : {S R : Type 0} (g : S → List R) (found new all : List R) (stack rest : List S) (x : S) (r : R) → flat_map g stack ++ reverse found ≡ all → stack ≡ rest ++ x ∷ [] → new ≡ found ++ r ∷ [] → g x ≡ r ∷ []
    → flat_map g rest ++ reverse new ≡ all
taken {S} {R} g found new all stack rest x r h e f u =
    let b : flat_map g stack ≡ flat_map g rest ++ r ∷ [] = ap (flat_map g) e ∙ flat_map-append g rest (x ∷ []) ∙ ap (λ (ys : List R). flat_map g rest ++ ys) (append-nil (g x) ∙ u) in
    let n : reverse new ≡ r ∷ reverse found = ap reverse f ∙ reverse-append found (r ∷ []) in
    ap (λ (ys : List R). flat_map g rest ++ ys) n ∙ sym (append_assoc (flat_map g rest) (r ∷ []) (reverse found)) ∙ ap (λ (ys : List R). ys ++ reverse found) (sym b) ∙ h

-- and then fewer were found before than there are
pub taken_length : {S R : Type 0} (g : S → List R) (found all : List R) (stack rest : List S) (x : S) (r : R) → flat_map g stack ++ reverse found ≡ all → stack ≡ rest ++ x ∷ [] → g x ≡ r ∷ [] → length found < length all
taken_length {S} {R} g found all stack rest x r h e u =
    let t = taken g found (found ++ r ∷ []) all stack rest x r h e refl u in
    let n : length all ≡ length (flat_map g rest) + length (reverse (found ++ r ∷ [])) = ap length (sym t) ∙ length-append (flat_map g rest) (reverse (found ++ r ∷ [])) in
    let k : length (reverse (found ++ r ∷ [])) ≡ length found + 1 = length-reverse (found ++ r ∷ []) ∙ length-append found (r ∷ []) in
    omega (arith, n, k)
