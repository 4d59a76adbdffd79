-- Loops of connections, and cycles of their edges.
use Rattle.std.proofs.Common.{◌≡◌, ℕ, ◌-◌, ◌<◌, Bool, true, false, List, [], ◌∷◌, length, get_or, refl, ap, ◌∙◌, sym, arith, zero, suc, subst, Some, None}
use Rattle.std.specs.Prelude.{◌==◌, ◌&&◌, ◌||◌, map, Contains, slice_get}
use Rattle.std.specs.List.{list_any}
use Rattle.std.proofs.lemmas.Bool.{eqb-true}
use Rattle.cm_base.specs.declared.place.EndId.{EndId}
use Rattle.cm_base.specs.declared.place.Place.{Place}
use Rattle.cm_core.specs.declared.link.Connection.{Connection}
use Rattle.cm_core.specs.GraphFaults.{Follows, visited, IsWireLoop}
use Rattle.graph_search.specs.declared.edges.Edge.{Edge}
use Rattle.graph_search.specs.Orders.{IsCycle}
use Rattle.graph_search.specs.Paths.{LeadsThrough}
use Rattle.graph_flat.specs.Edges.{edge_of, leads, IsPlaceBetween}
use Rattle.graph_flat.specs.Paths.{Falls}
use Rattle.graph_flat.proofs.Stack.{contains_here, contains_more}

-- edges between two numbers are connections that lead from one to the other
pub any_leads : (cs : List Connection) (p q : ℕ) → list_any (λ (e : Edge). (e.from == p) && (e.to == q)) (map edge_of cs) ≡ list_any (leads p q) cs
any_leads [] p q = refl
any_leads (c ∷ cs) p q = ap (λ (b : Bool). leads p q c || b) (any_leads cs p q)

pub record Between (cs : List Connection) (p q : ℕ) : Type 0 where
  pub one : Connection
  pub known : Contains cs one
  pub from : one.from.0 ≡ p
  pub to : one.to.0 ≡ q

both : (a b : Bool) → (a && b) ≡ true → (a ≡ true) × (b ≡ true)
both true true h = (refl, refl)
both true false h = cc
both false b h = cc

pub leads_are : (p q : ℕ) (c : Connection) → leads p q c ≡ true → (c.from.0 ≡ p) × (c.to.0 ≡ q)
leads_are p q c h = let b = both (c.from.0 == p) (c.to.0 == q) h in (eqb-true c.from.0 p b.0, eqb-true c.to.0 q b.1)

between_by : (b : Bool) (cs : List Connection) (c : Connection) (p q : ℕ) → leads p q c ≡ b → (b || list_any (leads p q) cs) ≡ true → (list_any (leads p q) cs ≡ true → Between cs p q) → Between (c ∷ cs) p q
between_by true cs c p q e h rest = let l = leads_are p q c e in record { one = c; known = contains_here c cs; from = l.0; to = l.1 }
between_by false cs c p q e h rest = let b = rest h in record { one = b.one; known = contains_more c b.one cs b.known; from = b.from; to = b.to }

between : (cs : List Connection) (p q : ℕ) → list_any (leads p q) cs ≡ true → Between cs p q
between [] p q h = absurd (let f : false ≡ true = h in cc)
between (c ∷ cs) p q h = between_by (leads p q c) cs c p q refl h (between cs p q)

-- connections that go on from one to an endpoint
record Walk (cs : List Connection) (c : Connection) (k q : ℕ) : Type 0 where
  others : List Connection
  known : (x : Connection) → Contains (c ∷ others) x → Contains cs x
  follows : Follows c others
  ends : slice_get (map (λ (d : Connection). d.to) (c ∷ others)) (suc k) ≡ Some (record { 0 = q })

end_is : (e : EndId) (q : ℕ) → e.0 ≡ q → e ≡ record { 0 = q }
end_is e q h = ap (λ (k : ℕ). let i : EndId = record { 0 = k } in i) h

ends_same : (e f : EndId) → e.0 ≡ f.0 → e ≡ f
ends_same e f h = ap (λ (k : ℕ). let i : EndId = record { 0 = k } in i) h

known_more : (cs : List Connection) (c : Connection) (ds : List Connection) → Contains cs c → ((x : Connection) → Contains ds x → Contains cs x) → (x : Connection) → Contains (c ∷ ds) x → Contains cs x
known_more cs c ds m h x (zero, lt, e) = let f : c ≡ x = e in subst (Contains cs) f m
known_more cs c ds m h x (suc k, lt, e) = h x (k, omega (arith, lt), e)

walk : (cs : List Connection) (p : ℕ) (hs : List ℕ) (q : ℕ) → LeadsThrough (map edge_of cs) p hs q → (c : Connection) → c.to.0 ≡ p → Contains cs c → Walk cs c (length hs) q
walk cs p [] q l c e m =
    let b = between cs p q (sym (any_leads cs p q) ∙ l) in
    record {
      others = b.one ∷ [];
      known = known_more cs c (b.one ∷ []) m (known_more cs b.one [] b.known (λ x n. absurd (let lt = n.1 in omega (arith, lt))));
      follows = (ends_same b.one.from c.to (b.from ∙ sym e), tt);
      ends = ap (λ (i : EndId). Some i) (end_is b.one.to q b.to);
    }
walk cs p (h ∷ hs) q l c e m =
    let b = between cs p h (sym (any_leads cs p h) ∙ l.0) in
    let w = walk cs h hs q l.1 b.one b.to b.known in
    record {
      others = b.one ∷ w.others;
      known = known_more cs c (b.one ∷ w.others) m w.known;
      follows = (ends_same b.one.from c.to (b.from ∙ sym e), w.follows);
      ends = w.ends;
    }

-- a cycle of the edges is a loop of the connections, which begins with one that closes it
pub wire_loop : (cs : List Connection) (cycle : List ℕ) (place : Place) → IsCycle (map edge_of cs) cycle
    → ((es : List Edge) (first : ℕ) (rest : List ℕ) → IsCycle es (first ∷ rest) → LeadsThrough es first rest first)
    → IsPlaceBetween cs (get_or cycle (length cycle - 1) 0) (get_or cycle 0 0) place → IsWireLoop cs place
wire_loop cs [] place h law between = absurd (let s = h.some in omega (arith, s))
wire_loop cs (first ∷ rest) place h law (c, m, from, to, at) =
    let w = walk cs first rest first (law (map edge_of cs) first rest h) c to m in
    record {
      first = c;
      others = w.others;
      known = w.known;
      follows = w.follows;
      once = 1;
      again = suc (suc (length rest));
      order = omega arith;
      twice = (record { 0 = first }, ap (λ (i : EndId). Some i) (end_is c.to first to), w.ends);
      at = at;
    }

none_some : (e : EndId) → None ≡ Some e → ⊥
none_some e h = cc

-- where a rank falls along each connection, it falls on the way
below_first : (cs : List Connection) (n : ℕ) (rank : ℕ → ℕ) → Falls cs n rank → (c : Connection) (others : List Connection) → ((x : Connection) → Contains (c ∷ others) x → Contains cs x) → Follows c others
    → (k : ℕ) (e : EndId) → slice_get (map (λ (d : Connection). d.to) (c ∷ others)) k ≡ Some e → rank e.0 < rank c.from.0
below_first cs n rank h c others known f zero e at = let same : c.to ≡ e = cc in let l = h.falls c (known c (contains_here c others)) in subst (λ (i : EndId). rank i.0 < rank c.from.0) same l
below_first cs n rank h c [] known f (suc k) e at = absurd (none_some e at)
below_first cs n rank h c (d ∷ ds) known f (suc k) e at =
    let l = h.falls c (known c (contains_here c (d ∷ ds))) in
    let r = below_first cs n rank h d ds (λ x m. known x (contains_more c x (d ∷ ds) m)) f.1 k e at in
    let s : rank d.from.0 ≡ rank c.to.0 = ap (λ (i : EndId). rank i.0) f.0 in
    omega (arith, l, r, s)

never_twice : (cs : List Connection) (n : ℕ) (rank : ℕ → ℕ) → Falls cs n rank → (c : Connection) (others : List Connection) → ((x : Connection) → Contains (c ∷ others) x → Contains cs x) → Follows c others
    → (once again : ℕ) (e : EndId) → once < again → slice_get (visited c others) once ≡ Some e → slice_get (visited c others) again ≡ Some e → ⊥
never_twice cs n rank h c others known f once zero e lt a b = absurd (omega (arith, lt))
never_twice cs n rank h c others known f zero (suc k) e lt a b =
    let same : c.from ≡ e = cc in
    let l = below_first cs n rank h c others known f k e b in
    let s : rank c.from.0 ≡ rank e.0 = ap (λ (i : EndId). rank i.0) same in
    omega (arith, l, s)
never_twice cs n rank h c [] known f (suc o) (suc zero) e lt a b = absurd (omega (arith, lt))
never_twice cs n rank h c [] known f (suc o) (suc (suc k)) e lt a b = none_some e b
never_twice cs n rank h c (d ∷ ds) known f (suc o) (suc k) e lt a b =
    let at : ℕ → EndId → Type 0 = λ j i. slice_get (i ∷ map (λ (d : Connection). d.to) (d ∷ ds)) j ≡ Some e in
    never_twice cs n rank h d ds (λ x m. known x (contains_more c x (d ∷ ds) m)) f.1 o k e (omega (arith, lt)) (subst (at o) (sym f.0) a) (subst (at k) (sym f.0) b)

pub no_wire_loop : (cs : List Connection) (n : ℕ) (rank : ℕ → ℕ) → Falls cs n rank → (place : Place) → ¬ IsWireLoop cs place
no_wire_loop cs n rank h place l = never_twice cs n rank h l.first l.others l.known l.follows l.once l.again l.twice.0 l.order l.twice.1 l.twice.2
