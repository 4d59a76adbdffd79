-- What a search keeps of a route: where it starts and ends, its delay, and the places of its first and last connection.
use Rattle.std.specs.Prelude.{ℕ, ◌+◌, ◌*◌, ◌<◌, ◌≤◌, ◌≡◌, Bool, true, false, ◌^◌, zero, suc, List, [], ◌∷◌, Option, Some, None, map, sum_by, nat_lt, slice_index, slice_index_or, Contains}
use Rattle.cm_base.specs.declared.place.EndId.{EndId}
use Rattle.cm_core.specs.declared.link.Connection.{Connection}
use Rattle.cm_core.specs.Tree.{is_among}
use Rattle.cm_core.specs.Routes.{Route, last_of, leaving, routes_from}
use Rattle.graph_flat.specs.declared.paths.Path.{Path}

abbrev pub first_path : Connection → Path
first_path c = record { from = c.from; to = c.to; delay = c.delay; first = c.place; last = c.place }

-- a path, and one that goes on where it ends
abbrev pub joined : Path → Path → Path
joined x y = record { from = x.from; to = y.to; delay = x.delay + y.delay; first = x.first; last = y.last }

abbrev pub extended : Path → Connection → Path
extended x c = joined x (first_path c)

-- a path, and one that may go on where it ends
abbrev pub jumped : Option Path → Path → Path
jumped None x = x
jumped (Some y) x = joined x y

-- a connection, and the jump from where it ends
abbrev pub leap : List (Option Path) → Connection → Path
leap jumps c = jumped (slice_index_or jumps c.to.0 None) (first_path c)

abbrev pub next_path : List (Option Path) → Path → Connection → Path
next_path jumps x c = joined x (leap jumps c)

-- a jump with a delay to which another can be added
abbrev pub IsShort : Option Path → Type 0
IsShort None = Unit {0}
IsShort (Some y) = y.delay < 2 ^ 60

abbrev pub delay_sum : Route → ℕ
delay_sum r = sum_by (λ (c : Connection). c.delay) (r.first ∷ r.others)

-- a route as a path, and a path followed by a route
abbrev pub path_of : Route → Path
path_of r = record { from = r.first.from; to = (last_of r).to; delay = delay_sum r; first = r.first.place; last = (last_of r).place }

abbrev pub with_route : Path → Route → Path
with_route x r = joined x (path_of r)

abbrev pub completed : Bool → Path → List Route → List Path
completed true x rs = x ∷ []
completed false x rs = map (with_route x) rs

-- the paths to targets that begin with a path
abbrev pub paths_on : List Connection → List EndId → ℕ → Path → List Path
paths_on cs goals d x = completed (is_among x.to goals) x (routes_from cs goals d x.to)

-- how many steps a search takes from an endpoint
abbrev pub steps_by : Bool → ℕ → ℕ
steps_by true more = 1
steps_by false more = more + 1

abbrev pub steps_from : List Connection → List EndId → ℕ → EndId → ℕ
steps_from cs goals zero e = 1
steps_from cs goals (suc d) e = steps_by (is_among e goals) (sum_by (λ (c : Connection). steps_from cs goals d c.to) (leaving cs e))

-- numbers that fall along each connection
pub record Falls (cs : List Connection) (n : ℕ) (rank : ℕ → ℕ) : Type 0 where
  pub falls : (c : Connection) → Contains cs c → rank c.to.0 < rank c.from.0
  pub low : (q : ℕ) → rank q ≤ n

-- whether something leads on from a connection
abbrev pub is_live : List ℕ → Connection → Bool
is_live counts c = nat_lt 0 (slice_index counts c.to.0)

-- a path that ends at an endpoint that is there, and has no more delay than its connections can have
pub record IsLow (n : ℕ) (rank : ℕ → ℕ) (x : Path) : Type 0 where
  pub within : x.to.0 < n
  pub delay : x.delay + 1048576 * rank x.to.0 ≤ 1048576 * rank x.from.0

-- a path that each route from an endpoint takes
pub record IsJump (cs : List Connection) (goals : List EndId) (n : ℕ) (rank : ℕ → ℕ) (e : EndId) (y : Path) : Type 0 where
  pub low : IsLow n rank y
  pub from : y.from ≡ e
  pub steps : steps_from cs goals n y.to ≤ steps_from cs goals n e
  pub same : (x : Path) → x.to ≡ e → paths_on cs goals n x ≡ paths_on cs goals n (joined x y)

abbrev pub MayJump : List Connection → List EndId → ℕ → (ℕ → ℕ) → EndId → Option Path → Type 0
MayJump cs goals n rank e None = Unit {0}
MayJump cs goals n rank e (Some y) = IsJump cs goals n rank e y

-- both ends of a connection are below n, and its delay is one
pub record IsBelow (n : ℕ) (c : Connection) : Type 0 where
  pub from : c.from.0 < n
  pub to : c.to.0 < n
  pub delay : c.delay ≤ 1048576
