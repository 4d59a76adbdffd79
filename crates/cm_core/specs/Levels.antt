-- What calls and events of a program must be, so that they come to an end: each function and each handler has a level, and
-- what its body calls and what its events reach is lower.
use Rattle.std.specs.Prelude.{ℕ, ◌≡◌, ◌<◌, List, [], ◌∷◌, true, Option, Some, None, slice_get}
use Rattle.cm_base.specs.declared.host.Kind.{Kind}
use Rattle.cm_base.specs.declared.host.Kind.TheVariants as kinds
use Rattle.cm_base.specs.declared.place.LeafId.{LeafId}
use Rattle.cm_base.specs.declared.place.EndId.{EndId}
use Rattle.cm_core.specs.declared.flat.Chain.{Chain}
use Rattle.cm_core.specs.declared.flat.Point.{Point}
use Rattle.cm_core.specs.declared.unit.Function.{Function}
use Rattle.cm_core.specs.Code.{Stmt, stmt_of, body_of}
use Rattle.cm_core.specs.World.{Todo, Do, Again}
use Rattle.cm_core.specs.Linked.{Linked, unit_at, leaf_ends, leaf_point, host_point, number_among, is_point, end_of}
use Rattle.cm_core.specs.Calls.{Numbered, handler_at}
use Rattle.cm_core.specs.Uses.{Uses, CallsTest}

-- by the number of the leaf, and of its function or its input
pub record Levels : Type 0 where
  pub function : (leaf function : ℕ) → ℕ
  pub handler : (leaf end : ℕ) → ℕ

-- what an event comes to at an endpoint is lower
abbrev pub Lower : Linked → Levels → ℕ → Option LeafId → EndId → Type 0
Lower l levels level None end = Unit {0}
Lower l levels level (Some leaf) end = levels.handler leaf.0 (number_among (leaf_ends l leaf.0) end) < level

-- what chains lead to from a point is lower
abbrev pub Reaches : Linked → Levels → ℕ → Point → List Chain → Type 0
Reaches l levels level from [] = Unit {0}
Reaches l levels level from (chain ∷ chains) =
    (is_point chain.from from ≡ true → Lower l levels level chain.to.leaf chain.to.end) × Reaches l levels level from chains

abbrev pub WritesBy : Linked → Levels → ℕ → Kind → Point → Type 0
WritesBy l levels level kinds.Stream from = Unit {0}
WritesBy l levels level kinds.Value from = Unit {0}
WritesBy l levels level kinds.Event from = Reaches l levels level from l.flat.chains

-- what a write to an output reaches is lower
abbrev pub Writes : Linked → Levels → ℕ → ℕ → ℕ → Type 0
Writes l levels level i e = WritesBy l levels level (end_of (unit_at l i) e).kind (leaf_point l i e)

-- what code of a leaf calls and reaches is lower
abbrev pub Under : Linked → Levels → ℕ → ℕ → Stmt → Type 0
Under l levels level i s = Uses (λ f. levels.function i f < level) (Writes l levels level i) s

-- the code in a rest
abbrev pub UsesTodo : (call write : ℕ → Type 0) → Todo → Type 0
UsesTodo call write (Do s) = Uses call write s
UsesTodo call write (Again test step s) = CallsTest call test × Uses call write step × Uses call write s

abbrev pub UsesRest : (call write : ℕ → Type 0) → List Todo → Type 0
UsesRest call write [] = Unit {0}
UsesRest call write (todo ∷ rest) = UsesTodo call write todo × UsesRest call write rest

pub record Ends (l : Linked) (levels : Levels) : Type 0 where
  pub functions : (i f : ℕ) (code : Function) → slice_get (unit_at l i).functions f ≡ Some code → Under l levels (levels.function i f) i (stmt_of code.body)
  pub handlers : (j e : ℕ) (found : Numbered) → handler_at (unit_at l j) e ≡ Some found → Under l levels (levels.handler j e) j (stmt_of found.1.body)

-- everything is below the top, which is a depth that is enough
pub record IsLeveled (l : Linked) (levels : Levels) (top : ℕ) : Type 0 where
  pub ends : Ends l levels
  pub inits : (i : ℕ) → Under l levels top i (body_of (unit_at l i).init)
  pub mains : (i : ℕ) → Under l levels top i (body_of (unit_at l i).main)
  pub sends : (k : ℕ) → Reaches l levels top (host_point l k) l.flat.chains
