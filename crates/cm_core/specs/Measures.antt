-- The sizes of a program: docs/LANGUAGE.md, "Sizes".
use Rattle.std.specs.Prelude.{ℕ, zero, suc, ◌+◌, ◌-◌, ◌*◌, max, Bool, true, false, ◌&&◌, ◌||◌, if◌then◌else◌, List, [], ◌∷◌, length, sum_by, Option, Some, None, slice_index_or}
use Rattle.cm_base.specs.declared.host.HostEnd.{HostEnd}
use Rattle.cm_base.specs.declared.place.LeafId.{LeafId}
use Rattle.cm_base.specs.declared.place.EndId.{EndId}
use Rattle.cm_base.specs.Parts.{is_input, is_event}
use Rattle.cm_core.specs.declared.core_type.StructType.{StructType}
use Rattle.cm_core.specs.declared.expr.CoreExpr.{CoreExpr}
use Rattle.cm_core.specs.declared.program.End.{End}
use Rattle.cm_core.specs.declared.unit.Unit.{Unit as CoreUnit}
use Rattle.cm_core.specs.declared.unit.Var.{Var}
use Rattle.cm_core.specs.declared.unit.Function.{Function}
use Rattle.cm_core.specs.declared.flat.Chain.{Chain}
use Rattle.cm_core.specs.declared.flat.Leaf.{Leaf}
use Rattle.cm_core.specs.declared.flat.Point.{Point}
use Rattle.cm_core.specs.Code.{Stmt, Block, If, Loop, Times, While, Each, For, Advance, Stmts, End as NoMore, More, expr_of, stmt_of, body_of}
use Rattle.cm_core.specs.Linked.{Linked, unit_numbered, unit_at, leaf_ends, leaf_point, host_point, number_among, is_point, filled_chains}
use Rattle.cm_core.specs.Calls.{Numbered, handler_at}
use Rattle.cm_core.specs.Sizes.{scalars, bytes_of, Measured, AsValue, expr_size, stmt_size}

-- ---- functions and handlers

abbrev pub size_among : List ℕ → ℕ → ℕ
size_among sizes f = slice_index_or sizes f 0

abbrev pub measured_in : List StructType → CoreUnit → (ℕ → ℕ) → (ℕ → ℕ) → Measured
measured_in structs unit body chains = record { structs = structs; unit = unit; body = body; chains = chains }

-- the bodies of the functions from this number on, each of which calls only functions of higher numbers
abbrev pub body_sizes : List StructType → CoreUnit → (ℕ → ℕ) → ℕ → List Function → List ℕ
body_sizes structs unit chains n [] = []
body_sizes structs unit chains n (f ∷ fs) =
    let later = body_sizes structs unit chains (n + 1) fs in
    stmt_size (measured_in structs unit (λ g. size_among later (g - (n + 1))) chains) (stmt_of f.body) ∷ later

abbrev pub measured : List StructType → CoreUnit → (ℕ → ℕ) → Measured
measured structs unit chains = measured_in structs unit (size_among (body_sizes structs unit chains 0 unit.functions)) chains

abbrev pub handler_size : Measured → Option Numbered → ℕ
handler_size m None = 0
handler_size m (Some found) = stmt_size m (stmt_of found.1.body)

-- an event chain to the host has no handler, and an input without one has an empty body
abbrev pub reached_size : Linked → (ℕ → ℕ → ℕ) → Option LeafId → EndId → ℕ
reached_size l handled None end = 0
reached_size l handled (Some leaf) end = handled leaf.0 (number_among (leaf_ends l leaf.0) end)

-- for each event chain from a point, the scalars and the body of the handler
abbrev pub along : Linked → (ℕ → ℕ → ℕ) → Point → Chain → ℕ
along l handled from chain =
    if is_event chain.kind && is_point chain.from from then scalars chain.shape + reached_size l handled chain.to.leaf chain.to.end else 0

abbrev pub chains_size : Linked → (ℕ → ℕ → ℕ) → Point → ℕ
chains_size l handled from = sum_by (along l handled from) l.flat.chains

-- the body of the handler of a leaf's input; events go on to further leaves at most as often as there are leaves
abbrev pub handled_size : Linked → ℕ → ℕ → ℕ → ℕ
handled_size l zero j e = 0
handled_size l (suc depth) j e =
    handler_size (measured l.program.structs (unit_at l j) (λ end. chains_size l (handled_size l depth) (leaf_point l j end))) (handler_at (unit_at l j) e)

abbrev pub written_size : Linked → Point → ℕ
written_size l from = chains_size l (handled_size l (length l.flat.leaves)) from

-- ---- the whole

abbrev pub first_size : Measured → Option CoreExpr → ℕ
first_size m None = 0
first_size m (Some e) = expr_size m AsValue (expr_of e)

abbrev pub ends_size : CoreUnit → ℕ
ends_size unit = sum_by (λ (end : End). scalars end.shape) unit.ends

-- 1, the endpoints, the initial values of the state, and the bodies of `init` and `main`
abbrev pub unit_size : Measured → ℕ
unit_size m = 1 + ends_size m.unit + sum_by (λ (v : Var). first_size m v.first) m.unit.state + stmt_size m (body_of m.unit.init) + stmt_size m (body_of m.unit.main)

abbrev pub leaf_size : Linked → ℕ → ℕ
leaf_size l i = unit_size (measured l.program.structs (unit_at l i) (λ e. written_size l (leaf_point l i e)))

abbrev pub leaves_size : Linked → ℕ → List Leaf → ℕ
leaves_size l i [] = 0
leaves_size l i (leaf ∷ leaves) = leaf_size l i + leaves_size l (i + 1) leaves

-- an endpoint of the host: 1 and its scalars, and what an event that comes in counts for its chains
abbrev pub host_size : Linked → ℕ → List HostEnd → ℕ
host_size l k [] = 0
host_size l k (end ∷ ends) = 1 + scalars end.shape + (if is_input end.flow then written_size l (host_point l k) else 0) + host_size l (k + 1) ends

-- the expanded size: the leaves, the chains and the endpoints of the host, and at least 1
abbrev pub expanded_size : Linked → ℕ
expanded_size l = max 1 (leaves_size l 0 l.flat.leaves + sum_by (λ (c : Chain). scalars c.shape) l.flat.chains + host_size l 0 l.program.host)

-- whether a statement is or contains an `advance`
abbrev mutual
  pub advances : Stmt → Bool
  advances (Block ss) = any_advances ss
  advances (If c a b) = advances a || advances b
  advances (Loop s) = advances s
  advances (Times x c s) = advances s
  advances (While c s) = advances s
  advances (Each x s) = advances s
  advances (For start c step s) = advances s
  advances Advance = true
  advances _ = false

  pub any_advances : Stmts → Bool
  any_advances NoMore = false
  any_advances (More s ss) = advances s || any_advances ss

abbrev pub counted : Bool → ℕ
counted true = 1
counted false = 0

-- the statements in a statement, itself among them, that are or contain an `advance`
abbrev mutual
  pub splits_in : Stmt → ℕ
  splits_in (Block ss) = counted (any_advances ss) + splits_among ss
  splits_in (If c a b) = counted (advances a || advances b) + splits_in a + splits_in b
  splits_in (Loop s) = counted (advances s) + splits_in s
  splits_in (Times x c s) = counted (advances s) + splits_in s
  splits_in (While c s) = counted (advances s) + splits_in s
  splits_in (Each x s) = counted (advances s) + splits_in s
  splits_in (For start c step s) = counted (advances s) + splits_in s
  splits_in Advance = 1
  splits_in _ = 0

  pub splits_among : Stmts → ℕ
  splits_among NoMore = 0
  splits_among (More s ss) = splits_in s + splits_among ss

-- the block that is the body of a main isn't counted itself
abbrev pub main_splits : Stmt → ℕ
main_splits (Block ss) = splits_among ss
main_splits s = splits_in s

abbrev pub most_splits : Linked → List Leaf → ℕ
most_splits l [] = 0
most_splits l (leaf ∷ leaves) = max (main_splits (body_of (unit_numbered l (Some leaf)).main)) (most_splits l leaves)

abbrev pub split_points : Linked → ℕ
split_points l = most_splits l l.flat.leaves

-- how many reductions a turn is worth
abbrev pub cost : Linked → ℕ
cost l = 64 * expanded_size l * (1 + split_points l)

-- the entries of a chain's ring
abbrev pub ring_bytes : Chain × ℕ → ℕ
ring_bytes chain = (chain.0.delay + chain.1) * bytes_of chain.0.shape

abbrev pub state_bytes : CoreUnit → ℕ
state_bytes unit = sum_by (λ (v : Var). bytes_of v.shape) unit.state

-- the bytes of memory that the program may use
abbrev pub memory_bytes : Linked → ℕ
memory_bytes l =
    4096 + 64 * (length l.flat.leaves + length l.flat.chains + length l.program.host)
    + 16 * sum_by (λ (leaf : Leaf). ends_size (unit_numbered l (Some leaf))) l.flat.leaves
    + sum_by (λ (leaf : Leaf). state_bytes (unit_numbered l (Some leaf))) l.flat.leaves
    + 16 * expanded_size l + sum_by ring_bytes (filled_chains l)
