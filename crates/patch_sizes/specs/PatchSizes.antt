-- The sizes of a patch in which every factor is 1: docs/LANGUAGE.md, "Sizes". They say nothing of a node with another factor, whose
-- sizes are those of what it is rewritten to.
use Rattle.std.specs.Prelude.{ℕ, zero, suc, ◌+◌, ◌*◌, max, ◌&&◌, if◌then◌else◌, List, [], ◌∷◌, length, zip, sum_by, Option, Some, None, slice_get}
use Rattle.cm_base.specs.Parts.{is_input, is_event}
use Rattle.cm_tree.specs.declared.type_expr.Typed.{Typed}
use Rattle.cm_tree.specs.declared.stmt.Stmt.TheVariants as x
use Rattle.cm_tree.specs.declared.shared.Function.{Function as FunctionDecl}
use Rattle.cm_meaning.specs.Declared.{Named, State, Declared, is_main, is_init}
use Rattle.cm_meaning.specs.Scopes.{Around, around_function, patch_names}
use Rattle.cm_meaning.specs.Constants.{type_of_expr}
use Rattle.cm_meaning.specs.TypeOf.{Knowledge, named_type, result_type}
use Rattle.cm_meaning.specs.Types.{CmType}
use Rattle.cm_meaning.specs.Nodes.{inside, End, Leaf}
use Rattle.cm_meaning.specs.Chains.{Point, Chain, leaf_point, host_point}
use Rattle.cm_meaning.specs.Linked.{Linked, ends_at, number_among, is_point}
use Rattle.cm_meaning.specs.Calls.{function_in, Handler, handler_in, around_handler, known_in, depth_of}
use Rattle.cm_meaning.specs.PatchRun.{Found, function_of, members_of}
use Rattle.patch_sizes.specs.Sizes.{scalars_in, scalar_bytes, bytes_in, Measured, optional_size}
use Rattle.patch_sizes.specs.StmtSizes.{stmt_size}
use Rattle.patch_sizes.specs.Splits.{splits_of}

-- ---- functions and handlers

abbrev pub params_size : Around → Knowledge → List Typed → ℕ
params_size r k params = sum_by (λ (t : Typed). scalars_in (type_of_expr r k.look t.ty)) params

abbrev pub body_size : Linked → Declared → FunctionDecl → Measured → ℕ
body_size l d f m = stmt_size (x.Block f.body.place f.body.stmts) (around_function (patch_names l.files) d f) m

-- a call without its arguments: 1, the scalars of the result and of the parameters, and the body
abbrev pub function_size : Linked → Declared → Option FunctionDecl → Measured → ℕ
function_size l d None m = 0
function_size l d (Some f) m =
    1 + scalars_in (result_type (patch_names l.files) m.known d f) + params_size (around_function (patch_names l.files) d f) m.known f.params + body_size l d f m

abbrev pub handler_size : Around → Option Handler → Measured → ℕ
handler_size r None m = 0
handler_size r (Some (t, b)) m = stmt_size (x.Block b.place b.stmts) (around_handler r t) m

-- ---- events

-- the size of the body of the handler of an endpoint of a leaf
abbrev pub Handled : Type 0
Handled = ℕ → ℕ → ℕ

-- an event chain to the host has no handler, and an input without one has an empty body
abbrev pub reached_size : Handled → Option ℕ → ℕ → ℕ
reached_size handled None e = 0
reached_size handled (Some j) e = handled j e

-- for each event chain from a point, the scalars and the body of the handler
abbrev pub along : Handled → Point → Chain → ℕ
along handled from c = if is_event c.kind && is_point c.from from then max 1 (length c.shape) + reached_size handled c.to.leaf c.to.end else 0

abbrev pub chains_size : Linked → Handled → Point → ℕ
chains_size l handled from = sum_by (along handled from) l.chains

-- the scalars of an output that is written, and what its chains count
abbrev pub end_size : Linked → ℕ → Handled → ℕ → Option End → ℕ
end_size l i handled e None = 0
end_size l i handled e (Some end) = scalars_in (Some end.ty) + chains_size l handled (leaf_point i e)

abbrev pub output_size : Linked → ℕ → Handled → Declared → ℕ
output_size l i handled d = end_size l i handled (number_among (ends_at l i) d) (slice_get (ends_at l i) (number_among (ends_at l i) d))

-- ---- calls and handlers within one another

abbrev pub measured_by : Linked → ℕ → (Declared → ℕ) → Handled → Measured
measured_by l i call handled = record { known = known_in (slice_get l.leaves i); call = call; write = output_size l i handled }

abbrev pub handled_at : Linked → Leaf → Option End → Measured → ℕ
handled_at l leaf None m = 0
handled_at l leaf (Some end) m =
    handler_size (inside l.files leaf.instance) (handler_in (inside l.files leaf.instance) end.declared leaf.instance.unit.unit.members) m

abbrev pub handled_in : Linked → Option Leaf → ℕ → Measured → ℕ
handled_in l None e m = 0
handled_in l (Some leaf) e m = handled_at l leaf (slice_get leaf.ends e) m

-- so many within one another; in a patch without a fault there are at most as many as `depth_of` says
abbrev mutual
  pub call_sizes : Linked → ℕ → ℕ → Declared → ℕ
  call_sizes l zero i d = 0
  call_sizes l (suc depth) i d = function_size l d (function_in d.named) (measured_by l i (call_sizes l depth i) (handler_sizes l depth))

  pub handler_sizes : Linked → ℕ → Handled
  handler_sizes l zero j e = 0
  handler_sizes l (suc depth) j e = handled_in l (slice_get l.leaves j) e (measured_by l j (call_sizes l depth j) (handler_sizes l depth))

abbrev pub measured : Linked → ℕ → Measured
measured l i = measured_by l i (call_sizes l (depth_of l) i) (handler_sizes l (depth_of l))

-- ---- leaves

-- the initial value of a variable of the state
abbrev pub first_size : Around → Measured → Declared → ℕ
first_size r m d = by d.named where
  by : Named → ℕ
  by (State ty value) = optional_size value r m
  by _ = 0

-- a missing `init` or `main` has size 0
abbrev pub found_size : Linked → Measured → Option Found → ℕ
found_size l m None = 0
found_size l m (Some found) = body_size l found.0 found.1 m

abbrev pub ends_size : List End → ℕ
ends_size ends = sum_by (λ (end : End). scalars_in (Some end.ty)) ends

-- 1, the endpoints, the initial values of the state, and the bodies of `init` and `main`
abbrev pub leaf_size : Linked → ℕ → Leaf → Measured → ℕ
leaf_size l i leaf m =
    1 + ends_size leaf.ends + sum_by (first_size (inside l.files leaf.instance) m) (members_of leaf.instance)
    + found_size l m (function_of l is_init i) + found_size l m (function_of l is_main i)

-- the leaves from this number on
abbrev pub leaves_size : Linked → ℕ → List Leaf → ℕ
leaves_size l i [] = 0
leaves_size l i (leaf ∷ leaves) = leaf_size l i leaf (measured l i) + leaves_size l (suc i) leaves

-- ---- the whole

-- an endpoint of the host: 1 and its scalars, and what an event that comes in counts for its chains
abbrev pub host_size : Linked → ℕ → List End → ℕ
host_size l k [] = 0
host_size l k (end ∷ ends) =
    1 + scalars_in (Some end.ty) + (if is_input end.flow then chains_size l (handler_sizes l (depth_of l)) (host_point k) else 0) + host_size l (suc k) ends

-- the expanded size: the leaves, the chains and the endpoints of the host, and at least 1
abbrev pub expanded_size : Linked → ℕ
expanded_size l = max 1 (leaves_size l 0 l.leaves + sum_by (λ (c : Chain). max 1 (length c.shape)) l.chains + host_size l 0 l.host)

abbrev pub found_splits : Option Found → ℕ
found_splits None = 0
found_splits (Some found) = splits_of found.1.body.stmts

-- the most split points of a main, of the leaves from this number on
abbrev pub most_splits : Linked → ℕ → List Leaf → ℕ
most_splits l i [] = 0
most_splits l i (leaf ∷ leaves) = max (found_splits (function_of l is_main i)) (most_splits l (suc i) leaves)

abbrev pub split_points : Linked → ℕ
split_points l = most_splits l 0 l.leaves

-- how many reductions a turn is worth
abbrev pub cost : Linked → ℕ
cost l = 64 * expanded_size l * (1 + split_points l)

-- ---- memory

abbrev pub type_bytes : Option CmType → ℕ
type_bytes None = 0
type_bytes (Some t) = bytes_in t

abbrev pub state_bytes : Linked → Leaf → Declared → ℕ
state_bytes l leaf d = by d.named where
  by : Named → ℕ
  by (State ty value) = type_bytes (named_type (patch_names l.files) leaf.instance.known d)
  by _ = 0

abbrev pub leaf_bytes : Linked → Leaf → ℕ
leaf_bytes l leaf = 16 * ends_size leaf.ends + sum_by (state_bytes l leaf) (members_of leaf.instance)

-- the entries of a chain's ring, for its delay and its extra delay
abbrev pub ring_bytes : Chain × ℕ → ℕ
ring_bytes c = (c.0.delay + c.1) * sum_by scalar_bytes c.0.shape

-- the bytes of memory that the patch may use
abbrev pub memory_bytes : Linked → ℕ
memory_bytes l =
    4096 + 64 * (length l.leaves + length l.chains + length l.host) + sum_by (leaf_bytes l) l.leaves + 16 * expanded_size l + sum_by ring_bytes (zip l.chains l.extra)
