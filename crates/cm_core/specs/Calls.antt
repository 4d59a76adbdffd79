-- Calls, handlers and deliveries, which code is tied to: docs/LANGUAGE.md, "Functions" and "Events".
use Rattle.std.specs.Prelude.{ℕ, zero, suc, ◌+◌, ◌==◌, Bool, true, false, if◌then◌else◌, List, [], ◌∷◌, ◌++◌, length, take, drop, Option, Some, None, slice_get, slice_set, ℤ}
use Rattle.cm_base.specs.declared.host.Kind.{Kind}
use Rattle.cm_base.specs.declared.host.Kind.TheVariants as kinds
use Rattle.cm_base.specs.declared.host.Scalar.{Scalar}
use Rattle.cm_base.specs.declared.play.Item.TheVariants as item
use Rattle.cm_base.specs.declared.place.LeafId.{LeafId}
use Rattle.cm_base.specs.declared.place.EndId.{EndId}
use Rattle.cm_scalar.specs.Scalars.{converted}
use Rattle.cm_core.specs.declared.core_type.BaseType.{BaseType}
use Rattle.cm_core.specs.declared.core_type.BaseType.TheVariants as base
use Rattle.cm_core.specs.declared.core_type.CoreType.{CoreType}
use Rattle.cm_core.specs.declared.flat.Chain.{Chain}
use Rattle.cm_core.specs.declared.flat.Point.{Point}
use Rattle.cm_core.specs.declared.unit.Unit.{Unit as CoreUnit}
use Rattle.cm_core.specs.declared.unit.Function.{Function}
use Rattle.cm_core.specs.declared.unit.Handler.{Handler}
use Rattle.cm_core.specs.declared.unit.Local.{Local}
use Rattle.cm_core.specs.declared.unit.Home.{Home}
use Rattle.cm_core.specs.declared.unit.Home.TheVariants as home
use Rattle.cm_core.specs.Code.{Stmt, stmt_of}
use Rattle.cm_core.specs.Types.{zeros}
use Rattle.cm_core.specs.World.{World, leaf_at, with_leaf, value_at, with_store, put_all, tell}
use Rattle.cm_core.specs.Acts.{Act, Done, done, andthen, after, gives, change, quiet}
use Rattle.cm_core.specs.Eval.{Hooks, number_of}
use Rattle.cm_core.specs.Resume.{On, Broke, Continued, Returned, Ending, Goes, Pauses, exec}
use Rattle.cm_core.specs.Linked.{Linked, unit_at, leaf_ends, leaf_point, host_ends, number_among, is_point, sum_of, value_to, end_of}

-- ---- where locals live

abbrev pub is_home : Home → Home → Bool
is_home home.Kept home.Kept = true
is_home home.Init home.Init = true
is_home home.Main home.Main = true
is_home (home.Function m) (home.Function n) = m == n
is_home (home.Handler m) (home.Handler n) = m == n
is_home _ _ = false

abbrev pub fresh : Home → List Local → List (List ℤ) → List (List ℤ)
fresh at [] values = values
fresh at (l ∷ locals) [] = []
fresh at (l ∷ locals) (value ∷ values) = (if is_home at l.home then zeros (length l.shape) else value) ∷ fresh at locals values

abbrev pub fresh_store : CoreUnit → Home → List (List ℤ) → List (List ℤ)
fresh_store unit at store = take (length unit.state) store ++ fresh at unit.locals (drop (length unit.state) store)

-- the locals that live there are zero whenever a body begins or goes on
abbrev pub enter : Linked → ℕ → Home → World → World
enter l i at w = with_store i (fresh_store (unit_at l i) at (leaf_at i w).store) w

-- ---- bodies with arguments

abbrev pub result_of : Ending → List ℤ
result_of (Goes On) = []
result_of (Goes Broke) = []
result_of (Goes Continued) = []
result_of (Goes (Returned value)) = value
result_of (Pauses rest) = []

-- a body begins with its locals zero and its parameters, from this variable on, set
abbrev pub run : Linked → Home → ℕ → List (List ℤ) → Stmt → Hooks → Act (List ℤ)
run l at first values body h =
    after (change (λ w. put_all h.leaf first values (enter l h.leaf at w))) (andthen (exec body h) (λ end. gives (result_of end)))

abbrev pub run_function : Linked → ℕ → Option Function → List (List ℤ) → Hooks → Act (List ℤ)
run_function l f None values h = gives []
run_function l f (Some function) values h = run l (home.Function f) function.first values (stmt_of function.body) h

-- a handler's parameter takes the value by implicit conversion to its type
abbrev pub as_type : BaseType → List ℕ → List ℤ → List ℤ
as_type (base.Scalar kind) [] value = converted kind (number_of value) ∷ []
as_type _ _ value = value

abbrev pub as_parameter : CoreType → List ℤ → List ℤ
as_parameter ty value = as_type ty.base ty.lengths value

-- a handler and its number
abbrev pub Numbered : Type 0
Numbered = ℕ × Handler

-- the handler of an input among those from this number on
abbrev pub handler_among : ℕ → ℕ → List Handler → Option Numbered
handler_among e k [] = None
handler_among e k (handler ∷ handlers) = if handler.end == e then Some (k, handler) else handler_among e (k + 1) handlers

abbrev pub handler_at : CoreUnit → ℕ → Option Numbered
handler_at unit e = handler_among e 0 unit.handlers

-- a leaf without a handler does nothing
abbrev pub run_handler : Linked → Option Numbered → List ℤ → Hooks → Act Done
run_handler l None value h = gives done
run_handler l (Some found) value h =
    quiet (run l (home.Handler found.0) found.1.first (as_parameter found.1.param.ty value ∷ []) (stmt_of found.1.body) h)

-- ---- deliveries

abbrev pub Handle : Type 0
Handle = ℕ → ℕ → List ℤ → Act Done

abbrev pub tell_event : ℕ → List ℤ → World → World
tell_event k value w = tell (item.Event w.frame k value) w

-- at an output of the host the event is told, and at a leaf its handler is run
abbrev pub reach : Linked → Option LeafId → EndId → Handle → List ℤ → Act Done
reach l None end handle value = change (tell_event (number_among (host_ends l) end) value)
reach l (Some leaf) end handle value = handle leaf.0 (number_among (leaf_ends l leaf.0) end) value

-- along each chain from the source, in order
abbrev pub deliver : Linked → List Chain → Point → Handle → List ℤ → Act Done
deliver l [] from handle value = gives done
deliver l (chain ∷ chains) from handle value =
    after (if is_point chain.from from then reach l chain.to.leaf chain.to.end handle value else gives done) (deliver l chains from handle value)

-- ---- endpoints

-- a stream input is as it was last renewed, and a value input is its source's current value
abbrev pub input_by : Linked → Kind → List Scalar → ℕ → ℕ → World → List ℤ
input_by l kinds.Stream shape i e w = value_at (leaf_at i w).inputs e
input_by l kinds.Value shape i e w = value_to l (leaf_point l i e) shape w
input_by l kinds.Event shape i e w = []

abbrev pub input_of : Linked → ℕ → ℕ → World → List ℤ
input_of l i e w = input_by l (end_of (unit_at l i) e).kind (end_of (unit_at l i) e).shape i e w

abbrev pub add_to : List Scalar → ℕ → ℕ → List ℤ → World → World
add_to shape i e value w = with_leaf i (record (leaf_at i w) { sums = slice_set (leaf_at i w).sums e (sum_of shape (value_at (leaf_at i w).sums e) value) }) w

abbrev pub replace : ℕ → ℕ → List ℤ → World → World
replace i e value w = with_leaf i (record (leaf_at i w) { values = slice_set (leaf_at i w).values e value }) w

-- a write adds to the sum of a stream, replaces a value, and delivers an event
abbrev pub write_by : Linked → Kind → List Scalar → ℕ → ℕ → Handle → List ℤ → Act Done
write_by l kinds.Stream shape i e handle value = change (add_to shape i e value)
write_by l kinds.Value shape i e handle value = change (replace i e value)
write_by l kinds.Event shape i e handle value = deliver l l.flat.chains (leaf_point l i e) handle value

abbrev pub write_of : Linked → ℕ → Handle → ℕ → List ℤ → Act Done
write_of l i handle e value = write_by l (end_of (unit_at l i) e).kind (end_of (unit_at l i) e).shape i e handle value

-- ---- calls and handlers within one another

abbrev pub tied : Linked → ℕ → (ℕ → List (List ℤ) → Act (List ℤ)) → Handle → Hooks
tied l i call handle =
    record { structs = l.program.structs; unit = unit_at l i; leaf = i; input = input_of l i; call = call; write = write_of l i handle }

-- calls and handlers, so many within one another; in a lawful program no function is active twice and no event comes back,
-- so that there are at most as many as `depth_of` says
abbrev mutual
  pub calls : Linked → ℕ → ℕ → ℕ → List (List ℤ) → Act (List ℤ)
  calls l zero i f values = gives []
  calls l (suc depth) i f values = run_function l f (slice_get (unit_at l i).functions f) values (tied l i (calls l depth i) (handles l depth))

  pub handles : Linked → ℕ → Handle
  handles l zero j e value = gives done
  handles l (suc depth) j e value = run_handler l (handler_at (unit_at l j) e) value (tied l j (calls l depth j) (handles l depth))

abbrev pub hooks : Linked → ℕ → ℕ → Hooks
hooks l depth i = tied l i (calls l depth i) (handles l depth)

-- a handler and all functions of each of these leaves
abbrev pub bodies_of : Linked → List LeafId → ℕ
bodies_of l [] = 0
bodies_of l (leaf ∷ leaves) = suc (length (unit_at l leaf.0).functions) + bodies_of l leaves

abbrev pub depth_of : Linked → ℕ
depth_of l = bodies_of l l.order
