-- Calls, handlers and deliveries, which code is tied to: docs/LANGUAGE.md, "Functions" and "Events".
use Rattle.std.specs.Prelude.{ℕ, zero, suc, ◌+◌, Bool, false, if◌then◌else◌, List, [], ◌∷◌, length, filter, Option, Some, None, is_some, slice_get, slice_set, ℤ}
use Rattle.cm_base.specs.declared.host.Kind.{Kind}
use Rattle.cm_base.specs.declared.host.Kind.TheVariants as kinds
use Rattle.cm_base.specs.declared.play.Item.TheVariants as item
use Rattle.cm_tree.specs.declared.type_expr.Typed.{Typed}
use Rattle.cm_tree.specs.declared.stmt.Block.{Block}
use Rattle.cm_tree.specs.declared.stmt.Stmt.TheVariants as x
use Rattle.cm_tree.specs.declared.shared.Function.{Function as FunctionDecl}
use Rattle.cm_tree.specs.declared.member.Member.{Member}
use Rattle.cm_tree.specs.declared.member.Member.TheVariants as m
use Rattle.cm_meaning.specs.Declared.{Named, Function, Home, Declared, is_function}
use Rattle.cm_meaning.specs.Scopes.{Around, parameter, around_function, scoped, find_word, patch_names, unit_names}
use Rattle.cm_meaning.specs.Types.{CmType, is_place, flat, flat_value}
use Rattle.cm_meaning.specs.Conversions.{Valued}
use Rattle.cm_meaning.specs.Constants.{Nothing, type_of_expr}
use Rattle.cm_meaning.specs.TypeOf.{Knowledge, result_type}
use Rattle.cm_meaning.specs.Nodes.{inside, End, Leaf}
use Rattle.cm_meaning.specs.Chains.{Point, Chain, leaf_point}
use Rattle.cm_meaning.specs.Linked.{Linked, value_from, sum_of, number_among, ends_at, is_point, value_to}
use Rattle.cm_meaning.specs.Stores.{missing, as_type, cell, Scope, Store, state_of, with_state}
use Rattle.cm_meaning.specs.World.{World, leaf_at, with_leaf, value_at, store_at, tell}
use Rattle.cm_meaning.specs.Acts.{Act, Done, done, andthen, after, gives, look, change, quiet}
use Rattle.cm_meaning.specs.Eval.{Hooks}
use Rattle.cm_meaning.specs.Performs.{change_store}
use Rattle.cm_meaning.specs.Resume.{On, Broke, Continued, Returned, Ending, Goes, Pauses, exec}

-- ---- bodies with arguments

abbrev pub result_of : Ending → Option Valued
result_of (Goes On) = None
result_of (Goes Broke) = None
result_of (Goes Continued) = None
result_of (Goes (Returned value)) = value
result_of (Pauses rest) = None

-- each argument by implicit conversion to the type of its parameter
abbrev pub bound : Around → Knowledge → List Typed → List Valued → Scope
bound r k (t ∷ params) (v ∷ values) = cell t.name.place (as_type (type_of_expr r k.look t.ty) v) ∷ bound r k params values
bound r k _ _ = []

-- a body of a processor has its arguments above the state, and one of a namespace has them above nothing
abbrev pub above : Home → Store → Store
above home store = if is_some home.unit then state_of store else []

-- the store that was there comes back, with what the state became
abbrev pub back : Home → Store → Store → Store
back home before store = if is_some home.unit then with_state (state_of store) before else before

abbrev pub run : Around → Scope → Block → Hooks → Act (Option Valued)
run r args body h =
    andthen (look (store_at h.leaf))
    (λ before.
    after (change_store h (λ store. args ∷ above r.home store))
    (andthen (exec (x.Block body.place body.stmts) r h) (λ end. after (change_store h (back r.home before)) (gives (result_of end)))))

abbrev pub result_as : Option CmType → Option Valued → Valued
result_as t None = missing
result_as t (Some v) = as_type t v

abbrev pub function_in : Named → Option FunctionDecl
function_in (Function f) = Some f
function_in _ = None

-- the value by implicit conversion to the type of the result
abbrev pub run_found : Linked → Declared → Option FunctionDecl → List Valued → Hooks → Act Valued
run_found l x None values h = gives missing
run_found l x (Some f) values h =
    andthen (run (around_function (patch_names l.files) x f) (bound (around_function (patch_names l.files) x f) h.known f.params values) f.body h)
    (λ v. gives (result_as (result_type (patch_names l.files) h.known x f) v))

abbrev pub run_function : Linked → Declared → List Valued → Hooks → Act Valued
run_function l x values h = run_found l x (function_in x.named) values h

-- a handler: its parameter and its body
abbrev pub Handler : Type 0
Handler = Typed × Block

abbrev pub is_found : Option Declared → Declared → Bool
is_found None x = false
is_found (Some y) x = is_place y.word.place x.word.place

-- the handler of an endpoint among the members of a processor
abbrev pub handler_in : Around → Declared → List Member → Option Handler
handler_in r x [] = None
handler_in r x (m.Handler p w t b ∷ members) = if is_found (find_word r w) x then Some (t, b) else handler_in r x members
handler_in r x (_ ∷ members) = handler_in r x members

abbrev pub around_handler : Around → Typed → Around
around_handler r t = scoped r (parameter r.home t ∷ [])

-- a handler's parameter takes what its input carries, as a function's takes its argument; without a handler nothing is done
abbrev pub run_handler : Around → Option Handler → Valued → Hooks → Act Done
run_handler r None v h = gives done
run_handler r (Some (t, b)) v h = quiet (run (around_handler r t) (bound (around_handler r t) h.known (t ∷ []) (v ∷ [])) b h)

-- ---- deliveries

abbrev pub Handle : Type 0
Handle = ℕ → ℕ → List ℤ → Act Done

abbrev pub tell_event : ℕ → List ℤ → World → World
tell_event k value w = tell (item.Event w.frame k value) w

-- at an output of the host the event is told, and at a leaf its handler is run
abbrev pub reach : Option ℕ → ℕ → Handle → List ℤ → Act Done
reach None k handle value = change (tell_event k value)
reach (Some j) e handle value = handle j e value

-- along each chain from the source, in order
abbrev pub deliver : List Chain → Point → Handle → List ℤ → Act Done
deliver [] from handle value = gives done
deliver (c ∷ chains) from handle value = after (if is_point c.from from then reach c.to.leaf c.to.end handle value else gives done) (deliver chains from handle value)

-- ---- endpoints

-- a stream input is as it was last renewed, and a value input is its source's current value
abbrev pub input_scalars : Linked → Kind → ℕ → ℕ → CmType → World → List ℤ
input_scalars l kinds.Stream i e t w = value_at (leaf_at i w).inputs e
input_scalars l kinds.Value i e t w = value_to l (leaf_point i e) (flat t) w
input_scalars l kinds.Event i e t w = []

abbrev pub input_by : Linked → ℕ → ℕ → Option End → World → Valued
input_by l i e None w = missing
input_by l i e (Some end) w = record { ty = end.ty; value = value_from end.ty (input_scalars l end.kind i e end.ty w) }

abbrev pub input_of : Linked → ℕ → Declared → World → Valued
input_of l i x w = input_by l i (number_among (ends_at l i) x) (slice_get (ends_at l i) (number_among (ends_at l i) x)) w

abbrev pub add_to : CmType → ℕ → ℕ → List ℤ → World → World
add_to t i e value w =
    with_leaf i (record (leaf_at i w) { sums = slice_set (leaf_at i w).sums e (sum_of (flat t) (value_at (leaf_at i w).sums e) value) }) w

abbrev pub replace : ℕ → ℕ → List ℤ → World → World
replace i e value w = with_leaf i (record (leaf_at i w) { values = slice_set (leaf_at i w).values e value }) w

-- a write adds to the sum of a stream, replaces a value, and delivers an event
abbrev pub write_scalars : Linked → Kind → ℕ → ℕ → CmType → Handle → List ℤ → Act Done
write_scalars l kinds.Stream i e t handle value = change (add_to t i e value)
write_scalars l kinds.Value i e t handle value = change (replace i e value)
write_scalars l kinds.Event i e t handle value = deliver l.chains (leaf_point i e) handle value

abbrev pub write_by : Linked → ℕ → Handle → ℕ → Option End → Valued → Act Done
write_by l i handle e None v = gives done
write_by l i handle e (Some end) v = write_scalars l end.kind i e end.ty handle (flat_value (as_type (Some end.ty) v).value)

abbrev pub write_of : Linked → ℕ → Handle → Declared → Valued → Act Done
write_of l i handle x v = write_by l i handle (number_among (ends_at l i) x) (slice_get (ends_at l i) (number_among (ends_at l i) x)) v

-- ---- calls and handlers within one another

abbrev pub known_in : Option Leaf → Knowledge
known_in None = record { look = λ x. Nothing; local = λ x. None }
known_in (Some leaf) = leaf.instance.known

abbrev pub tied : Linked → ℕ → (Declared → List Valued → Act Valued) → Handle → Hooks
tied l i call handle = record { leaf = i; known = known_in (slice_get l.leaves i); input = input_of l i; call = call; write = write_of l i handle }

-- the handler of an endpoint of a leaf gets the value
abbrev pub handled_at : Linked → Leaf → Option End → List ℤ → Hooks → Act Done
handled_at l leaf None value h = gives done
handled_at l leaf (Some end) value h =
    run_handler (inside l.files leaf.instance) (handler_in (inside l.files leaf.instance) end.declared leaf.instance.unit.unit.members)
    (record { ty = end.ty; value = value_from end.ty value }) h

abbrev pub handled : Linked → Option Leaf → ℕ → List ℤ → Hooks → Act Done
handled l None e value h = gives done
handled l (Some leaf) e value h = handled_at l leaf (slice_get leaf.ends e) value h

-- calls and handlers, so many within one another; in a patch without a fault no function is active twice and no event comes
-- back, so that there are at most as many as `depth_of` says
abbrev mutual
  pub calls : Linked → ℕ → ℕ → Declared → List Valued → Act Valued
  calls l zero i x values = gives missing
  calls l (suc depth) i x values = run_function l x values (tied l i (calls l depth i) (handles l depth))

  pub handles : Linked → ℕ → Handle
  handles l zero j e value = gives done
  handles l (suc depth) j e value = handled l (slice_get l.leaves j) e value (tied l j (calls l depth j) (handles l depth))

abbrev pub hooks : Linked → ℕ → ℕ → Hooks
hooks l depth i = tied l i (calls l depth i) (handles l depth)

-- how many functions are declared in a list
abbrev pub functions_in : List Declared → ℕ
functions_in names = length (filter (λ (x : Declared). is_function x.named) names)

-- a handler and all functions of each of these leaves, those of namespaces among them
abbrev pub bodies_of : Linked → List Leaf → ℕ
bodies_of l [] = 0
bodies_of l (leaf ∷ leaves) =
    suc (functions_in (patch_names l.files) + functions_in (unit_names leaf.instance.unit.declared.home.space leaf.instance.unit.unit)) + bodies_of l leaves

abbrev pub depth_of : Linked → ℕ
depth_of l = bodies_of l l.leaves
