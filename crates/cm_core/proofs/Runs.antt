-- Calls, deliveries, leaves and parts are steady, and so a run that ends with some turns ends in the same way with more.
use Rattle.std.proofs.Common.{ℕ, zero, suc, ◌+◌, ◌-◌, List, [], ◌∷◌, if◌then◌else◌, refl, sym, ap, subst, Option, Some, None, ℤ}
use Rattle.std.specs.Prelude.{slice_get}
use Rattle.cm_base.specs.declared.host.Kind.{Kind}
use Rattle.cm_base.specs.declared.host.Kind.TheVariants as kinds
use Rattle.cm_base.specs.declared.host.Scalar.{Scalar}
use Rattle.cm_base.specs.declared.place.LeafId.{LeafId}
use Rattle.cm_base.specs.declared.place.EndId.{EndId}
use Rattle.cm_base.specs.declared.play.Item.TheVariants as item
use Rattle.cm_base.specs.Parts.{Part, Init, Send, Frame, Task, Set, Begin}
use Rattle.cm_base.specs.Players.{Left, Goes, Spent, Traps, Stop, after_part, stops}
use Rattle.cm_core.specs.declared.flat.Chain.{Chain}
use Rattle.cm_core.specs.declared.flat.Point.{Point}
use Rattle.cm_core.specs.declared.unit.Function.{Function}
use Rattle.cm_core.specs.declared.unit.Home.{Home}
use Rattle.cm_core.specs.declared.unit.Home.TheVariants as home
use Rattle.cm_core.specs.Code.{Stmt, stmt_of, body_of}
use Rattle.cm_core.specs.World.{World, leaf_at, with_rest, put, put_all}
use Rattle.cm_core.specs.Acts.{Given, Gives, Short, Act, Done, done, gives, change}
use Rattle.cm_core.specs.Eval.{Hooks}
use Rattle.cm_core.specs.Resume.{On, exec, resume}
use Rattle.cm_core.specs.Linked.{Linked, unit_at, leaf_ends, leaf_point, host_ends, host_point, number_among, is_point, end_of}
use Rattle.cm_core.specs.Calls.{enter, result_of, run, run_function, as_parameter, run_handler, Numbered, handler_at, Handle, tell_event, reach, deliver, add_to, replace, write_by, tied, calls, handles, hooks}
use Rattle.cm_core.specs.Laws.{Prefix, told_left, told_stop, LeftLater, StopLater}
use Rattle.cm_core.specs.CoreRun.{renew, rest_of, go_on, resumed, clear, resumed_again, act_of, init_of, in_order, host_outputs, clear_all, end_frame, at_frame, left_of, perform, core_player}
use Rattle.cm_core.proofs.Steady.{prefix_same, prefix_on, told, Later, Steady, steady_gives, steady_change, steady_then, steady_after, steady_quiet, steady_if, Calm, steady_exec, steady_resume}

-- ---- calls and deliveries

put_all_keeps : (i x : ℕ) (values : List (List ℤ)) (w : World) → Prefix w.trace (put_all i x values w).trace
put_all_keeps i x [] w = prefix_same w.trace
put_all_keeps i x (value ∷ values) w = put_all_keeps i (x + 1) values (put i x value w)

steady_run : (l : Linked) (at : Home) (first : ℕ) (values : List (List ℤ)) (body : Stmt) (h : Hooks) → Calm h → Steady (run l at first values body h)
steady_run l at first values body h c =
    steady_after (change (λ w. put_all h.leaf first values (enter l h.leaf at w))) _ (steady_change _ (λ w. put_all_keeps h.leaf first values (enter l h.leaf at w)))
    (steady_then (exec body h) _ (steady_exec h c body) (λ end. steady_gives (result_of end)))

steady_function : (l : Linked) (f : ℕ) (code : Option Function) (values : List (List ℤ)) (h : Hooks) → Calm h → Steady (run_function l f code values h)
steady_function l f None values h c = steady_gives []
steady_function l f (Some function) values h c = steady_run l (home.Function f) function.first values (stmt_of function.body) h c

steady_handler : (l : Linked) (found : Option Numbered) (value : List ℤ) (h : Hooks) → Calm h → Steady (run_handler l found value h)
steady_handler l None value h c = steady_gives done
steady_handler l (Some found) value h c =
    steady_quiet _ (steady_run l (home.Handler found.0) found.1.first (as_parameter found.1.param.ty value ∷ []) (stmt_of found.1.body) h c)

steady_reach : (l : Linked) (leaf : Option LeafId) (end : EndId) (handle : Handle) → ((j e : ℕ) (value : List ℤ) → Steady (handle j e value)) → (value : List ℤ) →
    Steady (reach l leaf end handle value)
steady_reach l None end handle f value =
    steady_change (tell_event (number_among (host_ends l) end) value) (λ w. (item.Event w.frame (number_among (host_ends l) end) value ∷ [], refl))
steady_reach l (Some leaf) end handle f value = f leaf.0 (number_among (leaf_ends l leaf.0) end) value

steady_deliver : (l : Linked) (chains : List Chain) (from : Point) (handle : Handle) → ((j e : ℕ) (value : List ℤ) → Steady (handle j e value)) → (value : List ℤ) →
    Steady (deliver l chains from handle value)
steady_deliver l [] from handle f value = steady_gives done
steady_deliver l (chain ∷ chains) from handle f value =
    steady_after (if is_point chain.from from then reach l chain.to.leaf chain.to.end handle value else gives done) _
    (steady_if (is_point chain.from from) _ _ (steady_reach l chain.to.leaf chain.to.end handle f value) (steady_gives done))
    (steady_deliver l chains from handle f value)

steady_write : (l : Linked) (kind : Kind) (shape : List Scalar) (i e : ℕ) (handle : Handle) → ((j e : ℕ) (value : List ℤ) → Steady (handle j e value)) → (value : List ℤ) →
    Steady (write_by l kind shape i e handle value)
steady_write l kinds.Stream shape i e handle f value = steady_change (add_to shape i e value) (λ w. prefix_same w.trace)
steady_write l kinds.Value shape i e handle f value = steady_change (replace i e value) (λ w. prefix_same w.trace)
steady_write l kinds.Event shape i e handle f value = steady_deliver l l.flat.chains (leaf_point l i e) handle f value

calm_tied : (l : Linked) (i : ℕ) (call : ℕ → List (List ℤ) → Act (List ℤ)) (handle : Handle) → ((f : ℕ) (values : List (List ℤ)) → Steady (call f values)) →
    ((j e : ℕ) (value : List ℤ) → Steady (handle j e value)) → Calm (tied l i call handle)
calm_tied l i call handle f g =
    record { call = f; write = λ e value. steady_write l (end_of (unit_at l i) e).kind (end_of (unit_at l i) e).shape i e handle g value }

mutual
  steady_calls : (l : Linked) (depth i f : ℕ) (values : List (List ℤ)) → Steady (calls l depth i f values)
  steady_calls l zero i f values = steady_gives []
  steady_calls l (suc depth) i f values =
      steady_function l f (slice_get (unit_at l i).functions f) values _ (calm_tied l i _ _ (steady_calls l depth i) (steady_handles l depth))

  steady_handles : (l : Linked) (depth j e : ℕ) (value : List ℤ) → Steady (handles l depth j e value)
  steady_handles l zero j e value = steady_gives done
  steady_handles l (suc depth) j e value =
      steady_handler l (handler_at (unit_at l j) e) value _ (calm_tied l j _ _ (steady_calls l depth j) (steady_handles l depth))

pub calm_hooks : (l : Linked) (depth i : ℕ) → Calm (hooks l depth i)
calm_hooks l depth i = calm_tied l i _ _ (steady_calls l depth i) (steady_handles l depth)

-- ---- leaves

steady_go_on : (l : Linked) (depth i : ℕ) → Steady (go_on l depth i)
steady_go_on l depth i =
    let at : (w : World) → Steady (resume (leaf_at i w).rest (hooks l depth i) On) = λ w. steady_resume (hooks l depth i) (calm_hooks l depth i) (leaf_at i w).rest On in
    record { within = λ w n. (at w).within w n; grows = λ w n. (at w).grows w n; later = λ d w n. (at w).later d w n }

steady_resumed : (l : Linked) (depth i : ℕ) → Steady (resumed l depth i)
steady_resumed l depth i =
    steady_after (change (enter l i home.Main)) _ (steady_change (enter l i home.Main) (λ w. prefix_same w.trace))
    (steady_then (go_on l depth i) _ (steady_go_on l depth i) (λ end. steady_change (with_rest i (rest_of end)) (λ w. prefix_same w.trace)))

steady_again : (l : Linked) (depth i count : ℕ) → Steady (resumed_again l depth i count)
steady_again l depth i zero = steady_gives done
steady_again l depth i (suc count) =
    steady_after (change (clear l i)) _ (steady_change (clear l i) (λ w. prefix_same w.trace))
    (steady_after (resumed l depth i) _ (steady_resumed l depth i) (steady_again l depth i count))

pub steady_act : (l : Linked) (depth i : ℕ) → Steady (act_of l depth i)
steady_act l depth i =
    steady_after (change (renew l i)) _ (steady_change (renew l i) (λ w. prefix_same w.trace))
    (steady_after (resumed l depth i) _ (steady_resumed l depth i) (steady_again l depth i ((unit_at l i).factor - 1)))

pub steady_init : (l : Linked) (depth i : ℕ) → Steady (init_of l depth i)
steady_init l depth i =
    steady_after (change (enter l i home.Init)) _ (steady_change (enter l i home.Init) (λ w. prefix_same w.trace))
    (steady_quiet _ (steady_exec (hooks l depth i) (calm_hooks l depth i) (body_of (unit_at l i).init)))

pub steady_order : (act : ℕ → Act Done) → ((i : ℕ) → Steady (act i)) → (order : List LeafId) → Steady (in_order act order)
steady_order act f [] = steady_gives done
steady_order act f (leaf ∷ leaves) = steady_after (act leaf.0) _ (f leaf.0) (steady_order act f leaves)

-- ---- parts

left_grows : (finish : World → World) → ((w : World) → Prefix w.trace (finish w).trace) → (y : Given Done) → Prefix (told y) (told_left (left_of finish y))
left_grows finish f (Gives value w n) = f w
left_grows finish f (Short w) = prefix_same w.trace

left_later : (finish : World → World) → ((w : World) → Prefix w.trace (finish w).trace) → (d : ℕ) (x y : Given Done) → Later d x y → LeftLater (left_of finish x) (left_of finish y)
left_later finish f d (Gives value w n) y h = ap (left_of finish) h
left_later finish f d (Short w) y h = prefix_on w.trace (told y) _ h (left_grows finish f y)

clear_all_keeps : (l : Linked) (order : List LeafId) (w : World) → Prefix w.trace (clear_all l order w).trace
clear_all_keeps l [] w = prefix_same w.trace
clear_all_keeps l (leaf ∷ leaves) w = clear_all_keeps l leaves (clear l leaf.0 w)

end_grows : (l : Linked) (w : World) → Prefix w.trace (end_frame l w).trace
end_grows l w = prefix_on w.trace _ _ (item.Frame w.frame (host_outputs l w 0 l.program.host) ∷ [], refl) (clear_all_keeps l l.order _)

steady_host : (l : Linked) (depth k : ℕ) (value : List ℤ) → Steady (deliver l l.flat.chains (host_point l k) (handles l depth) value)
steady_host l depth k value = steady_deliver l l.flat.chains (host_point l k) (handles l depth) (steady_handles l depth) value

pub perform_later : (l : Linked) (depth d n : ℕ) (part : Part) (w : World) → LeftLater (perform l depth n part w) (perform l depth (n + d) part w)
perform_later l depth d n Init w = left_later _ (λ v. prefix_same v.trace) d _ _ ((steady_order (init_of l depth) (steady_init l depth) l.order).later d w n)
perform_later l depth d n (Send frame k value inputs) w =
    left_later _ (λ v. prefix_same v.trace) d _ _ ((steady_host l depth k value).later d (at_frame frame inputs w) n)
perform_later l depth d n (Frame frame inputs) w =
    left_later _ (end_grows l) d _ _ ((steady_order (act_of l depth) (steady_act l depth) l.order).later d (at_frame frame inputs w) n)

part_grows : (act : Act Done) → Steady act → (finish : World → World) → ((w : World) → Prefix w.trace (finish w).trace) → (w : World) (n : ℕ) →
    Prefix w.trace (told_left (left_of finish (act w n)))
part_grows act f finish g w n = prefix_on w.trace (told (act w n)) (told_left (left_of finish (act w n))) (f.grows w n) (left_grows finish g (act w n))

pub perform_grows : (l : Linked) (depth n : ℕ) (part : Part) (w : World) → Prefix w.trace (told_left (perform l depth n part w))
perform_grows l depth n Init w =
    part_grows (in_order (init_of l depth) l.order) (steady_order (init_of l depth) (steady_init l depth) l.order) (λ v. v) (λ v. prefix_same v.trace) w n
perform_grows l depth n (Send frame k value inputs) w =
    part_grows (deliver l l.flat.chains (host_point l k) (handles l depth) value) (steady_host l depth k value) (λ v. v) (λ v. prefix_same v.trace) (at_frame frame inputs w) n
perform_grows l depth n (Frame frame inputs) w =
    part_grows (in_order (act_of l depth) l.order) (steady_order (act_of l depth) (steady_act l depth) l.order) (end_frame l) (end_grows l) (at_frame frame inputs w) n

-- ---- runs

after_grows : (part : Part) (left : Left World) (go : World → Stop World) → ((w : World) → Prefix w.trace (told_stop (go w))) → Prefix (told_left left) (told_stop (after_part part left go))
after_grows part (Goes w) go f = f w
after_grows part (Spent w) go f = prefix_same w.trace
after_grows part (Traps w) go f = prefix_same w.trace

pub stops_grow : (l : Linked) (depth n : ℕ) (tasks : List Task) (w : World) → Prefix w.trace (told_stop (stops (core_player l depth) n tasks w))
unfolding stops
stops_grow l depth n [] w = prefix_same w.trace
stops_grow l depth n (Set k value ∷ tasks) w = stops_grow l depth n tasks ((core_player l depth).set k value w)
stops_grow l depth n (Begin part ∷ tasks) w =
    prefix_on w.trace _ _ (perform_grows l depth n part w) (after_grows part (perform l depth n part w) _ (stops_grow l depth n tasks))

after_later : (part : Part) (x y : Left World) (go og : World → Stop World) → LeftLater x y → ((w : World) → StopLater (go w) (og w)) →
    ((w : World) → Prefix w.trace (told_stop (og w))) → StopLater (after_part part x go) (after_part part y og)
after_later part (Goes w) y go og h f g = subst (λ z. StopLater (go w) (after_part part z og)) (sym h) (f w)
after_later part (Spent w) y go og h f g = prefix_on w.trace (told_left y) _ h (after_grows part y og g)
after_later part (Traps w) y go og h f g = absurd h

pub stops_later : (l : Linked) (depth d n : ℕ) (tasks : List Task) (w : World) → StopLater (stops (core_player l depth) n tasks w) (stops (core_player l depth) (n + d) tasks w)
unfolding stops
stops_later l depth d n [] w = refl
stops_later l depth d n (Set k value ∷ tasks) w = stops_later l depth d n tasks ((core_player l depth).set k value w)
stops_later l depth d n (Begin part ∷ tasks) w =
    after_later part (perform l depth n part w) (perform l depth (n + d) part w) _ _ (perform_later l depth d n part w) (stops_later l depth d n tasks)
    (stops_grow l depth (n + d) tasks)
