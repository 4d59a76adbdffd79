-- Calls, deliveries, leaves and parts are steady, and so a run that ends with some turns ends in the same way with more.
use Rattle.std.proofs.Common.{ℕ, zero, suc, ◌+◌, ◌-◌, List, [], ◌∷◌, refl, sym, ap, subst, Option, Some, None, ℤ}
use Rattle.std.specs.Prelude.{slice_get}
use Rattle.cm_base.specs.declared.play.Item.TheVariants as item
use Rattle.cm_base.specs.Parts.{Part, Init, Send, Frame, Task, Set, Begin}
use Rattle.cm_base.specs.Players.{Left, Goes, Spent, Traps, Stop, after_part, stops}
use Rattle.cm_meaning.specs.World.{World, leaf_at, with_rest, store_at}
use Rattle.cm_meaning.specs.Acts.{Given, Gives, Short, Act, Done, done, change}
use Rattle.cm_meaning.specs.Resume.{On, resume}
use Rattle.cm_meaning.specs.Calls.{result_of, above, back, run, run_found, Handler, run_handler, function_in, Handle, tell_event, reach, deliver, add_to, replace, write_scalars, write_by, tied, handled_at, handled, calls, handles, hooks}
use Rattle.cm_meaning.specs.PatchRun.{Found, function_of, renew, rest_of, go_on, resumed, clear, resumed_again, factor_at, act_of, init_by, init_of, in_order, host_outputs, clear_all, end_frame, at_frame, left_of, perform, patch_player}
use Rattle.cm_meaning.specs.Declared.{is_init}
use Rattle.cm_meaning.specs.Chains.{host_point}
use Rattle.meaning_laws.specs.Laws.{Prefix, told_left, told_stop, LeftLater, StopLater, AddsNoTurns}
use Rattle.meaning_laws.proofs.Steady.{prefix_same, prefix_on, told, Later, Lasting, lasting_gives, lasting_change, lasting_then, lasting_after, set_rests, Steady, Calm, steady_gives, steady_look, steady_change, steady_then, steady_after, steady_quiet, steady_if, steady_store, steady_exec, steady_resume}
use Rattle.cm_base.specs.declared.host.Kind.{Kind}
use Rattle.cm_base.specs.declared.host.Kind.TheVariants as kinds
use Rattle.cm_tree.specs.declared.stmt.Block.{Block}
use Rattle.cm_tree.specs.declared.stmt.Stmt.TheVariants as x
use Rattle.cm_tree.specs.declared.shared.Function.{Function as FunctionDecl}
use Rattle.cm_meaning.specs.Declared.{Declared}
use Rattle.cm_meaning.specs.Scopes.{Around}
use Rattle.cm_meaning.specs.Types.{CmType}
use Rattle.cm_meaning.specs.Conversions.{Valued}
use Rattle.cm_meaning.specs.Nodes.{inside, End, Leaf}
use Rattle.cm_meaning.specs.Chains.{Point, Chain, leaf_point}
use Rattle.cm_meaning.specs.Linked.{Linked, number_among, ends_at, is_point}
use Rattle.cm_meaning.specs.Stores.{Scope}
use Rattle.cm_meaning.specs.Eval.{Hooks}

-- ---- calls and deliveries

abbrev IsCalm : Handle → Type 0
IsCalm handle = (j e : ℕ) (value : List ℤ) → Steady (handle j e value)

steady_run : (r : Around) (args : Scope) (body : Block) (h : Hooks) → Calm h → Steady (run r args body h)
steady_run r args body h calm =
    steady_then _ _ (steady_look (store_at h.leaf))
    (λ before.
    steady_after _ _ (steady_store h (λ store. args ∷ above r.home store))
    (steady_then _ _ (steady_exec (x.Block body.place body.stmts) r h calm) (λ end. steady_after _ _ (steady_store h (back r.home before)) (steady_gives (result_of end)))))

steady_found_function : (l : Linked) (d : Declared) (f : Option FunctionDecl) (values : List Valued) (h : Hooks) → Calm h → Steady (run_found l d f values h)
steady_found_function l d None values h calm = steady_gives _
steady_found_function l d (Some f) values h calm = steady_then _ _ (steady_run _ _ f.body h calm) (λ v. steady_gives _)

steady_handler : (r : Around) (found : Option Handler) (v : Valued) (h : Hooks) → Calm h → Steady (run_handler r found v h)
steady_handler r None v h calm = steady_gives _
steady_handler r (Some (t, b)) v h calm = steady_then _ _ (steady_run _ _ b h calm) (λ v. steady_gives _)

steady_reach : (leaf : Option ℕ) (e : ℕ) (handle : Handle) (value : List ℤ) → IsCalm handle → Steady (reach leaf e handle value)
steady_reach None e handle value calm = steady_change (tell_event e value) (λ w. (item.Event w.frame e value ∷ [], refl)) (λ w i. refl)
steady_reach (Some j) e handle value calm = calm j e value

pub steady_deliver : (chains : List Chain) (from : Point) (handle : Handle) (value : List ℤ) → IsCalm handle → Steady (deliver chains from handle value)
steady_deliver [] from handle value calm = steady_gives _
steady_deliver (c ∷ chains) from handle value calm =
    steady_after _ _ (steady_if (is_point c.from from) _ _ (steady_reach c.to.leaf c.to.end handle value calm) (steady_gives _)) (steady_deliver chains from handle value calm)

steady_scalars : (l : Linked) (kind : Kind) (i e : ℕ) (t : CmType) (handle : Handle) (value : List ℤ) → IsCalm handle → Steady (write_scalars l kind i e t handle value)
steady_scalars l kinds.Stream i e t handle value calm = steady_change (add_to t i e value) (λ w. prefix_same w.trace) (λ w. set_rests i _ w refl)
steady_scalars l kinds.Value i e t handle value calm = steady_change (replace i e value) (λ w. prefix_same w.trace) (λ w. set_rests i _ w refl)
steady_scalars l kinds.Event i e t handle value calm = steady_deliver l.chains (leaf_point i e) handle value calm

steady_write : (l : Linked) (i : ℕ) (handle : Handle) (e : ℕ) (end : Option End) (v : Valued) → IsCalm handle → Steady (write_by l i handle e end v)
steady_write l i handle e None v calm = steady_gives _
steady_write l i handle e (Some end) v calm = steady_scalars l end.kind i e end.ty handle _ calm

calm_tied : (l : Linked) (i : ℕ) (call : Declared → List Valued → Act Valued) (handle : Handle) →
    ((d : Declared) (values : List Valued) → Steady (call d values)) → IsCalm handle → Calm (tied l i call handle)
calm_tied l i call handle c k =
    record { call = c; write = λ d v. steady_write l i handle (number_among (ends_at l i) d) (slice_get (ends_at l i) (number_among (ends_at l i) d)) v k }

steady_at : (l : Linked) (leaf : Leaf) (end : Option End) (value : List ℤ) (h : Hooks) → Calm h → Steady (handled_at l leaf end value h)
steady_at l leaf None value h calm = steady_gives _
steady_at l leaf (Some end) value h calm = steady_handler (inside l.files leaf.instance) _ _ h calm

steady_handled : (l : Linked) (leaf : Option Leaf) (e : ℕ) (value : List ℤ) (h : Hooks) → Calm h → Steady (handled l leaf e value h)
steady_handled l None e value h calm = steady_gives _
steady_handled l (Some leaf) e value h calm = steady_at l leaf (slice_get leaf.ends e) value h calm

mutual
  steady_calls : (l : Linked) (depth i : ℕ) (d : Declared) (values : List Valued) → Steady (calls l depth i d values)
  steady_calls l zero i d values = steady_gives _
  steady_calls l (suc depth) i d values =
      steady_found_function l d (function_in d.named) values _ (calm_tied l i (calls l depth i) (handles l depth) (steady_calls l depth i) (steady_handles l depth))

  pub steady_handles : (l : Linked) (depth j e : ℕ) (value : List ℤ) → Steady (handles l depth j e value)
  steady_handles l zero j e value = steady_gives _
  steady_handles l (suc depth) j e value =
      steady_handled l (slice_get l.leaves j) e value _ (calm_tied l j (calls l depth j) (handles l depth) (steady_calls l depth j) (steady_handles l depth))

pub calm_hooks : (l : Linked) (depth i : ℕ) → Calm (hooks l depth i)
calm_hooks l depth i = calm_tied l i (calls l depth i) (handles l depth) (steady_calls l depth i) (steady_handles l depth)

-- ---- leaves

pub steady_go_on : (l : Linked) (depth i : ℕ) → Steady (go_on l depth i)
steady_go_on l depth i =
    let at : (w : World) → Steady (resume (leaf_at i w).rest (hooks l depth i) On) = λ w. steady_resume (leaf_at i w).rest (hooks l depth i) (calm_hooks l depth i) On in
    record {
      lasting = record { within = λ w n. (at w).lasting.within w n; grows = λ w n. (at w).lasting.grows w n; later = λ d w n. (at w).lasting.later d w n };
      rests = λ w n. (at w).rests w n;
    }

lasting_resumed : (l : Linked) (depth i : ℕ) → Lasting (resumed l depth i)
lasting_resumed l depth i = lasting_then (go_on l depth i) _ (steady_go_on l depth i).lasting (λ end. lasting_change (with_rest i (rest_of end)) (λ w. prefix_same w.trace))

lasting_again : (l : Linked) (depth i count : ℕ) → Lasting (resumed_again l depth i count)
lasting_again l depth i zero = lasting_gives done
lasting_again l depth i (suc count) =
    lasting_after (change (clear l i)) _ (lasting_change (clear l i) (λ w. prefix_same w.trace))
    (lasting_after (resumed l depth i) _ (lasting_resumed l depth i) (lasting_again l depth i count))

lasting_act : (l : Linked) (depth i : ℕ) → Lasting (act_of l depth i)
lasting_act l depth i =
    lasting_after (change (renew l i)) _ (lasting_change (renew l i) (λ w. prefix_same w.trace))
    (lasting_after (resumed l depth i) _ (lasting_resumed l depth i) (lasting_again l depth i (factor_at l i - 1)))

steady_init_by : (l : Linked) (depth i : ℕ) (found : Option Found) → Steady (init_by l depth i found)
steady_init_by l depth i None = steady_gives done
steady_init_by l depth i (Some found) = steady_quiet _ (steady_found_function l found.0 (function_in found.0.named) [] (hooks l depth i) (calm_hooks l depth i))

pub steady_init : (l : Linked) (depth i : ℕ) → Steady (init_of l depth i)
steady_init l depth i = steady_init_by l depth i (function_of l is_init i)

lasting_order : (act : ℕ → Act Done) → ((i : ℕ) → Lasting (act i)) → (order : List ℕ) → Lasting (in_order act order)
lasting_order act f [] = lasting_gives done
lasting_order act f (i ∷ leaves) = lasting_after (act i) _ (f i) (lasting_order act f leaves)

lasting_inits : (l : Linked) (depth : ℕ) → Lasting (in_order (init_of l depth) l.order)
lasting_inits l depth = lasting_order (init_of l depth) (λ i. (steady_init l depth i).lasting) l.order

lasting_acts : (l : Linked) (depth : ℕ) → Lasting (in_order (act_of l depth) l.order)
lasting_acts l depth = lasting_order (act_of l depth) (lasting_act l depth) l.order

-- ---- parts

left_grows : (finish : World → World) → ((w : World) → Prefix w.trace (finish w).trace) → (y : Given Done) → Prefix (told y) (told_left (left_of finish y))
left_grows finish f (Gives value w n) = f w
left_grows finish f (Short w) = prefix_same w.trace

left_later : (finish : World → World) → ((w : World) → Prefix w.trace (finish w).trace) → (d : ℕ) (x y : Given Done) → Later d x y → LeftLater (left_of finish x) (left_of finish y)
left_later finish f d (Gives value w n) y h = ap (left_of finish) h
left_later finish f d (Short w) y h = prefix_on w.trace (told y) _ h (left_grows finish f y)

clear_all_keeps : (l : Linked) (order : List ℕ) (w : World) → Prefix w.trace (clear_all l order w).trace
clear_all_keeps l [] w = prefix_same w.trace
clear_all_keeps l (i ∷ leaves) w = clear_all_keeps l leaves (clear l i w)

end_grows : (l : Linked) (w : World) → Prefix w.trace (end_frame l w).trace
end_grows l w = prefix_on w.trace _ _ (item.Frame w.frame (host_outputs l w 0 l.host) ∷ [], refl) (clear_all_keeps l l.order _)

pub steady_host : (l : Linked) (depth k : ℕ) (value : List ℤ) → Steady (deliver l.chains (host_point k) (handles l depth) value)
steady_host l depth k value = steady_deliver l.chains (host_point k) (handles l depth) value (steady_handles l depth)

pub perform_later : (l : Linked) (depth d n : ℕ) (part : Part) (w : World) → LeftLater (perform l depth n part w) (perform l depth (n + d) part w)
perform_later l depth d n Init w = left_later _ (λ v. prefix_same v.trace) d _ _ ((lasting_inits l depth).later d w n)
perform_later l depth d n (Send frame k value inputs) w =
    left_later _ (λ v. prefix_same v.trace) d _ _ ((steady_host l depth k value).lasting.later d (at_frame frame inputs w) n)
perform_later l depth d n (Frame frame inputs) w =
    left_later _ (end_grows l) d _ _ ((lasting_acts l depth).later d (at_frame frame inputs w) n)

part_grows : (act : Act Done) → Lasting act → (finish : World → World) → ((w : World) → Prefix w.trace (finish w).trace) → (w : World) (n : ℕ) →
    Prefix w.trace (told_left (left_of finish (act w n)))
part_grows act f finish g w n = prefix_on w.trace (told (act w n)) (told_left (left_of finish (act w n))) (f.grows w n) (left_grows finish g (act w n))

pub perform_grows : (l : Linked) (depth n : ℕ) (part : Part) (w : World) → Prefix w.trace (told_left (perform l depth n part w))
perform_grows l depth n Init w =
    part_grows (in_order (init_of l depth) l.order) (lasting_inits l depth) (λ v. v) (λ v. prefix_same v.trace) w n
perform_grows l depth n (Send frame k value inputs) w =
    part_grows (deliver l.chains (host_point k) (handles l depth) value) (steady_host l depth k value).lasting (λ v. v) (λ v. prefix_same v.trace) (at_frame frame inputs w) n
perform_grows l depth n (Frame frame inputs) w =
    part_grows (in_order (act_of l depth) l.order) (lasting_acts l depth) (end_frame l) (end_grows l) (at_frame frame inputs w) n

-- ---- runs

after_grows : (part : Part) (left : Left World) (go : World → Stop World) → ((w : World) → Prefix w.trace (told_stop (go w))) → Prefix (told_left left) (told_stop (after_part part left go))
after_grows part (Goes w) go f = f w
after_grows part (Spent w) go f = prefix_same w.trace
after_grows part (Traps w) go f = prefix_same w.trace

pub stops_grow : (l : Linked) (depth n : ℕ) (tasks : List Task) (w : World) → Prefix w.trace (told_stop (stops (patch_player l depth) n tasks w))
unfolding stops
stops_grow l depth n [] w = prefix_same w.trace
stops_grow l depth n (Set k value ∷ tasks) w = stops_grow l depth n tasks ((patch_player l depth).set k value w)
stops_grow l depth n (Begin part ∷ tasks) w =
    prefix_on w.trace _ _ (perform_grows l depth n part w) (after_grows part (perform l depth n part w) _ (stops_grow l depth n tasks))

after_later : (part : Part) (x y : Left World) (go og : World → Stop World) → LeftLater x y → ((w : World) → StopLater (go w) (og w)) →
    ((w : World) → Prefix w.trace (told_stop (og w))) → StopLater (after_part part x go) (after_part part y og)
after_later part (Goes w) y go og h f g = subst (λ z. StopLater (go w) (after_part part z og)) (sym h) (f w)
after_later part (Spent w) y go og h f g = prefix_on w.trace (told_left y) _ h (after_grows part y og g)
after_later part (Traps w) y go og h f g = absurd h

pub stops_later : (l : Linked) (depth d n : ℕ) (tasks : List Task) (w : World) → StopLater (stops (patch_player l depth) n tasks w) (stops (patch_player l depth) (n + d) tasks w)
unfolding stops
stops_later l depth d n [] w = refl
stops_later l depth d n (Set k value ∷ tasks) w = stops_later l depth d n tasks ((patch_player l depth).set k value w)
stops_later l depth d n (Begin part ∷ tasks) w =
    after_later part (perform l depth n part w) (perform l depth (n + d) part w) _ _ (perform_later l depth d n part w) (stops_later l depth d n tasks)
    (stops_grow l depth (n + d) tasks)

-- ---- statements

pub exec_within : AddsNoTurns
exec_within l depth i w n =
    (λ s r. (steady_exec s r (hooks l depth i) (calm_hooks l depth i)).lasting.within w n, λ rest way. (steady_resume rest (hooks l depth i) (calm_hooks l depth i) way).lasting.within w n)
