-- The calls and deliveries of a patch add no turns, so that what is proved of a rest holds of each leaf's.
use Rattle.std.proofs.Common.{◌≡◌, ℕ, zero, suc, List, [], ◌∷◌, Option, Some, None, slice_get, ℤ}
use Rattle.cm_base.specs.declared.host.Kind.{Kind}
use Rattle.cm_base.specs.declared.host.Kind.TheVariants as kinds
use Rattle.cm_tree.specs.declared.stmt.Block.{Block}
use Rattle.cm_tree.specs.declared.stmt.Stmt.TheVariants as x
use Rattle.cm_tree.specs.declared.shared.Function.{Function as FunctionDecl}
use Rattle.cm_meaning.specs.Declared.{Declared}
use Rattle.cm_meaning.specs.Scopes.{Around}
use Rattle.cm_meaning.specs.Types.{CmType}
use Rattle.cm_meaning.specs.Conversions.{Valued}
use Rattle.cm_meaning.specs.Nodes.{inside, End, Leaf}
use Rattle.cm_meaning.specs.Chains.{Point, Chain, leaf_point}
use Rattle.cm_meaning.specs.Linked.{Linked, number_among, ends_at, is_point}
use Rattle.cm_meaning.specs.Stores.{Scope}
use Rattle.cm_meaning.specs.World.{World, Todo, store_at}
use Rattle.cm_meaning.specs.Acts.{Given, Act}
use Rattle.cm_meaning.specs.Eval.{Hooks}
use Rattle.cm_meaning.specs.Resume.{Way, Ending, resume}
use Rattle.cm_meaning.specs.Rules.{Resumes}
use Rattle.cm_meaning.specs.Calls.{Handle, Handler, result_of, above, back, run, run_found, run_handler, function_in, reach, deliver, add_to, replace, tell_event, write_scalars, write_by, tied, handled_at, handled, calls, handles, hooks}
use Rattle.cm_meaning.proofs.Steady.{Steady, Calm, steady_gives, steady_look, steady_change, steady_then, steady_after, steady_if, steady_store, steady_exec}
use Rattle.cm_meaning.proofs.Sound.{sound}
use Rattle.cm_meaning.proofs.Total.{complete}

abbrev IsCalm : Handle → Type 0
IsCalm handle = (j e : ℕ) (value : List ℤ) → Steady (handle j e value)

steady_run : (r : Around) (args : Scope) (body : Block) (h : Hooks) → Calm h → Steady (run r args body h)
steady_run r args body h calm =
    steady_then _ _ (steady_look (store_at h.leaf))
    (λ before.
    steady_after _ _ (steady_store h (λ store. args ∷ above r.home store))
    (steady_then _ _ (steady_exec (x.Block body.place body.stmts) r h calm) (λ end. steady_after _ _ (steady_store h (back r.home before)) (steady_gives (result_of end)))))

steady_found_function : (l : Linked) (d : Declared) (f : Option FunctionDecl) (values : List Valued) (h : Hooks) → Calm h → Steady (run_found l d f values h)
steady_found_function l d None values h calm = steady_gives _
steady_found_function l d (Some f) values h calm = steady_then _ _ (steady_run _ _ f.body h calm) (λ v. steady_gives _)

steady_handler : (r : Around) (found : Option Handler) (v : Valued) (h : Hooks) → Calm h → Steady (run_handler r found v h)
steady_handler r None v h calm = steady_gives _
steady_handler r (Some (t, b)) v h calm = steady_then _ _ (steady_run _ _ b h calm) (λ v. steady_gives _)

steady_reach : (leaf : Option ℕ) (e : ℕ) (handle : Handle) (value : List ℤ) → IsCalm handle → Steady (reach leaf e handle value)
steady_reach None e handle value calm = steady_change (tell_event e value)
steady_reach (Some j) e handle value calm = calm j e value

pub steady_deliver : (chains : List Chain) (from : Point) (handle : Handle) (value : List ℤ) → IsCalm handle → Steady (deliver chains from handle value)
steady_deliver [] from handle value calm = steady_gives _
steady_deliver (c ∷ chains) from handle value calm =
    steady_after _ _ (steady_if (is_point c.from from) _ _ (steady_reach c.to.leaf c.to.end handle value calm) (steady_gives _)) (steady_deliver chains from handle value calm)

steady_scalars : (l : Linked) (kind : Kind) (i e : ℕ) (t : CmType) (handle : Handle) (value : List ℤ) → IsCalm handle → Steady (write_scalars l kind i e t handle value)
steady_scalars l kinds.Stream i e t handle value calm = steady_change (add_to t i e value)
steady_scalars l kinds.Value i e t handle value calm = steady_change (replace i e value)
steady_scalars l kinds.Event i e t handle value calm = steady_deliver l.chains (leaf_point i e) handle value calm

steady_write : (l : Linked) (i : ℕ) (handle : Handle) (e : ℕ) (end : Option End) (v : Valued) → IsCalm handle → Steady (write_by l i handle e end v)
steady_write l i handle e None v calm = steady_gives _
steady_write l i handle e (Some end) v calm = steady_scalars l end.kind i e end.ty handle _ calm

calm_tied : (l : Linked) (i : ℕ) (call : Declared → List Valued → Act Valued) (handle : Handle) →
    ((d : Declared) (values : List Valued) → Steady (call d values)) → IsCalm handle → Calm (tied l i call handle)
calm_tied l i call handle c k =
    record { call = c; write = λ d v. steady_write l i handle (number_among (ends_at l i) d) (slice_get (ends_at l i) (number_among (ends_at l i) d)) v k }

steady_at : (l : Linked) (leaf : Leaf) (end : Option End) (value : List ℤ) (h : Hooks) → Calm h → Steady (handled_at l leaf end value h)
steady_at l leaf None value h calm = steady_gives _
steady_at l leaf (Some end) value h calm = steady_handler (inside l.files leaf.instance) _ _ h calm

steady_handled : (l : Linked) (leaf : Option Leaf) (e : ℕ) (value : List ℤ) (h : Hooks) → Calm h → Steady (handled l leaf e value h)
steady_handled l None e value h calm = steady_gives _
steady_handled l (Some leaf) e value h calm = steady_at l leaf (slice_get leaf.ends e) value h calm

mutual
  steady_calls : (l : Linked) (depth i : ℕ) (d : Declared) (values : List Valued) → Steady (calls l depth i d values)
  steady_calls l zero i d values = steady_gives _
  steady_calls l (suc depth) i d values =
      steady_found_function l d (function_in d.named) values _ (calm_tied l i (calls l depth i) (handles l depth) (steady_calls l depth i) (steady_handles l depth))

  pub steady_handles : (l : Linked) (depth j e : ℕ) (value : List ℤ) → Steady (handles l depth j e value)
  steady_handles l zero j e value = steady_gives _
  steady_handles l (suc depth) j e value =
      steady_handled l (slice_get l.leaves j) e value _ (calm_tied l j (calls l depth j) (handles l depth) (steady_calls l depth j) (steady_handles l depth))

pub calm_hooks : (l : Linked) (depth i : ℕ) → Calm (hooks l depth i)
calm_hooks l depth i = calm_tied l i (calls l depth i) (handles l depth) (steady_calls l depth i) (steady_handles l depth)

-- the rules say just what the rest of a leaf does
pub rules_say : (l : Linked) (depth i : ℕ) (rest : List Todo) (way : Way) (w : World) (n : ℕ) → Resumes (hooks l depth i) rest way w n (resume rest (hooks l depth i) way w n)
rules_say l depth i = complete (hooks l depth i) (calm_hooks l depth i)

pub rules_alone : (l : Linked) (depth i : ℕ) (rest : List Todo) (way : Way) (w : World) (n : ℕ) (to : Given Ending) → Resumes (hooks l depth i) rest way w n to → resume rest (hooks l depth i) way w n ≡ to
rules_alone l depth i rest way w n to d = sound (hooks l depth i) (calm_hooks l depth i) d
