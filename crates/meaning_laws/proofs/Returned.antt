-- A leaf whose main returned has nothing left to do to the end of a run.
use Rattle.std.proofs.Common.{◌≡◌, ℕ, zero, suc, ◌-◌, List, [], ◌∷◌, refl, sym, ap, ◌∙◌, subst}
use Rattle.std.specs.Prelude.{slice_index_or, slice_set}
use Rattle.cm_base.specs.Parts.{Part, Init, Send, Frame, Task, Set, Begin}
use Rattle.cm_base.specs.Players.{Left, Goes, Spent, Traps, Stop, after_part, last_world, stops}
use Rattle.cm_meaning.specs.World.{World, LeafState, no_leaf, leaf_at, with_rest}
use Rattle.cm_meaning.specs.Acts.{Given, Gives, Short, Act, Done, bind, after, change}
use Rattle.cm_meaning.specs.Resume.{On, Ending, resume}
use Rattle.cm_meaning.specs.Linked.{Linked}
use Rattle.cm_meaning.specs.Chains.{host_point}
use Rattle.cm_meaning.specs.Calls.{deliver, handles, hooks}
use Rattle.cm_meaning.specs.PatchRun.{renew, rest_of, go_on, resumed, clear, resumed_again, factor_at, act_of, init_of, in_order, clear_all, end_frame, at_frame, left_of, perform, patch_player}
use Rattle.meaning_laws.proofs.Steady.{world_of, set_rests, Steady}
use Rattle.meaning_laws.proofs.Runs.{steady_go_on, steady_init, steady_host}

abbrev IsLeft : ℕ → World → Type 0
IsLeft i w = (leaf_at i w).rest ≡ []

-- an act after which nothing is left of a main of which nothing was left
pub record Leaves (i : ℕ) {A : Type 0} (act : Act A) : Type 0 where
  pub left : (w : World) (n : ℕ) → IsLeft i w → IsLeft i (world_of (act w n))

leaves_steady : (i : ℕ) {A : Type 0} (act : Act A) → Steady act → Leaves i act
leaves_steady i act f = record { left = λ w n h. f.rests w n i ∙ h }

leaves_change : (i : ℕ) (step : World → World) → ((w : World) → IsLeft i w → IsLeft i (step w)) → Leaves i (change step)
leaves_change i step f = record { left = λ w n h. f w h }

left_after : (i : ℕ) (x : Given Done) (go : Act Done) → Leaves i go → IsLeft i (world_of x) → IsLeft i (world_of (bind x (λ d. go)))
left_after i (Gives value w m) go g h = g.left w m h
left_after i (Short w) go g h = h

leaves_after : (i : ℕ) (first go : Act Done) → Leaves i first → Leaves i go → Leaves i (after first go)
leaves_after i first go f g = record { left = λ w n h. left_after i (first w n) go g (f.left w n h) }

-- ---- turns of leaves

-- a new rest of one leaf leaves nothing of another; and nothing of this one, if it is empty
rest_put : (leaves : List LeafState) (i j : ℕ) (leaf : LeafState) → (slice_index_or leaves i no_leaf).rest ≡ [] → (j ≡ i → leaf.rest ≡ []) →
    (slice_index_or (slice_set leaves j leaf) i no_leaf).rest ≡ []
rest_put [] i j leaf old new = old
rest_put (x ∷ leaves) zero zero leaf old new = new refl
rest_put (x ∷ leaves) zero (suc j) leaf old new = old
rest_put (x ∷ leaves) (suc i) zero leaf old new = old
rest_put (x ∷ leaves) (suc i) (suc j) leaf old new = rest_put leaves i j leaf old (λ e. new (ap suc e))

-- what goes on leaves nothing
abbrev IsOver : Given Ending → Type 0
IsOver (Gives end w n) = rest_of end ≡ []
IsOver (Short w) = Unit {0}

paused : (i j : ℕ) (x : Given Ending) → IsLeft i (world_of x) → (j ≡ i → IsOver x) → IsLeft i (world_of (bind x (λ end. change (with_rest j (rest_of end)))))
paused i j (Gives end w n) left over = rest_put w.leaves i j _ left over
paused i j (Short w) left over = left

over_here : (l : Linked) (depth i j : ℕ) (w : World) (n : ℕ) → IsLeft i w → j ≡ i → IsOver (go_on l depth j w n)
over_here l depth i j w n left same =
    let here : IsLeft j w = subst (λ q. IsLeft q w) (sym same) left in
    subst (λ rest. IsOver (resume rest (hooks l depth j) On w n)) (sym here) refl

leaves_resumed : (l : Linked) (depth i j : ℕ) → Leaves i (resumed l depth j)
leaves_resumed l depth i j =
    record { left = λ w n h. paused i j (go_on l depth j w n) ((steady_go_on l depth j).rests w n i ∙ h) (over_here l depth i j w n h) }

leaves_again : (l : Linked) (depth i j count : ℕ) → Leaves i (resumed_again l depth j count)
leaves_again l depth i j zero = record { left = λ w n h. h }
leaves_again l depth i j (suc count) =
    leaves_after i (change (clear l j)) _ (leaves_change i (clear l j) (λ w h. set_rests j _ w refl i ∙ h))
    (leaves_after i (resumed l depth j) _ (leaves_resumed l depth i j) (leaves_again l depth i j count))

leaves_act : (l : Linked) (depth i j : ℕ) → Leaves i (act_of l depth j)
leaves_act l depth i j =
    leaves_after i (change (renew l j)) _ (leaves_change i (renew l j) (λ w h. set_rests j _ w refl i ∙ h))
    (leaves_after i (resumed l depth j) _ (leaves_resumed l depth i j) (leaves_again l depth i j (factor_at l j - 1)))

leaves_order : (i : ℕ) (act : ℕ → Act Done) → ((j : ℕ) → Leaves i (act j)) → (order : List ℕ) → Leaves i (in_order act order)
leaves_order i act f [] = record { left = λ w n h. h }
leaves_order i act f (j ∷ order) = leaves_after i (act j) _ (f j) (leaves_order i act f order)

-- ---- parts and runs

clear_all_left : (l : Linked) (i : ℕ) (order : List ℕ) (w : World) → IsLeft i w → IsLeft i (clear_all l order w)
clear_all_left l i [] w h = h
clear_all_left l i (j ∷ order) w h = clear_all_left l i order (clear l j w) (set_rests j _ w refl i ∙ h)

abbrev world_left : Left World → World
world_left (Goes w) = w
world_left (Spent w) = w
world_left (Traps w) = w

left_finish : (i : ℕ) (finish : World → World) → ((w : World) → IsLeft i w → IsLeft i (finish w)) → (x : Given Done) → IsLeft i (world_of x) → IsLeft i (world_left (left_of finish x))
left_finish i finish f (Gives value w n) h = f w h
left_finish i finish f (Short w) h = h

perform_left : (l : Linked) (depth n : ℕ) (part : Part) (w : World) (i : ℕ) → IsLeft i w → IsLeft i (world_left (perform l depth n part w))
perform_left l depth n Init w i h =
    left_finish i (λ v. v) (λ v g. g) (in_order (init_of l depth) l.order w n) ((leaves_order i (init_of l depth) (λ j. leaves_steady i (init_of l depth j) (steady_init l depth j)) l.order).left w n h)
perform_left l depth n (Send frame k value inputs) w i h =
    left_finish i (λ v. v) (λ v g. g) (deliver l.chains (host_point k) (handles l depth) value (at_frame frame inputs w) n)
    ((leaves_steady i _ (steady_host l depth k value)).left (at_frame frame inputs w) n h)
perform_left l depth n (Frame frame inputs) w i h =
    left_finish i (end_frame l) (λ v g. clear_all_left l i l.order _ g) (in_order (act_of l depth) l.order (at_frame frame inputs w) n)
    ((leaves_order i (act_of l depth) (leaves_act l depth i) l.order).left (at_frame frame inputs w) n h)

after_left : (i : ℕ) (part : Part) (x : Left World) (go : World → Stop World) → IsLeft i (world_left x) → ((w : World) → IsLeft i w → IsLeft i (last_world (go w))) →
    IsLeft i (last_world (after_part part x go))
after_left i part (Goes w) go h f = f w h
after_left i part (Spent w) go h f = h
after_left i part (Traps w) go h f = h

pub stops_left : (l : Linked) (depth n : ℕ) (tasks : List Task) (w : World) (i : ℕ) → (leaf_at i w).rest ≡ [] →
    (leaf_at i (last_world (stops (patch_player l depth) n tasks w))).rest ≡ []
unfolding stops
stops_left l depth n [] w i h = h
stops_left l depth n (Set k value ∷ tasks) w i h = stops_left l depth n tasks ((patch_player l depth).set k value w) i h
stops_left l depth n (Begin part ∷ tasks) w i h =
    after_left i part (perform l depth n part w) _ (perform_left l depth n part w i h) (λ v g. stops_left l depth n tasks v i g)
