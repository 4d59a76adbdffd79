-- Whole runs: at each depth from the top level on the same happens.
use Rattle.std.proofs.Common.{◌≡◌, ℕ, zero, suc, ◌+◌, ◌-◌, ◌<◌, ◌≤◌, List, [], ◌∷◌, refl, sym, ap, ◌∙◌, subst, arith, Option, Some, None, ℤ}
use Rattle.std.specs.Prelude.{slice_get, slice_index_or, slice_set}
use Rattle.cm_base.specs.declared.place.LeafId.{LeafId}
use Rattle.cm_base.specs.Parts.{Part, Init, Send, Frame, Task, Set, Begin}
use Rattle.cm_base.specs.Players.{Left, Goes, Spent, Traps, Stop, after_part, stops}
use Rattle.cm_core.specs.declared.stmt.CoreStmt.{CoreStmt}
use Rattle.cm_core.specs.declared.flat.Leaf.{Leaf}
use Rattle.cm_core.specs.declared.flat.Point.{Point}
use Rattle.cm_core.specs.declared.unit.Home.TheVariants as home
use Rattle.cm_core.specs.Code.{body_of}
use Rattle.cm_core.specs.World.{World, LeafState, Todo, no_leaf, leaf_at, with_leaf, with_rest}
use Rattle.cm_core.specs.Acts.{Given, Gives, Short, Act, Done, bind, after, change, quiet}
use Rattle.cm_core.specs.Resume.{On, Ending, Goes as GoesOn, Pauses, exec, resume}
use Rattle.cm_core.specs.Linked.{Linked, unit_at, host_point, end_of}
use Rattle.cm_core.specs.Calls.{enter, handler_at, Handle, deliver, input_of, write_of, tied, calls, handles, hooks}
use Rattle.cm_core.specs.CoreRun.{renew, rest_of, go_on, resumed, clear, resumed_again, act_of, init_of, in_order, clear_all, end_frame, at_frame, left_of, perform, core_player, first_rest, first_leaf, first_leaves, first_world}
use Rattle.cm_core.specs.Levels.{UsesRest, Levels, Reaches, Writes, Under, IsLeveled}
use Rattle.cm_core.proofs.Depth.{deliver_same, write_same, body_same, same_at, resume_same, from_top}
use Rattle.cm_core.proofs.Keeps.{Closed, Kept, Keeps, Any, EndUses, HooksKeep, keeps_then, keeps_on, keeps_change, keeps_quiet, exec_keeps, resume_keeps, function_keeps, handler_keeps, deliver_keeps, write_keeps}

-- ---- rests stay as they are where another part of a leaf is set

pub rest_set : (leaves : List LeafState) (i j : ℕ) (leaf : LeafState) → leaf.rest ≡ (slice_index_or leaves j no_leaf).rest →
    (slice_index_or (slice_set leaves j leaf) i no_leaf).rest ≡ (slice_index_or leaves i no_leaf).rest
rest_set [] i j leaf e = refl
rest_set (x ∷ leaves) zero zero leaf e = e
rest_set (x ∷ leaves) zero (suc j) leaf e = refl
rest_set (x ∷ leaves) (suc i) zero leaf e = refl
rest_set (x ∷ leaves) (suc i) (suc j) leaf e = rest_set leaves i j leaf e

-- what holds of a new rest and of each old one holds of each
pub rest_put : (P : ℕ → List Todo → Type 0) (leaves : List LeafState) (i j : ℕ) (leaf : LeafState) → P i (slice_index_or leaves i no_leaf).rest → (j ≡ i → P i leaf.rest) →
    P i (slice_index_or (slice_set leaves j leaf) i no_leaf).rest
rest_put P [] i j leaf old new = old
rest_put P (x ∷ leaves) zero zero leaf old new = new refl
rest_put P (x ∷ leaves) zero (suc j) leaf old new = old
rest_put P (x ∷ leaves) (suc i) zero leaf old new = old
rest_put P (x ∷ leaves) (suc i) (suc j) leaf old new = rest_put (λ k. P (suc k)) leaves i j leaf old (λ e. new (ap suc e))

module _ (l : Linked) (levels : Levels) (top : ℕ) (law : IsLeveled l levels top) where
  abbrev Rest : ℕ → List Todo → Type 0
  Rest i rest = UsesRest (λ f. levels.function i f < top) (Writes l levels top i) rest

  -- what is still to be done is code of the program
  abbrev Good : World → Type 0
  Good w = (i : ℕ) → Rest i (leaf_at i w).rest

  set_good : (j : ℕ) (leaf : LeafState) (w : World) → leaf.rest ≡ (leaf_at j w).rest → Good w → Good (with_leaf j leaf w)
  set_good j leaf w e good = λ i. subst (Rest i) (sym (rest_set w.leaves i j leaf e)) (good i)

  closed : Closed Good
  closed =
      record {
        stores = λ i store w good. set_good i _ w refl good;
        adds = λ shape i e v w good. set_good i _ w refl good;
        replaces = λ i e v w good. set_good i _ w refl good;
        tells = λ item w good. good;
      }

  tied_keeps : (i : ℕ) (call : ℕ → List (List ℤ) → Act (List ℤ)) (handle : Handle) → ((f : ℕ) (vs : List (List ℤ)) → Keeps Good Any (call f vs)) →
      ((j e : ℕ) (v : List ℤ) → Keeps Good Any (handle j e v)) → HooksKeep Good (tied l i call handle)
  tied_keeps i call handle f g =
      record { calls = f; writes = λ e v. write_keeps Good closed l (end_of (unit_at l i) e).kind (end_of (unit_at l i) e).shape i e handle g v }

  mutual
    calls_keep : (depth i f : ℕ) (vs : List (List ℤ)) → Keeps Good Any (calls l depth i f vs)
    calls_keep zero i f vs = λ w n k. (k, tt)
    calls_keep (suc depth) i f vs =
        function_keeps Good closed (tied l i (calls l depth i) (handles l depth)) (tied_keeps i _ _ (calls_keep depth i) (handles_keep depth)) l f
        (λ c g. levels.function i g < levels.function i f) (λ c. Writes l levels (levels.function i f) i) (slice_get (unit_at l i).functions f) (law.ends.functions i f) vs

    handles_keep : (depth j e : ℕ) (v : List ℤ) → Keeps Good Any (handles l depth j e v)
    handles_keep zero j e v = λ w n k. (k, tt)
    handles_keep (suc depth) j e v =
        handler_keeps Good closed (tied l j (calls l depth j) (handles l depth)) (tied_keeps j _ _ (calls_keep depth j) (handles_keep depth)) l
        (λ g. levels.function j g < levels.handler j e) (Writes l levels (levels.handler j e) j) (handler_at (unit_at l j) e) (law.ends.handlers j e) v

  hooks_keep : (depth i : ℕ) → HooksKeep Good (hooks l depth i)
  hooks_keep depth i = tied_keeps i _ _ (calls_keep depth i) (handles_keep depth)

  -- ---- leaves

  rest_good : (j : ℕ) (end : Ending) → EndUses (λ f. levels.function j f < top) (Writes l levels top j) end → (w : World) → Good w → Good (with_rest j (rest_of end) w)
  rest_good j end u w good = λ i. rest_put Rest w.leaves i j _ (good i) (λ e. subst (λ k. Rest k (rest_of end)) e (new end u))
    where
      new : (end : Ending) → EndUses (λ f. levels.function j f < top) (Writes l levels top j) end → Rest j (rest_of end)
      new (GoesOn way) u = tt
      new (Pauses rest) u = u

  go_on_good : (depth i : ℕ) → Keeps Good (EndUses (λ f. levels.function i f < top) (Writes l levels top i)) (go_on l depth i)
  go_on_good depth i w n k =
      resume_keeps Good closed (hooks l depth i) (hooks_keep depth i) (λ f. levels.function i f < top) (Writes l levels top i) (leaf_at i w).rest (k i) On w n k

  resumed_good : (depth i : ℕ) → Keeps Good Any (resumed l depth i)
  resumed_good depth i =
      keeps_on Good Any (change (enter l i home.Main)) _ (keeps_change Good (enter l i home.Main) (λ w k. set_good i _ w refl k))
      (λ d. keeps_then Good (EndUses (λ f. levels.function i f < top) (Writes l levels top i)) Any (go_on l depth i) (λ end. change (with_rest i (rest_of end)))
      (go_on_good depth i) (λ end u v m k. (rest_good i end u v k, tt)))

  again_good : (depth i count : ℕ) → Keeps Good Any (resumed_again l depth i count)
  again_good depth i zero = λ w n k. (k, tt)
  again_good depth i (suc count) =
      keeps_on Good Any (change (clear l i)) _ (keeps_change Good (clear l i) (λ w k. set_good i _ w refl k))
      (λ d. keeps_on Good Any (resumed l depth i) _ (resumed_good depth i) (λ e. again_good depth i count))

  act_good : (depth i : ℕ) → Keeps Good Any (act_of l depth i)
  act_good depth i =
      keeps_on Good Any (change (renew l i)) _ (keeps_change Good (renew l i) (λ w k. set_good i _ w refl k))
      (λ d. keeps_on Good Any (resumed l depth i) _ (resumed_good depth i) (λ e. again_good depth i ((unit_at l i).factor - 1)))

  init_good : (depth i : ℕ) → Keeps Good Any (init_of l depth i)
  init_good depth i =
      keeps_on Good Any (change (enter l i home.Init)) _ (keeps_change Good (enter l i home.Init) (λ w k. set_good i _ w refl k))
      (λ d. keeps_quiet Good (EndUses (λ f. levels.function i f < top) (Writes l levels top i)) (exec (body_of (unit_at l i).init) (hooks l depth i))
      (exec_keeps Good closed (hooks l depth i) (hooks_keep depth i) (λ f. levels.function i f < top) (Writes l levels top i) (body_of (unit_at l i).init) (law.inits i)))

  order_good : (act : ℕ → Act Done) → ((i : ℕ) → Keeps Good Any (act i)) → (order : List LeafId) → Keeps Good Any (in_order act order)
  order_good act f [] = λ w n k. (k, tt)
  order_good act f (leaf ∷ leaves) = keeps_on Good Any (act leaf.0) _ (f leaf.0) (λ d. order_good act f leaves)

  -- ---- parts

  abbrev GoodLeft : Left World → Type 0
  GoodLeft (Goes w) = Good w
  GoodLeft (Spent w) = Unit {0}
  GoodLeft (Traps w) = Unit {0}

  left_good : (finish : World → World) → ((w : World) → Good w → Good (finish w)) → (x : Given Done) → Kept Good Any x → GoodLeft (left_of finish x)
  left_good finish f (Gives value w n) k = f w k.0
  left_good finish f (Short w) k = tt

  clear_good : (order : List LeafId) (w : World) → Good w → Good (clear_all l order w)
  clear_good [] w k = k
  clear_good (leaf ∷ leaves) w k = clear_good leaves (clear l leaf.0 w) (set_good leaf.0 _ w refl k)

  end_good : (w : World) → Good w → Good (end_frame l w)
  end_good w good = clear_good l.order _ good

  perform_good : (depth n : ℕ) (part : Part) (w : World) → Good w → GoodLeft (perform l depth n part w)
  perform_good depth n Init w good = left_good (λ v. v) (λ v k. k) (in_order (init_of l depth) l.order w n) (order_good (init_of l depth) (init_good depth) l.order w n good)
  perform_good depth n (Send frame k value inputs) w good =
      left_good (λ v. v) (λ v g. g) (deliver l l.flat.chains (host_point l k) (handles l depth) value (at_frame frame inputs w) n)
      (deliver_keeps Good closed l l.flat.chains (host_point l k) (handles l depth) (handles_keep depth) value (at_frame frame inputs w) n good)
  perform_good depth n (Frame frame inputs) w good =
      left_good (end_frame l) end_good (in_order (act_of l depth) l.order (at_frame frame inputs w) n)
      (order_good (act_of l depth) (act_good depth) l.order (at_frame frame inputs w) n good)

  -- ---- the same at the next depth

  kept_same : {A B : Type 0} (Q : A → Type 0) (x : Given A) (go og : A → Act B) → Kept Good Q x → ((value : A) (w : World) (n : ℕ) → Good w → go value w n ≡ og value w n) → bind x go ≡ bind x og
  kept_same Q (Gives value w n) go og k f = f value w n k.0
  kept_same Q (Short w) go og k f = refl

  -- two acts one after another, of which the first keeps what the second needs
  after_same : (first second third fourth : Act Done) → Keeps Good Any first → (w : World) (n : ℕ) → first w n ≡ second w n → ((v : World) (m : ℕ) → Good v → third v m ≡ fourth v m) → Good w →
      after first third w n ≡ after second fourth w n
  after_same first second third fourth keeps w n e f good =
      kept_same Any (first w n) (λ d. third) (λ d. fourth) (keeps w n good) (λ d v m k. f v m k) ∙ ap (λ x. bind x (λ d. fourth)) e

  acts_same : (act tca : ℕ → Act Done) → ((i : ℕ) (w : World) (n : ℕ) → Good w → act i w n ≡ tca i w n) → ((i : ℕ) → Keeps Good Any (act i)) →
      (order : List LeafId) (w : World) (n : ℕ) → Good w → in_order act order w n ≡ in_order tca order w n
  acts_same act tca same keeps [] w n good = refl
  acts_same act tca same keeps (leaf ∷ leaves) w n good =
      after_same (act leaf.0) (tca leaf.0) (in_order act leaves) (in_order tca leaves) (keeps leaf.0) w n (same leaf.0 w n good) (acts_same act tca same keeps leaves) good

  inits_same : (act tca : ℕ → Act Done) → ((i : ℕ) → act i ≡ tca i) → (order : List LeafId) → in_order act order ≡ in_order tca order
  inits_same act tca same [] = refl
  inits_same act tca same (leaf ∷ leaves) = λ k. after (same leaf.0 k) (inits_same act tca same leaves k)

  module _ (depth : ℕ) (le : top ≤ depth) where
    delivers_eq : (from : Point) → Reaches l levels top from l.flat.chains → deliver l l.flat.chains from (handles l depth) ≡ deliver l l.flat.chains from (handles l (suc depth))
    delivers_eq from r = deliver_same l levels top l.flat.chains from (handles l depth) (handles l (suc depth)) r (λ j x k. (same_at l levels law.ends depth).handlers j x (omega arith))

    go_on_same : (i : ℕ) (w : World) (n : ℕ) → Good w → go_on l depth i w n ≡ go_on l (suc depth) i w n
    go_on_same i w n good =
        let e : resume (leaf_at i w).rest (hooks l depth i) On ≡ resume (leaf_at i w).rest (hooks l (suc depth) i) On =
        resume_same l.program.structs (unit_at l i) i (input_of l i) (calls l depth i) (calls l (suc depth) i) (write_of l i (handles l depth)) (write_of l i (handles l (suc depth)))
        (λ f. levels.function i f < top) (Writes l levels top i) (λ f k. (same_at l levels law.ends depth).functions i f (omega arith))
        (λ x r. write_same l levels top (end_of (unit_at l i) x).kind (end_of (unit_at l i) x).shape i x (handles l depth) (handles l (suc depth)) r (λ j y k. (same_at l levels law.ends depth).handlers j y (omega arith)))
        (leaf_at i w).rest (good i) On in
        λ k. e k w n

    resumed_same : (i : ℕ) (w : World) (n : ℕ) → Good w → resumed l depth i w n ≡ resumed l (suc depth) i w n
    resumed_same i w n good =
        ap (λ x. bind x (λ end. change (with_rest i (rest_of end)))) (go_on_same i (enter l i home.Main w) n (set_good i _ w refl good))

    again_same : (i count : ℕ) (w : World) (n : ℕ) → Good w → resumed_again l depth i count w n ≡ resumed_again l (suc depth) i count w n
    again_same i zero w n good = refl
    again_same i (suc count) w n good =
        let v : World = clear l i w in
        let g : Good v = set_good i _ w refl good in
        after_same (resumed l depth i) (resumed l (suc depth) i) (resumed_again l depth i count) (resumed_again l (suc depth) i count) (resumed_good depth i) v n (resumed_same i v n g) (again_same i count) g

    act_same : (i : ℕ) (w : World) (n : ℕ) → Good w → act_of l depth i w n ≡ act_of l (suc depth) i w n
    act_same i w n good =
        let v : World = renew l i w in
        let g : Good v = set_good i _ w refl good in
        let count : ℕ = (unit_at l i).factor - 1 in
        after_same (resumed l depth i) (resumed l (suc depth) i) (resumed_again l depth i count) (resumed_again l (suc depth) i count) (resumed_good depth i) v n (resumed_same i v n g) (again_same i count) g

    init_same : (i : ℕ) → init_of l depth i ≡ init_of l (suc depth) i
    init_same i = λ k.
        after (change (enter l i home.Init)) (quiet (body_same l levels depth (same_at l levels law.ends depth) top i le (body_of (unit_at l i).init) (law.inits i) k))

    perform_same : (n : ℕ) (part : Part) (w : World) → Good w → perform l depth n part w ≡ perform l (suc depth) n part w
    perform_same n Init w good = λ k. left_of (λ v. v) (inits_same (init_of l depth) (init_of l (suc depth)) init_same l.order k w n)
    perform_same n (Send frame e value inputs) w good = λ k. left_of (λ v. v) (delivers_eq (host_point l e) (law.sends e) k value (at_frame frame inputs w) n)
    perform_same n (Frame frame inputs) w good =
        ap (left_of (end_frame l)) (acts_same (act_of l depth) (act_of l (suc depth)) act_same (act_good depth) l.order (at_frame frame inputs w) n good)

    part_same : (part : Part) (x : Left World) (go og : World → Stop World) → GoodLeft x → ((w : World) → Good w → go w ≡ og w) → after_part part x go ≡ after_part part x og
    part_same part (Goes w) go og k f = f w k
    part_same part (Spent w) go og k f = refl
    part_same part (Traps w) go og k f = refl

    stops_same : (n : ℕ) (tasks : List Task) (w : World) → Good w → stops (core_player l depth) n tasks w ≡ stops (core_player l (suc depth)) n tasks w
    unfolding stops
    stops_same n [] w good = refl
    stops_same n (Set e value ∷ tasks) w good = stops_same n tasks ((core_player l depth).set e value w) good
    stops_same n (Begin part ∷ tasks) w good =
        part_same part (perform l depth n part w) _ _ (perform_good depth n part w good) (stops_same n tasks)
        ∙ ap (λ x. after_part part x (stops (core_player l (suc depth)) n tasks)) (perform_same n part w good)

  main_rest : (i : ℕ) (main : Option CoreStmt) → main ≡ (unit_at l i).main → Rest i (first_rest main)
  main_rest i None e = tt
  main_rest i (Some main) e = (subst (λ m. Under l levels top i (body_of m)) (sym e) (law.mains i), tt)

  first_rests : (from i : ℕ) (leaves : List Leaf) → Rest (from + i) (slice_index_or (first_leaves l from leaves) i no_leaf).rest
  first_rests from i [] = tt
  first_rests from zero (leaf ∷ leaves) = let e : from ≡ from + zero = omega arith in subst (λ k. Rest k (first_leaf l from).rest) e (main_rest from (unit_at l from).main refl)
  first_rests from (suc i) (leaf ∷ leaves) =
      let e : (from + 1) + i ≡ from + suc i = omega arith in subst (λ k. Rest k (slice_index_or (first_leaves l (from + 1) leaves) i no_leaf).rest) e (first_rests (from + 1) i leaves)

  first_good : Good (first_world l)
  first_good i = let e : 0 + i ≡ i = omega arith in subst (λ k. Rest k (leaf_at i (first_world l)).rest) e (first_rests 0 i l.flat.leaves)

  pub stops_deep : (n : ℕ) (tasks : List Task) (more : ℕ) → stops (core_player l top) n tasks (first_world l) ≡ stops (core_player l (top + more)) n tasks (first_world l)
  stops_deep n tasks more = from_top (λ depth. stops (core_player l depth) n tasks (first_world l)) top (λ depth le. stops_same depth le n tasks (first_world l) first_good) more
