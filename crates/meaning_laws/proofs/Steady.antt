-- No act adds turns or takes back what was told; with more turns it gives the same with more left, or tells no less.
use Rattle.std.proofs.Common.{◌≡◌, ℕ, zero, suc, ◌+◌, ◌<◌, ◌≤◌, List, [], ◌∷◌, ◌++◌, Bool, true, false, if◌then◌else◌, Option, Some, None, refl, sym, ap, ◌∙◌, subst, arith, append_assoc, pos, neg_ℤ}
use Rattle.std.proofs.lemmas.List.{append-nil}
use Rattle.cm_base.specs.declared.place.Place.{Place}
use Rattle.cm_base.specs.declared.play.Item.{Item}
use Rattle.cm_tree.specs.declared.operator.Binary.{Binary}
use Rattle.cm_tree.specs.declared.operator.Change.{Change}
use Rattle.cm_tree.specs.declared.operator.Change.TheVariants as c
use Rattle.cm_tree.specs.declared.expr.Expr.{Expr, Row_of-Expr, end_of-Expr, more_of-Expr}
use Rattle.cm_tree.specs.declared.expr.Expr.TheVariants as e
use Rattle.cm_tree.specs.declared.type_expr.TypeExpr.{TypeExpr}
use Rattle.cm_tree.specs.declared.simple.Init.{Init}
use Rattle.cm_tree.specs.declared.simple.Var.{Var}
use Rattle.cm_tree.specs.declared.simple.Local.{Local}
use Rattle.cm_tree.specs.declared.simple.Local.TheVariants as l
use Rattle.cm_tree.specs.declared.simple.Step.{Step}
use Rattle.cm_tree.specs.declared.simple.Step.TheVariants as st
use Rattle.cm_tree.specs.declared.simple.Target.{Target}
use Rattle.cm_tree.specs.declared.simple.Simple.{Simple}
use Rattle.cm_tree.specs.declared.simple.Simple.TheVariants as i
use Rattle.cm_tree.specs.declared.stmt.Start.{Start}
use Rattle.cm_tree.specs.declared.stmt.Start.TheVariants as f
use Rattle.cm_tree.specs.declared.stmt.Stmt.{Stmt, Row_of-Stmt, end_of-Stmt, more_of-Stmt}
use Rattle.cm_tree.specs.declared.stmt.Stmt.TheVariants as x
use Rattle.cm_meaning.specs.Declared.{Home, Declared, is_function}
use Rattle.cm_meaning.specs.Scopes.{Around, scoped, looped, declare, local_constant, inferred_local, typed_local, find, find_word}
use Rattle.cm_meaning.specs.BodySites.{after as behind, after_start, counter}
use Rattle.cm_meaning.specs.Types.{CmType}
use Rattle.cm_meaning.specs.Conversions.{Valued}
use Rattle.cm_meaning.specs.Constants.{type_of_expr}
use Rattle.cm_meaning.specs.Stores.{is_true, zero_in, Store, with_cell, changed, with_scope, without_scope, Picked, assigned}
use Rattle.std.specs.Prelude.{slice_index_or, slice_set}
use Rattle.cm_meaning.specs.World.{World, LeafState, no_leaf, leaf_at, with_leaf, Test, Always, Holds, Down, Next, Loop, Todo, Do, Again, Leave, store_at, with_store}
use Rattle.cm_meaning.specs.Acts.{Given, Gives, Short, Act, Done, done, bind, andthen, after, gives, look, change, quiet, none_left, begin}
use Rattle.cm_meaning.specs.Eval.{Hooks, Selection, read, needs_right, called, found, values_row, eval, eval_all, holds}
use Rattle.cm_meaning.specs.Performs.{change_store, put, put_inits, first_value, put_vars, put_locals, target_steps, stored, store, count, perform, start}
use Rattle.cm_meaning.specs.Resume.{Way, On, Broke, Continued, Returned, Ending, Goes, Pauses, next, on, round_end, go_on, leave, in_scope, third, tested, moved, entered, rounds, repeat, begun_then, bare, each, of_parts, answered, written, exec, exec_row, round, begun, taken, dropped, resume}
use Rattle.cm_meaning.proofs.Steady as turns
use Rattle.meaning_laws.specs.Laws.{Prefix, IsWithin}

pub prefix_same : (a : List Item) → Prefix a a
prefix_same a = ([], append-nil a)

pub prefix_on : (a b c : List Item) → Prefix a b → Prefix b c → Prefix a c
prefix_on a b c p q = (p.0 ++ q.0, sym (append_assoc a p.0 q.0) ∙ ap (λ l. l ++ q.0) p.1 ∙ q.1)

abbrev pub told : {A : Type 0} → Given A → List Item
told (Gives value w n) = w.trace
told (Short w) = w.trace

-- what d more turns give in place of the first
abbrev pub Later : {A : Type 0} → ℕ → Given A → Given A → Type 0
Later d (Gives value w n) y = y ≡ Gives value w (n + d)
Later d (Short w) y = Prefix w.trace (told y)

pub record Lasting {A : Type 0} (act : Act A) : Type 0 where
  pub within : (w : World) (n : ℕ) → IsWithin n (act w n)
  pub grows : (w : World) (n : ℕ) → Prefix w.trace (told (act w n))
  pub later : (d : ℕ) (w : World) (n : ℕ) → Later d (act w n) (act w (n + d))

-- ---- one law for each way to make acts

pub lasting_gives : {A : Type 0} (value : A) → Lasting (gives value)
lasting_gives value = record { within = λ w n. omega arith; grows = λ w n. prefix_same w.trace; later = λ d w n. refl }

pub lasting_look : {A : Type 0} (view : World → A) → Lasting (look view)
lasting_look view = record { within = λ w n. omega arith; grows = λ w n. prefix_same w.trace; later = λ d w n. refl }

pub lasting_change : (step : World → World) → ((w : World) → Prefix w.trace (step w).trace) → Lasting (change step)
lasting_change step grows = record { within = λ w n. omega arith; grows = λ w n. grows w; later = λ d w n. refl }

lasting_none : {A : Type 0} → Lasting (none_left {A = A})
lasting_none = record { within = λ w n. tt; grows = λ w n. prefix_same w.trace; later = λ d w n. prefix_same w.trace }

within_more : {A : Type 0} (m n : ℕ) → m ≤ n → (x : Given A) → IsWithin m x → IsWithin n x
within_more m n le (Gives value w k) h = omega arith
within_more m n le (Short w) h = tt

within_bind : {A B : Type 0} (n : ℕ) (x : Given A) (go : A → Act B) → IsWithin n x → ((value : A) → Lasting (go value)) → IsWithin n (bind x go)
within_bind n (Gives value w m) go h g = within_more m n h (go value w m) ((g value).within w m)
within_bind n (Short w) go h g = tt

grows_bind : {A B : Type 0} (x : Given A) (go : A → Act B) → ((value : A) → Lasting (go value)) → Prefix (told x) (told (bind x go))
grows_bind (Gives value w m) go g = (g value).grows w m
grows_bind (Short w) go g = prefix_same w.trace

later_bind : {A B : Type 0} (d : ℕ) (x y : Given A) (go : A → Act B) → Later d x y → ((value : A) → Lasting (go value)) → Later d (bind x go) (bind y go)
later_bind d (Gives value w n) y go h g = subst (λ z. Later d (go value w n) (bind z go)) (sym h) ((g value).later d w n)
later_bind d (Short w) y go h g = prefix_on w.trace (told y) (told (bind y go)) h (grows_bind y go g)

pub lasting_then : {A B : Type 0} (first : Act A) (go : A → Act B) → Lasting first → ((value : A) → Lasting (go value)) → Lasting (andthen first go)
lasting_then first go f g =
    record {
      within = λ w n. within_bind n (first w n) go (f.within w n) g;
      grows = λ w n. prefix_on w.trace (told (first w n)) _ (f.grows w n) (grows_bind (first w n) go g);
      later = λ d w n. later_bind d (first w n) (first w (n + d)) go (f.later d w n) g;
    }

pub lasting_after : {A : Type 0} (first : Act Done) (go : Act A) → Lasting first → Lasting go → Lasting (after first go)
lasting_after first go f g = lasting_then first (λ _. go) f (λ _. g)

pub lasting_quiet : {A : Type 0} (act : Act A) → Lasting act → Lasting (quiet act)
lasting_quiet act f = lasting_then act (λ _. gives done) f (λ _. lasting_gives done)

pub lasting_if : {A : Type 0} (b : Bool) (x y : Act A) → Lasting x → Lasting y → Lasting (if b then x else y)
lasting_if true x y f g = f
lasting_if false x y f g = g

within_begin : {A : Type 0} (body : Act A) → Lasting body → (w : World) (n : ℕ) → IsWithin n (begin body w n)
within_begin body f w zero = tt
within_begin body f w (suc n) = within_more n (suc n) (omega arith) (body w n) (f.within w n)

grows_begin : {A : Type 0} (body : Act A) → Lasting body → (w : World) (n : ℕ) → Prefix w.trace (told (begin body w n))
grows_begin body f w zero = prefix_same w.trace
grows_begin body f w (suc n) = f.grows w n

later_begin : {A : Type 0} (body : Act A) → Lasting body → (d : ℕ) (w : World) (n : ℕ) → Later d (begin body w n) (begin body w (n + d))
later_begin body f d w zero = grows_begin body f w (zero + d)
later_begin body f d w (suc n) =
    let e : suc (n + d) ≡ suc n + d = omega arith in subst (λ k. Later d (body w n) (begin body w k)) e (f.later d w n)

pub lasting_begin : {A : Type 0} (body : Act A) → Lasting body → Lasting (begin body)
lasting_begin body f = record { within = within_begin body f; grows = grows_begin body f; later = later_begin body f }

-- ---- acts that keep what is left of each main

abbrev pub world_of : {A : Type 0} → Given A → World
world_of (Gives value w n) = w
world_of (Short w) = w

abbrev pub SameRests : World → World → Type 0
SameRests w v = (i : ℕ) → (leaf_at i v).rest ≡ (leaf_at i w).rest

pub rest_set : (leaves : List LeafState) (i j : ℕ) (leaf : LeafState) → leaf.rest ≡ (slice_index_or leaves j no_leaf).rest →
    (slice_index_or (slice_set leaves j leaf) i no_leaf).rest ≡ (slice_index_or leaves i no_leaf).rest
rest_set [] i j leaf e = refl
rest_set (x ∷ leaves) zero zero leaf e = e
rest_set (x ∷ leaves) zero (suc j) leaf e = refl
rest_set (x ∷ leaves) (suc i) zero leaf e = refl
rest_set (x ∷ leaves) (suc i) (suc j) leaf e = rest_set leaves i j leaf e

-- another part of a leaf is set
pub set_rests : (j : ℕ) (leaf : LeafState) (w : World) → leaf.rest ≡ (leaf_at j w).rest → SameRests w (with_leaf j leaf w)
set_rests j leaf w e i = rest_set w.leaves i j leaf e

pub record Steady {A : Type 0} (act : Act A) : Type 0 where
  pub lasting : Lasting act
  pub rests : (w : World) (n : ℕ) → SameRests w (world_of (act w n))

pub steady_gives : {A : Type 0} (value : A) → Steady (gives value)
steady_gives value = record { lasting = lasting_gives value; rests = λ w n i. refl }

pub steady_look : {A : Type 0} (view : World → A) → Steady (look view)
steady_look view = record { lasting = lasting_look view; rests = λ w n i. refl }

pub steady_change : (step : World → World) → ((w : World) → Prefix w.trace (step w).trace) → ((w : World) → SameRests w (step w)) → Steady (change step)
steady_change step grows same = record { lasting = lasting_change step grows; rests = λ w n. same w }

steady_none : {A : Type 0} → Steady (none_left {A = A})
steady_none = record { lasting = lasting_none; rests = λ w n i. refl }

rests_bind : {A B : Type 0} (x : Given A) (go : A → Act B) → ((value : A) → Steady (go value)) → SameRests (world_of x) (world_of (bind x go))
rests_bind (Gives value w m) go g i = (g value).rests w m i
rests_bind (Short w) go g i = refl

pub steady_then : {A B : Type 0} (first : Act A) (go : A → Act B) → Steady first → ((value : A) → Steady (go value)) → Steady (andthen first go)
steady_then first go f g =
    record { lasting = lasting_then first go f.lasting (λ value. (g value).lasting); rests = λ w n i. rests_bind (first w n) go g i ∙ f.rests w n i }

pub steady_after : {A : Type 0} (first : Act Done) (go : Act A) → Steady first → Steady go → Steady (after first go)
steady_after first go f g = steady_then first (λ _. go) f (λ _. g)

pub steady_quiet : {A : Type 0} (act : Act A) → Steady act → Steady (quiet act)
steady_quiet act f = steady_then act (λ _. gives done) f (λ _. steady_gives done)

pub steady_if : {A : Type 0} (b : Bool) (x y : Act A) → Steady x → Steady y → Steady (if b then x else y)
steady_if true x y f g = f
steady_if false x y f g = g

rests_begin : {A : Type 0} (body : Act A) → Steady body → (w : World) (n : ℕ) → SameRests w (world_of (begin body w n))
rests_begin body f w zero i = refl
rests_begin body f w (suc n) i = f.rests w n i

pub steady_begin : {A : Type 0} (body : Act A) → Steady body → Steady (begin body)
steady_begin body f = record { lasting = lasting_begin body f.lasting; rests = rests_begin body f }

-- ---- ends of statements

steady_next : (rest : List Todo) (go : Way → Act Ending) → ((way : Way) → Steady (go way)) → (end : Ending) → Steady (next rest go end)
steady_next rest go f (Goes way) = f way
steady_next rest go f (Pauses more) = steady_gives (Pauses (more ++ rest))

steady_on : (go : Act Ending) → Steady go → (way : Way) → Steady (on go way)
steady_on go f On = f
steady_on go f Broke = steady_gives (Goes Broke)
steady_on go f Continued = steady_gives (Goes Continued)
steady_on go f (Returned v) = steady_gives (Goes (Returned v))

steady_round : (go : Act Ending) → Steady go → (way : Way) → Steady (round_end go way)
steady_round go f On = f
steady_round go f Broke = steady_gives (Goes On)
steady_round go f Continued = f
steady_round go f (Returned v) = steady_gives (Goes (Returned v))

steady_goes : (act : Act Done) → Steady act → Steady (go_on act)
steady_goes act f = steady_after act (gives (Goes On)) f (steady_gives (Goes On))

pub steady_store : (h : Hooks) (step : Store → Store) → Steady (change_store h step)
steady_store h step = steady_change (λ w. with_store h.leaf (step (store_at h.leaf w)) w) (λ w. prefix_same w.trace) (λ w. set_rests h.leaf _ w refl)

steady_put : (h : Hooks) (p : Place) (v : Valued) → Steady (put h p v)
steady_put h p v = steady_store h (with_cell p v)

steady_leave : (h : Hooks) (end : Ending) → Steady (leave h end)
steady_leave h (Goes way) = steady_after _ _ (steady_store h without_scope) (steady_gives (Goes way))
steady_leave h (Pauses rest) = steady_gives (Pauses (rest ++ Leave ∷ []))

pub steady_scope : (h : Hooks) (act : Act Ending) → Steady act → Steady (in_scope h act)
steady_scope h act f = steady_after _ _ (steady_store h with_scope) (steady_then act (leave h) f (steady_leave h))

-- ---- loops

pub steady_enter : (t : Test) (h : Hooks) → Steady (entered t h)
steady_enter Always h = steady_gives done
steady_enter (Holds a) h = steady_gives done
steady_enter (Down p) h = steady_store h (changed p (moved (neg_ℤ (pos 1))))
steady_enter (Next p) h = steady_store h (changed p (moved (pos 1)))

-- what adds no turns, as the lemma on rounds needs it
adds_none : {A : Type 0} (act : Act A) → Steady act → turns.Steady act
adds_none act f = record { within = λ w n. same_within n (act w n) (f.lasting.within w n) } where
  same_within : {A : Type 0} (n : ℕ) (x : Given A) → IsWithin n x → turns.Within n x
  same_within n (Gives value w m) h = h
  same_within n (Short w) h = tt

-- a loop with a fixed number of rounds is steady, and rounds beyond the turns change nothing
module _ (loop : Loop) (h : Hooks) (body : Act Ending) (calm_test : Steady (tested loop.test loop.around h)) (calm_third : Steady (third loop.third loop.around h)) (calm_body : Steady body) where
  abbrev others : ℕ → Act Ending
  others most = after (third loop.third loop.around h) (rounds most loop h body)

  abbrev one_round : ℕ → Act Ending
  one_round most = after (entered loop.test h) (andthen body (next (Again loop ∷ []) (round_end (others most))))

  steady_rounds : (most : ℕ) → Steady (rounds most loop h body)
  steady_rounds zero = steady_none
  steady_rounds (suc most) =
      let rest : Steady (others most) = steady_after (third loop.third loop.around h) _ calm_third (steady_rounds most) in
      let go : Steady (one_round most) =
      steady_after (entered loop.test h) _ (steady_enter loop.test h) (steady_then body _ calm_body (steady_next (Again loop ∷ []) _ (steady_round (others most) rest))) in
      steady_then (tested loop.test loop.around h) _ calm_test
      (λ more. steady_if more (begin (one_round most)) (gives (Goes On)) (steady_begin (one_round most) go) (steady_gives (Goes On)))

  enough : (f g n : ℕ) (w : World) → n < f → n < g → rounds f loop h body w n ≡ rounds g loop h body w n
  enough = turns.enough loop h body (adds_none _ calm_test) (adds_none _ calm_third) (adds_none _ calm_body)

  pub steady_repeat : Steady (repeat loop h body)
  steady_repeat =
      record {
        lasting = record {
          within = λ w n. (steady_rounds (suc n)).lasting.within w n;
          grows = λ w n. (steady_rounds (suc n)).lasting.grows w n;
          later = λ d w n.
              subst (λ z. Later d z (rounds (suc (n + d)) loop h body w (n + d)))
              (enough (suc (n + d)) (suc n) n w (omega arith) (omega arith)) ((steady_rounds (suc (n + d))).lasting.later d w n);
        };
        rests = λ w n. (steady_rounds (suc n)).rests w n;
      }

  steady_begun : Steady (begun_then loop h body)
  steady_begun = steady_begin _ (steady_then body _ calm_body (steady_next (Again loop ∷ []) _ (steady_round (repeat loop h body) steady_repeat)))

-- ---- expressions

-- calls and writes add no turns
pub record Calm (h : Hooks) : Type 0 where
  pub call : (x : Declared) (values : List Valued) → Steady (h.call x values)
  pub write : (x : Declared) (value : Valued) → Steady (h.write x value)

steady_read : (h : Hooks) (act : Act Selection) → Steady act → Steady (read h act)
steady_read h act f = steady_then act _ f (λ s. steady_look _)

steady_called : (h : Hooks) → Calm h → (found : Option Declared) (values : List Valued) → Steady (called h found values)
steady_called h c None values = steady_gives _
steady_called h c (Some x) values = steady_if (is_function x.named) _ _ (c.call x values) (steady_gives _)

mutual
  unfolding found values_row

  pub steady_found : (a : Expr) (r : Around) (h : Hooks) → Calm h → Steady (found a r h)
  steady_found (e.Number p z wide) r h c = steady_gives _
  steady_found (e.Truth p t) r h c = steady_gives _
  steady_found (e.Name q) r h c = steady_gives _
  steady_found (e.Call' q sh args) r h c =
      steady_then _ _ (steady_row args r h c) (λ values. steady_then _ _ (steady_called h c (find r q) values) (λ v. steady_gives _))
  steady_found (e.Construct' t sh sizes i args) r h c = steady_then _ _ (steady_row args r h c) (λ values. steady_gives _)
  steady_found (e.Paren' p sh (more_of-Expr a end_of-Expr)) r h c = steady_found a r h c
  steady_found (e.Field' p sh (more_of-Expr a end_of-Expr) w) r h c = steady_then _ _ (steady_found a r h c) (λ s. steady_gives _)
  steady_found (e.Index' p sh (more_of-Expr a end_of-Expr) i (more_of-Expr b end_of-Expr)) r h c =
      steady_then _ _ (steady_found a r h c) (λ s. steady_then _ _ (steady_read h _ (steady_found b r h c)) (λ v. steady_gives _))
  steady_found (e.Unary' p op sh (more_of-Expr a end_of-Expr)) r h c = steady_then _ _ (steady_read h _ (steady_found a r h c)) (λ v. steady_gives _)
  steady_found (e.Binary' p op sh (more_of-Expr a end_of-Expr) i (more_of-Expr b end_of-Expr)) r h c =
      steady_then _ _ (steady_read h _ (steady_found a r h c))
      (λ v. steady_if (needs_right op (is_true v)) _ _ (steady_then _ _ (steady_read h _ (steady_found b r h c)) (λ u. steady_gives _)) (steady_gives _))
  steady_found (e.Choice' p sh (more_of-Expr t end_of-Expr) i (more_of-Expr a end_of-Expr) j (more_of-Expr b end_of-Expr)) r h c =
      steady_then _ _ (steady_read h _ (steady_found t r h c))
      (λ v.
      steady_then _ _ (steady_if (is_true v) _ _ (steady_read h _ (steady_found a r h c)) (steady_read h _ (steady_found b r h c))) (λ u. steady_gives _))

  pub steady_row : {n : _} (all : Row_of-Expr n) (r : Around) (h : Hooks) → Calm h → Steady (values_row all r h)
  steady_row end_of-Expr r h c = steady_gives _
  steady_row (more_of-Expr a others) r h c =
      steady_then _ _ (steady_read h _ (steady_found a r h c)) (λ v. steady_then _ _ (steady_row others r h c) (λ values. steady_gives _))

pub steady_eval : (a : Expr) (r : Around) (h : Hooks) → Calm h → Steady (eval a r h)
steady_eval a r h c = steady_read h _ (steady_found a r h c)

pub steady_eval_all : (all : List Expr) (r : Around) (h : Hooks) → Calm h → Steady (eval_all all r h)
steady_eval_all [] r h c = steady_gives _
steady_eval_all (a ∷ all) r h c = steady_then _ _ (steady_eval a r h c) (λ v. steady_then _ _ (steady_eval_all all r h c) (λ values. steady_gives _))

pub steady_holds : (a : Expr) (r : Around) (h : Hooks) → Calm h → Steady (holds a r h)
steady_holds a r h c = steady_then _ _ (steady_eval a r h c) (λ v. steady_gives _)

-- ---- what statements do

steady_inits : (named : Home → Init → Declared) (inits : List Init) (r : Around) (h : Hooks) → Calm h → Steady (put_inits named inits r h)
steady_inits named [] r h c = steady_gives _
steady_inits named (a ∷ all) r h c =
    steady_then _ _ (steady_eval a.value r h c) (λ v. steady_after _ _ (steady_put h a.name.place v) (steady_inits named all (declare r (named r.home a)) h c))

steady_first : (value : Option Expr) (t : Option CmType) (r : Around) (h : Hooks) → Calm h → Steady (first_value value t r h)
steady_first None t r h c = steady_gives _
steady_first (Some a) t r h c = steady_then _ _ (steady_eval a r h c) (λ v. steady_gives _)

steady_vars : (ty : TypeExpr) (t : Option CmType) (vars : List Var) (r : Around) (h : Hooks) → Calm h → Steady (put_vars ty t vars r h)
steady_vars ty t [] r h c = steady_gives _
steady_vars ty t (a ∷ all) r h c =
    steady_then _ _ (steady_first a.value t r h c) (λ v. steady_after _ _ (steady_put h a.name.place v) (steady_vars ty t all (declare r (typed_local r.home ty a)) h c))

pub steady_locals : (a : Local) (r : Around) (h : Hooks) → Calm h → Steady (put_locals a r h)
steady_locals (l.Let p inits) r h c = steady_inits local_constant inits r h c
steady_locals (l.Var p inits) r h c = steady_inits inferred_local inits r h c
steady_locals (l.Typed ty vars) r h c = steady_vars ty _ vars r h c

steady_steps : (steps : List Step) (r : Around) (h : Hooks) → Calm h → Steady (target_steps steps r h)
steady_steps [] r h c = steady_gives _
steady_steps (st.Field w ∷ steps) r h c = steady_then _ _ (steady_steps steps r h c) (λ others. steady_gives _)
steady_steps (st.Index p a ∷ steps) r h c = steady_then _ _ (steady_eval a r h c) (λ v. steady_then _ _ (steady_steps steps r h c) (λ others. steady_gives _))

steady_stored : (found : Option Declared) (steps : List Picked) (op : Option Binary) (right : Valued) (h : Hooks) → Steady (store found steps op right h)
steady_stored None steps op right h = steady_gives _
steady_stored (Some x) steps op right h = steady_store h (changed x.word.place (assigned steps (stored op right)))

steady_count : (t : Target) (by : Change) (r : Around) (h : Hooks) → Calm h → Steady (count t by r h)
steady_count t c.Increase r h calm = steady_then _ _ (steady_steps t.steps r h calm) (λ steps. steady_stored (find_word r t.name) steps _ _ h)
steady_count t c.Decrease r h calm = steady_then _ _ (steady_steps t.steps r h calm) (λ steps. steady_stored (find_word r t.name) steps _ _ h)

pub steady_perform : (a : Simple) (r : Around) (h : Hooks) → Calm h → Steady (perform a r h)
steady_perform (i.Assign t op a) r h c =
    steady_then _ _ (steady_steps t.steps r h c) (λ steps. steady_then _ _ (steady_eval a r h c) (λ right. steady_stored (find_word r t.name) steps _ right h))
steady_perform (i.After t by) r h c = steady_count t by r h c
steady_perform (i.Before p by t) r h c = steady_count t by r h c
steady_perform (i.Call q args) r h c =
    steady_then _ _ (steady_eval_all args r h c) (λ values. steady_then _ _ (steady_called h c (find r q) values) (λ v. steady_gives _))

pub steady_start : (s : Option Start) (r : Around) (h : Hooks) → Calm h → Steady (start s r h)
steady_start None r h c = steady_gives _
steady_start (Some (f.Local a)) r h c = steady_locals a r h c
steady_start (Some (f.Simple a)) r h c = steady_perform a r h c

pub steady_third : (a : Option Simple) (r : Around) (h : Hooks) → Calm h → Steady (third a r h)
steady_third None r h c = steady_gives _
steady_third (Some a) r h c = steady_perform a r h c

pub steady_test : (t : Test) (r : Around) (h : Hooks) → Calm h → Steady (tested t r h)
steady_test Always r h c = steady_gives _
steady_test (Holds a) r h c = steady_holds a r h c
steady_test (Down p) r h c = steady_look _
steady_test (Next p) r h c = steady_look _

steady_answered : (v : Option Expr) (r : Around) (h : Hooks) → Calm h → Steady (answered v r h)
steady_answered None r h c = steady_gives _
steady_answered (Some a) r h c = steady_then _ _ (steady_eval a r h c) (λ v. steady_gives _)

pub steady_written : (found : Option Declared) (v : Valued) (h : Hooks) → Calm h → Steady (written found v h)
steady_written None v h c = steady_gives _
steady_written (Some x) v h c = c.write x v

pub repeat_steady : (loop : Loop) (h : Hooks) → Calm h → (body : Act Ending) → Steady body → Steady (repeat loop h body)
repeat_steady loop h c body b = steady_repeat loop h body (steady_test loop.test loop.around h c) (steady_third loop.third loop.around h c) b

-- ---- statements

mutual
  unfolding exec exec_row

  pub steady_exec : (s : Stmt) (r : Around) (h : Hooks) → Calm h → Steady (exec s r h)
  steady_exec (x.Block' p sh all) r h c = steady_scope h _ (steady_exec_row all (scoped r []) h c)
  steady_exec (x.Empty p) r h c = steady_gives _
  steady_exec (x.Local a) r h c = steady_goes _ (steady_locals a r h c)
  steady_exec (x.Simple a) r h c = steady_goes _ (steady_perform a r h c)
  steady_exec (x.Assert a) r h c = steady_gives _
  steady_exec (x.If' p t sh (more_of-Stmt a end_of-Stmt)) r h c =
      steady_then _ _ (steady_holds t r h c) (λ test. steady_if test _ _ (steady_scope h _ (steady_exec a (scoped r []) h c)) (steady_gives _))
  steady_exec (x.IfElse' p t sh (more_of-Stmt a end_of-Stmt) si (more_of-Stmt b end_of-Stmt)) r h c =
      steady_then _ _ (steady_holds t r h c)
      (λ test. steady_if test _ _ (steady_scope h _ (steady_exec a (scoped r []) h c)) (steady_scope h _ (steady_exec b (scoped r []) h c)))
  steady_exec (x.Loop' p None sh (more_of-Stmt a end_of-Stmt)) r h c =
      repeat_steady (bare r Always a) h c _ (steady_scope h _ (steady_exec a (scoped (looped r) []) h c))
  steady_exec (x.Loop' p (Some t) sh (more_of-Stmt a end_of-Stmt)) r h c =
      steady_then _ _ (steady_eval t r h c)
      (λ v.
      steady_scope h _ (steady_after _ _ (steady_put h p v)
      (repeat_steady (bare r (Down p) a) h c _ (steady_scope h _ (steady_exec a (scoped (looped r) []) h c)))))
  steady_exec (x.While' p t sh (more_of-Stmt a end_of-Stmt)) r h c =
      repeat_steady (bare r (Holds t) a) h c _ (steady_scope h _ (steady_exec a (scoped (looped r) []) h c))
  steady_exec (x.ForType' p ty w sh (more_of-Stmt a end_of-Stmt)) r h c =
      steady_scope h _ (steady_after _ _ (steady_put h w.place (zero_in (type_of_expr r h.known.look ty)))
      (steady_begun (each r ty w a) h _ (steady_test (Next w.place) r h c) (steady_gives _) (steady_scope h _ (steady_exec a (scoped (scoped (looped r) (counter r ty w ∷ [])) []) h c))))
  steady_exec (x.For' p s t n sh (more_of-Stmt a end_of-Stmt)) r h c =
      steady_scope h _ (steady_after _ _ (steady_start s (scoped r []) h c)
      (repeat_steady (of_parts (after_start (scoped r []) s) t n a) h c _ (steady_scope h _ (steady_exec a (scoped (looped (after_start (scoped r []) s)) []) h c))))
  steady_exec (x.Break p) r h c = steady_gives _
  steady_exec (x.Continue p) r h c = steady_gives _
  steady_exec (x.Return p v) r h c = steady_answered v r h c
  steady_exec (x.Advance p) r h c = steady_gives _
  steady_exec (x.Write w a) r h c = steady_then _ _ (steady_eval a r h c) (λ v. steady_goes _ (steady_written (find_word r w) v h c))

  pub steady_exec_row : {n : _} (all : Row_of-Stmt n) (r : Around) (h : Hooks) → Calm h → Steady (exec_row all r h)
  steady_exec_row end_of-Stmt r h c = steady_gives _
  steady_exec_row (more_of-Stmt a others) r h c =
      steady_then _ _ (steady_exec a r h c) (steady_next _ _ (steady_on _ (steady_exec_row others (behind r a) h c)))

-- ---- rests

steady_begun_todo : (todo : Todo) (way : Way) (h : Hooks) → Calm h → Steady (begun todo way h)
steady_begun_todo (Do r a) way h c = steady_exec a r h c
steady_begun_todo (Again loop) way h c =
    steady_after _ _ (steady_third loop.third loop.around h c) (repeat_steady loop h c (round loop h) (steady_scope h _ (steady_exec loop.body loop.inside h c)))
steady_begun_todo Leave way h c = steady_after _ _ (steady_store h without_scope) (steady_gives (Goes way))

pub steady_resume : (rest : List Todo) (h : Hooks) → Calm h → (way : Way) → Steady (resume rest h way)
steady_resume [] h c way = steady_gives (Pauses [])
steady_resume (todo ∷ rest) h c way =
    steady_if (taken todo way) _ _ (steady_then (begun todo way h) _ (steady_begun_todo todo way h c) (steady_next rest (resume rest h) (steady_resume rest h c)))
    (steady_resume rest h c (dropped todo way))
