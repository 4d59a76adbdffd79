-- No act adds turns: what goes on after it has at most as many left.
use Rattle.std.proofs.Common.{◌≡◌, ℕ, zero, suc, ◌<◌, ◌≤◌, List, [], ◌∷◌, ◌++◌, Bool, true, false, if◌then◌else◌, Option, Some, None, refl, arith, pos, neg_ℤ}
use Rattle.cm_base.specs.declared.place.Place.{Place}
use Rattle.cm_tree.specs.declared.operator.Binary.{Binary}
use Rattle.cm_tree.specs.declared.operator.Change.{Change}
use Rattle.cm_tree.specs.declared.operator.Change.TheVariants as c
use Rattle.cm_tree.specs.declared.expr.Expr.{Expr, Row_of-Expr, end_of-Expr, more_of-Expr}
use Rattle.cm_tree.specs.declared.expr.Expr.TheVariants as e
use Rattle.cm_tree.specs.declared.type_expr.TypeExpr.{TypeExpr}
use Rattle.cm_tree.specs.declared.simple.Init.{Init}
use Rattle.cm_tree.specs.declared.simple.Var.{Var}
use Rattle.cm_tree.specs.declared.simple.Local.{Local}
use Rattle.cm_tree.specs.declared.simple.Local.TheVariants as l
use Rattle.cm_tree.specs.declared.simple.Step.{Step}
use Rattle.cm_tree.specs.declared.simple.Step.TheVariants as st
use Rattle.cm_tree.specs.declared.simple.Target.{Target}
use Rattle.cm_tree.specs.declared.simple.Simple.{Simple}
use Rattle.cm_tree.specs.declared.simple.Simple.TheVariants as i
use Rattle.cm_tree.specs.declared.stmt.Start.{Start}
use Rattle.cm_tree.specs.declared.stmt.Start.TheVariants as f
use Rattle.cm_tree.specs.declared.stmt.Stmt.{Stmt, Row_of-Stmt, end_of-Stmt, more_of-Stmt}
use Rattle.cm_tree.specs.declared.stmt.Stmt.TheVariants as x
use Rattle.cm_meaning.specs.Declared.{Home, Declared, is_function}
use Rattle.cm_meaning.specs.Scopes.{Around, scoped, looped, declare, local_constant, inferred_local, typed_local, find, find_word}
use Rattle.cm_meaning.specs.BodySites.{after as behind, after_start, counter}
use Rattle.cm_meaning.specs.Types.{CmType}
use Rattle.cm_meaning.specs.Conversions.{Valued}
use Rattle.cm_meaning.specs.Constants.{type_of_expr}
use Rattle.cm_meaning.specs.Stores.{is_true, zero_in, Store, with_cell, changed, with_scope, without_scope, Picked, assigned}
use Rattle.cm_meaning.specs.World.{World, Test, Always, Holds, Down, Next, Loop, Todo, Again, Leave, store_at, with_store}
use Rattle.cm_meaning.specs.Acts.{Given, Gives, Short, Act, Done, done, bind, andthen, after, gives, look, change, begin}
use Rattle.cm_meaning.specs.Eval.{Hooks, Selection, read, needs_right, called, found, values_row, eval, eval_all, holds}
use Rattle.cm_meaning.specs.Performs.{change_store, put, put_inits, first_value, put_vars, put_locals, target_steps, stored, store, count, perform, start}
use Rattle.cm_meaning.specs.Resume.{Way, On, Broke, Continued, Returned, Ending, Goes, Pauses, next, on, round_end, go_on, leave, in_scope, third, tested, moved, entered, rounds, repeat, begun_then, bare, each, of_parts, answered, written, exec, exec_row}

abbrev pub Within : {A : Type 0} → ℕ → Given A → Type 0
Within n (Gives value w m) = m ≤ n
Within n (Short w) = Unit {0}

pub record Steady {A : Type 0} (act : Act A) : Type 0 where
  pub within : (w : World) (n : ℕ) → Within n (act w n)

-- ---- one law for each way to make acts

pub steady_gives : {A : Type 0} (value : A) → Steady (gives value)
steady_gives value = record { within = λ w n. omega arith }

pub steady_look : {A : Type 0} (view : World → A) → Steady (look view)
steady_look view = record { within = λ w n. omega arith }

pub steady_change : (step : World → World) → Steady (change step)
steady_change step = record { within = λ w n. omega arith }

pub within_more : {A : Type 0} (m n : ℕ) → m ≤ n → (x : Given A) → Within m x → Within n x
within_more m n le (Gives value w k) h = omega arith
within_more m n le (Short w) h = tt

within_bind : {A B : Type 0} (n : ℕ) (x : Given A) (go : A → Act B) → Within n x → ((value : A) → Steady (go value)) → Within n (bind x go)
within_bind n (Gives value w m) go h g = within_more m n h (go value w m) ((g value).within w m)
within_bind n (Short w) go h g = tt

pub steady_then : {A B : Type 0} (first : Act A) (go : A → Act B) → Steady first → ((value : A) → Steady (go value)) → Steady (andthen first go)
steady_then first go f g = record { within = λ w n. within_bind n (first w n) go (f.within w n) g }

pub steady_after : {A : Type 0} (first : Act Done) (go : Act A) → Steady first → Steady go → Steady (after first go)
steady_after first go f g = steady_then first (λ _. go) f (λ _. g)

pub steady_if : {A : Type 0} (b : Bool) (x y : Act A) → Steady x → Steady y → Steady (if b then x else y)
steady_if true x y f g = f
steady_if false x y f g = g

within_begin : {A : Type 0} (body : Act A) → Steady body → (w : World) (n : ℕ) → Within n (begin body w n)
within_begin body f w zero = tt
within_begin body f w (suc n) = within_more n (suc n) (omega arith) (body w n) (f.within w n)

pub steady_begin : {A : Type 0} (body : Act A) → Steady body → Steady (begin body)
steady_begin body f = record { within = within_begin body f }

-- what goes on alike within the turns that are left
pub same_bind : {A B : Type 0} (n : ℕ) (x : Given A) (go og : A → Act B) → Within n x →
    ((value : A) (w : World) (m : ℕ) → m ≤ n → go value w m ≡ og value w m) → bind x go ≡ bind x og
same_bind n (Gives value w m) go og h f = f value w m h
same_bind n (Short w) go og h f = refl

-- ---- ends of statements

steady_next : (rest : List Todo) (go : Way → Act Ending) → ((way : Way) → Steady (go way)) → (end : Ending) → Steady (next rest go end)
steady_next rest go f (Goes way) = f way
steady_next rest go f (Pauses more) = steady_gives (Pauses (more ++ rest))

steady_on : (go : Act Ending) → Steady go → (way : Way) → Steady (on go way)
steady_on go f On = f
steady_on go f Broke = steady_gives (Goes Broke)
steady_on go f Continued = steady_gives (Goes Continued)
steady_on go f (Returned v) = steady_gives (Goes (Returned v))

steady_round : (go : Act Ending) → Steady go → (way : Way) → Steady (round_end go way)
steady_round go f On = f
steady_round go f Broke = steady_gives (Goes On)
steady_round go f Continued = f
steady_round go f (Returned v) = steady_gives (Goes (Returned v))

steady_goes : (act : Act Done) → Steady act → Steady (go_on act)
steady_goes act f = steady_after act (gives (Goes On)) f (steady_gives (Goes On))

pub steady_store : (h : Hooks) (step : Store → Store) → Steady (change_store h step)
steady_store h step = steady_change (λ w. with_store h.leaf (step (store_at h.leaf w)) w)

steady_put : (h : Hooks) (p : Place) (v : Valued) → Steady (put h p v)
steady_put h p v = steady_store h (with_cell p v)

steady_leave : (h : Hooks) (end : Ending) → Steady (leave h end)
steady_leave h (Goes way) = steady_after _ _ (steady_store h without_scope) (steady_gives (Goes way))
steady_leave h (Pauses rest) = steady_gives (Pauses (rest ++ Leave ∷ []))

pub steady_scope : (h : Hooks) (act : Act Ending) → Steady act → Steady (in_scope h act)
steady_scope h act f = steady_after _ _ (steady_store h with_scope) (steady_then act (leave h) f (steady_leave h))

-- ---- loops

pub steady_enter : (t : Test) (h : Hooks) → Steady (entered t h)
steady_enter Always h = steady_gives done
steady_enter (Holds a) h = steady_gives done
steady_enter (Down p) h = steady_store h (changed p (moved (neg_ℤ (pos 1))))
steady_enter (Next p) h = steady_store h (changed p (moved (pos 1)))

-- a loop with a fixed number of rounds is steady, and rounds beyond the turns change nothing
module _ (loop : Loop) (h : Hooks) (body : Act Ending) (calm_test : Steady (tested loop.test loop.around h)) (calm_third : Steady (third loop.third loop.around h)) (calm_body : Steady body) where
  abbrev others : ℕ → Act Ending
  others most = after (third loop.third loop.around h) (rounds most loop h body)

  abbrev one_round : ℕ → Act Ending
  one_round most = after (entered loop.test h) (andthen body (next (Again loop ∷ []) (round_end (others most))))

  steady_rounds : (most : ℕ) → Steady (rounds most loop h body)
  steady_rounds zero = record { within = λ w n. tt }
  steady_rounds (suc most) =
      let rest : Steady (others most) = steady_after (third loop.third loop.around h) _ calm_third (steady_rounds most) in
      let go : Steady (one_round most) =
      steady_after (entered loop.test h) _ (steady_enter loop.test h) (steady_then body _ calm_body (steady_next (Again loop ∷ []) _ (steady_round (others most) rest))) in
      steady_then (tested loop.test loop.around h) _ calm_test
      (λ more. steady_if more (begin (one_round most)) (gives (Goes On)) (steady_begin (one_round most) go) (steady_gives (Goes On)))

  same_others : (f g n : ℕ) → ((w : World) (k : ℕ) → k ≤ n → rounds f loop h body w k ≡ rounds g loop h body w k) →
      (w : World) (m : ℕ) → m ≤ n → others f w m ≡ others g w m
  same_others f g n ih w m le = same_bind m (third loop.third loop.around h w m) _ _ (calm_third.within w m) (λ value v k lk. ih v k (omega arith))

  same_end : (f g n : ℕ) → ((w : World) (k : ℕ) → k ≤ n → rounds f loop h body w k ≡ rounds g loop h body w k) →
      (end : Ending) (w : World) (m : ℕ) → m ≤ n → next (Again loop ∷ []) (round_end (others f)) end w m ≡ next (Again loop ∷ []) (round_end (others g)) end w m
  same_end f g n ih (Goes On) w m le = same_others f g n ih w m le
  same_end f g n ih (Goes Broke) w m le = refl
  same_end f g n ih (Goes Continued) w m le = same_others f g n ih w m le
  same_end f g n ih (Goes (Returned v)) w m le = refl
  same_end f g n ih (Pauses rest) w m le = refl

  same_body : (f g n : ℕ) → ((w : World) (k : ℕ) → k ≤ n → rounds f loop h body w k ≡ rounds g loop h body w k) → (w : World) (m : ℕ) → m ≤ n →
      andthen body (next (Again loop ∷ []) (round_end (others f))) w m ≡ andthen body (next (Again loop ∷ []) (round_end (others g))) w m
  same_body f g n ih w m le = same_bind m (body w m) _ _ (calm_body.within w m) (λ end v k lk. same_end f g n ih end v k (omega arith))

  same_begun : (f g m : ℕ) → ((w : World) (k : ℕ) → k < m → rounds f loop h body w k ≡ rounds g loop h body w k) → (w : World) →
      begin (one_round f) w m ≡ begin (one_round g) w m
  same_begun f g zero ih w = refl
  same_begun f g (suc m) ih w =
      same_bind m (entered loop.test h w m) _ _ ((steady_enter loop.test h).within w m) (λ value v k lk. same_body f g m (λ u j lj. ih u j (omega arith)) v k lk)

  same_chosen : (f g n : ℕ) → ((w : World) (k : ℕ) → k < n → rounds f loop h body w k ≡ rounds g loop h body w k) →
      (more : Bool) (w : World) (m : ℕ) → m ≤ n →
      (if more then begin (one_round f) else gives (Goes On)) w m ≡ (if more then begin (one_round g) else gives (Goes On)) w m
  same_chosen f g n ih true w m le = same_begun f g m (λ v k lk. ih v k (omega arith)) w
  same_chosen f g n ih false w m le = refl

  pub enough : (f g n : ℕ) (w : World) → n < f → n < g → rounds f loop h body w n ≡ rounds g loop h body w n
  enough zero g n w lf lg = absurd (omega arith)
  enough (suc f) zero n w lf lg = absurd (omega arith)
  enough (suc f) (suc g) n w lf lg =
      same_bind n (tested loop.test loop.around h w n) _ _ (calm_test.within w n) (same_chosen f g n (λ v k lk. enough f g k v (omega arith) (omega arith)))

  pub steady_repeat : Steady (repeat loop h body)
  steady_repeat = record { within = λ w n. (steady_rounds (suc n)).within w n }

  steady_begun : Steady (begun_then loop h body)
  steady_begun = steady_begin _ (steady_then body _ calm_body (steady_next (Again loop ∷ []) _ (steady_round (repeat loop h body) steady_repeat)))

-- ---- expressions

-- calls and writes add no turns
pub record Calm (h : Hooks) : Type 0 where
  pub call : (x : Declared) (values : List Valued) → Steady (h.call x values)
  pub write : (x : Declared) (value : Valued) → Steady (h.write x value)

steady_read : (h : Hooks) (act : Act Selection) → Steady act → Steady (read h act)
steady_read h act f = steady_then act _ f (λ s. steady_look _)

steady_called : (h : Hooks) → Calm h → (found : Option Declared) (values : List Valued) → Steady (called h found values)
steady_called h c None values = steady_gives _
steady_called h c (Some x) values = steady_if (is_function x.named) _ _ (c.call x values) (steady_gives _)

mutual
  unfolding found values_row

  pub steady_found : (a : Expr) (r : Around) (h : Hooks) → Calm h → Steady (found a r h)
  steady_found (e.Number p z wide) r h c = steady_gives _
  steady_found (e.Truth p t) r h c = steady_gives _
  steady_found (e.Name q) r h c = steady_gives _
  steady_found (e.Call' q sh args) r h c =
      steady_then _ _ (steady_row args r h c) (λ values. steady_then _ _ (steady_called h c (find r q) values) (λ v. steady_gives _))
  steady_found (e.Construct' t sh sizes i args) r h c = steady_then _ _ (steady_row args r h c) (λ values. steady_gives _)
  steady_found (e.Paren' p sh (more_of-Expr a end_of-Expr)) r h c = steady_found a r h c
  steady_found (e.Field' p sh (more_of-Expr a end_of-Expr) w) r h c = steady_then _ _ (steady_found a r h c) (λ s. steady_gives _)
  steady_found (e.Index' p sh (more_of-Expr a end_of-Expr) i (more_of-Expr b end_of-Expr)) r h c =
      steady_then _ _ (steady_found a r h c) (λ s. steady_then _ _ (steady_read h _ (steady_found b r h c)) (λ v. steady_gives _))
  steady_found (e.Unary' p op sh (more_of-Expr a end_of-Expr)) r h c = steady_then _ _ (steady_read h _ (steady_found a r h c)) (λ v. steady_gives _)
  steady_found (e.Binary' p op sh (more_of-Expr a end_of-Expr) i (more_of-Expr b end_of-Expr)) r h c =
      steady_then _ _ (steady_read h _ (steady_found a r h c))
      (λ v. steady_if (needs_right op (is_true v)) _ _ (steady_then _ _ (steady_read h _ (steady_found b r h c)) (λ u. steady_gives _)) (steady_gives _))
  steady_found (e.Choice' p sh (more_of-Expr t end_of-Expr) i (more_of-Expr a end_of-Expr) j (more_of-Expr b end_of-Expr)) r h c =
      steady_then _ _ (steady_read h _ (steady_found t r h c))
      (λ v.
      steady_then _ _ (steady_if (is_true v) _ _ (steady_read h _ (steady_found a r h c)) (steady_read h _ (steady_found b r h c))) (λ u. steady_gives _))

  pub steady_row : {n : _} (all : Row_of-Expr n) (r : Around) (h : Hooks) → Calm h → Steady (values_row all r h)
  steady_row end_of-Expr r h c = steady_gives _
  steady_row (more_of-Expr a others) r h c =
      steady_then _ _ (steady_read h _ (steady_found a r h c)) (λ v. steady_then _ _ (steady_row others r h c) (λ values. steady_gives _))

pub steady_eval : (a : Expr) (r : Around) (h : Hooks) → Calm h → Steady (eval a r h)
steady_eval a r h c = steady_read h _ (steady_found a r h c)

pub steady_eval_all : (all : List Expr) (r : Around) (h : Hooks) → Calm h → Steady (eval_all all r h)
steady_eval_all [] r h c = steady_gives _
steady_eval_all (a ∷ all) r h c = steady_then _ _ (steady_eval a r h c) (λ v. steady_then _ _ (steady_eval_all all r h c) (λ values. steady_gives _))

pub steady_holds : (a : Expr) (r : Around) (h : Hooks) → Calm h → Steady (holds a r h)
steady_holds a r h c = steady_then _ _ (steady_eval a r h c) (λ v. steady_gives _)

-- ---- what statements do

steady_inits : (named : Home → Init → Declared) (inits : List Init) (r : Around) (h : Hooks) → Calm h → Steady (put_inits named inits r h)
steady_inits named [] r h c = steady_gives _
steady_inits named (a ∷ all) r h c =
    steady_then _ _ (steady_eval a.value r h c) (λ v. steady_after _ _ (steady_put h a.name.place v) (steady_inits named all (declare r (named r.home a)) h c))

steady_first : (value : Option Expr) (t : Option CmType) (r : Around) (h : Hooks) → Calm h → Steady (first_value value t r h)
steady_first None t r h c = steady_gives _
steady_first (Some a) t r h c = steady_then _ _ (steady_eval a r h c) (λ v. steady_gives _)

steady_vars : (ty : TypeExpr) (t : Option CmType) (vars : List Var) (r : Around) (h : Hooks) → Calm h → Steady (put_vars ty t vars r h)
steady_vars ty t [] r h c = steady_gives _
steady_vars ty t (a ∷ all) r h c =
    steady_then _ _ (steady_first a.value t r h c) (λ v. steady_after _ _ (steady_put h a.name.place v) (steady_vars ty t all (declare r (typed_local r.home ty a)) h c))

pub steady_locals : (a : Local) (r : Around) (h : Hooks) → Calm h → Steady (put_locals a r h)
steady_locals (l.Let p inits) r h c = steady_inits local_constant inits r h c
steady_locals (l.Var p inits) r h c = steady_inits inferred_local inits r h c
steady_locals (l.Typed ty vars) r h c = steady_vars ty _ vars r h c

steady_steps : (steps : List Step) (r : Around) (h : Hooks) → Calm h → Steady (target_steps steps r h)
steady_steps [] r h c = steady_gives _
steady_steps (st.Field w ∷ steps) r h c = steady_then _ _ (steady_steps steps r h c) (λ others. steady_gives _)
steady_steps (st.Index p a ∷ steps) r h c = steady_then _ _ (steady_eval a r h c) (λ v. steady_then _ _ (steady_steps steps r h c) (λ others. steady_gives _))

steady_stored : (found : Option Declared) (steps : List Picked) (op : Option Binary) (right : Valued) (h : Hooks) → Steady (store found steps op right h)
steady_stored None steps op right h = steady_gives _
steady_stored (Some x) steps op right h = steady_store h (changed x.word.place (assigned steps (stored op right)))

steady_count : (t : Target) (by : Change) (r : Around) (h : Hooks) → Calm h → Steady (count t by r h)
steady_count t c.Increase r h calm = steady_then _ _ (steady_steps t.steps r h calm) (λ steps. steady_stored (find_word r t.name) steps _ _ h)
steady_count t c.Decrease r h calm = steady_then _ _ (steady_steps t.steps r h calm) (λ steps. steady_stored (find_word r t.name) steps _ _ h)

pub steady_perform : (a : Simple) (r : Around) (h : Hooks) → Calm h → Steady (perform a r h)
steady_perform (i.Assign t op a) r h c =
    steady_then _ _ (steady_steps t.steps r h c) (λ steps. steady_then _ _ (steady_eval a r h c) (λ right. steady_stored (find_word r t.name) steps _ right h))
steady_perform (i.After t by) r h c = steady_count t by r h c
steady_perform (i.Before p by t) r h c = steady_count t by r h c
steady_perform (i.Call q args) r h c =
    steady_then _ _ (steady_eval_all args r h c) (λ values. steady_then _ _ (steady_called h c (find r q) values) (λ v. steady_gives _))

pub steady_start : (s : Option Start) (r : Around) (h : Hooks) → Calm h → Steady (start s r h)
steady_start None r h c = steady_gives _
steady_start (Some (f.Local a)) r h c = steady_locals a r h c
steady_start (Some (f.Simple a)) r h c = steady_perform a r h c

pub steady_third : (a : Option Simple) (r : Around) (h : Hooks) → Calm h → Steady (third a r h)
steady_third None r h c = steady_gives _
steady_third (Some a) r h c = steady_perform a r h c

pub steady_test : (t : Test) (r : Around) (h : Hooks) → Calm h → Steady (tested t r h)
steady_test Always r h c = steady_gives _
steady_test (Holds a) r h c = steady_holds a r h c
steady_test (Down p) r h c = steady_look _
steady_test (Next p) r h c = steady_look _

steady_answered : (v : Option Expr) (r : Around) (h : Hooks) → Calm h → Steady (answered v r h)
steady_answered None r h c = steady_gives _
steady_answered (Some a) r h c = steady_then _ _ (steady_eval a r h c) (λ v. steady_gives _)

pub steady_written : (found : Option Declared) (v : Valued) (h : Hooks) → Calm h → Steady (written found v h)
steady_written None v h c = steady_gives _
steady_written (Some x) v h c = c.write x v

pub repeat_steady : (loop : Loop) (h : Hooks) → Calm h → (body : Act Ending) → Steady body → Steady (repeat loop h body)
repeat_steady loop h c body b = steady_repeat loop h body (steady_test loop.test loop.around h c) (steady_third loop.third loop.around h c) b

-- ---- statements

mutual
  unfolding exec exec_row

  pub steady_exec : (s : Stmt) (r : Around) (h : Hooks) → Calm h → Steady (exec s r h)
  steady_exec (x.Block' p sh all) r h c = steady_scope h _ (steady_exec_row all (scoped r []) h c)
  steady_exec (x.Empty p) r h c = steady_gives _
  steady_exec (x.Local a) r h c = steady_goes _ (steady_locals a r h c)
  steady_exec (x.Simple a) r h c = steady_goes _ (steady_perform a r h c)
  steady_exec (x.Assert a) r h c = steady_gives _
  steady_exec (x.If' p t sh (more_of-Stmt a end_of-Stmt)) r h c =
      steady_then _ _ (steady_holds t r h c) (λ test. steady_if test _ _ (steady_scope h _ (steady_exec a (scoped r []) h c)) (steady_gives _))
  steady_exec (x.IfElse' p t sh (more_of-Stmt a end_of-Stmt) si (more_of-Stmt b end_of-Stmt)) r h c =
      steady_then _ _ (steady_holds t r h c)
      (λ test. steady_if test _ _ (steady_scope h _ (steady_exec a (scoped r []) h c)) (steady_scope h _ (steady_exec b (scoped r []) h c)))
  steady_exec (x.Loop' p None sh (more_of-Stmt a end_of-Stmt)) r h c =
      repeat_steady (bare r Always a) h c _ (steady_scope h _ (steady_exec a (scoped (looped r) []) h c))
  steady_exec (x.Loop' p (Some t) sh (more_of-Stmt a end_of-Stmt)) r h c =
      steady_then _ _ (steady_eval t r h c)
      (λ v.
      steady_scope h _ (steady_after _ _ (steady_put h p v)
      (repeat_steady (bare r (Down p) a) h c _ (steady_scope h _ (steady_exec a (scoped (looped r) []) h c)))))
  steady_exec (x.While' p t sh (more_of-Stmt a end_of-Stmt)) r h c =
      repeat_steady (bare r (Holds t) a) h c _ (steady_scope h _ (steady_exec a (scoped (looped r) []) h c))
  steady_exec (x.ForType' p ty w sh (more_of-Stmt a end_of-Stmt)) r h c =
      steady_scope h _ (steady_after _ _ (steady_put h w.place (zero_in (type_of_expr r h.known.look ty)))
      (steady_begun (each r ty w a) h _ (steady_test (Next w.place) r h c) (steady_gives _) (steady_scope h _ (steady_exec a (scoped (scoped (looped r) (counter r ty w ∷ [])) []) h c))))
  steady_exec (x.For' p s t n sh (more_of-Stmt a end_of-Stmt)) r h c =
      steady_scope h _ (steady_after _ _ (steady_start s (scoped r []) h c)
      (repeat_steady (of_parts (after_start (scoped r []) s) t n a) h c _ (steady_scope h _ (steady_exec a (scoped (looped (after_start (scoped r []) s)) []) h c))))
  steady_exec (x.Break p) r h c = steady_gives _
  steady_exec (x.Continue p) r h c = steady_gives _
  steady_exec (x.Return p v) r h c = steady_answered v r h c
  steady_exec (x.Advance p) r h c = steady_gives _
  steady_exec (x.Write w a) r h c = steady_then _ _ (steady_eval a r h c) (λ v. steady_goes _ (steady_written (find_word r w) v h c))

  pub steady_exec_row : {n : _} (all : Row_of-Stmt n) (r : Around) (h : Hooks) → Calm h → Steady (exec_row all r h)
  steady_exec_row end_of-Stmt r h c = steady_gives _
  steady_exec_row (more_of-Stmt a others) r h c =
      steady_then _ _ (steady_exec a r h c) (steady_next _ _ (steady_on _ (steady_exec_row others (behind r a) h c)))
