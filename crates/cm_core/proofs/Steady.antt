-- No act adds turns or takes back what was told; with more turns it gives the same with more left, or tells no less.
use Rattle.std.proofs.Common.{◌≡◌, ℕ, zero, suc, ◌+◌, ◌<◌, ◌≤◌, List, [], ◌∷◌, ◌++◌, Bool, true, false, if◌then◌else◌, refl, sym, ap, ◌∙◌, subst, arith, append_assoc, ℤ, pos}
use Rattle.std.proofs.lemmas.List.{append-nil}
use Rattle.cm_base.specs.declared.play.Item.{Item}
use Rattle.cm_base.specs.declared.host.Scalar.{Scalar}
use Rattle.cm_number.specs.Conversion.{to_bool}
use Rattle.cm_scalar.specs.Scalars.{converted}
use Rattle.cm_core.specs.declared.operator.BinaryOp.{BinaryOp}
use Rattle.cm_core.specs.Code.{Expr, Number, Truth, Variable, Input, Constant, Field, Index, Call, Construct, Convert, Unary, Binary, Logic, Choose, Exprs, Last, With, Test, Always, Holds, Down, Next, Stmt, Nothing, Empty, Block, Locals, Cleared, Started, Assign, Update, Count, Perform, If, Loop, Times, While, Each, For, Break, Continue, Return, Answer, Advance, Write, Stmts, End, More}
use Rattle.cm_core.specs.Types.{field_start, zero_of, variable_type}
use Rattle.cm_core.specs.Operators.{truth, unary, binary, needs_right, arithmetic, count_op}
use Rattle.cm_core.specs.World.{World, Todo, Do, Again, put}
use Rattle.cm_core.specs.Acts.{Given, Gives, Short, Act, Done, done, bind, andthen, after, gives, look, change, quiet, none_left, begin}
use Rattle.cm_core.specs.Eval.{Hooks, number_of, constructed, Root, OfVariable, OfInput, OfConstant, OfValue, Part, whole, further, type_in, read, made, number, element_start, found, eval_all, eval, holds}
use Rattle.cm_core.specs.Laws.{Prefix}
use Rattle.cm_core.specs.Resume.{Way, On, Broke, Continued, Returned, Ending, Goes, Pauses, next, on, round_end, go_on, put_in, stored, put_part, assigned, number_in, kind_in, updated, is_positive, variable_in, has_next, tested, entered, rounds, repeat, begun_then, all, exec, exec_all, begun, taken, dropped, resume}

pub prefix_same : (a : List Item) → Prefix a a
prefix_same a = ([], append-nil a)

pub prefix_on : (a b c : List Item) → Prefix a b → Prefix b c → Prefix a c
prefix_on a b c p q = (p.0 ++ q.0, sym (append_assoc a p.0 q.0) ∙ ap (λ l. l ++ q.0) p.1 ∙ q.1)

abbrev pub told : {A : Type 0} → Given A → List Item
told (Gives value w n) = w.trace
told (Short w) = w.trace

abbrev pub Within : {A : Type 0} → ℕ → Given A → Type 0
Within n (Gives value w m) = m ≤ n
Within n (Short w) = Unit {0}

-- what d more turns give in place of the first
abbrev pub Later : {A : Type 0} → ℕ → Given A → Given A → Type 0
Later d (Gives value w n) y = y ≡ Gives value w (n + d)
Later d (Short w) y = Prefix w.trace (told y)

pub record Steady {A : Type 0} (act : Act A) : Type 0 where
  pub within : (w : World) (n : ℕ) → Within n (act w n)
  pub grows : (w : World) (n : ℕ) → Prefix w.trace (told (act w n))
  pub later : (d : ℕ) (w : World) (n : ℕ) → Later d (act w n) (act w (n + d))

-- ---- one law for each way to make acts

pub steady_gives : {A : Type 0} (value : A) → Steady (gives value)
steady_gives value = record { within = λ w n. omega arith; grows = λ w n. prefix_same w.trace; later = λ d w n. refl }

pub steady_look : {A : Type 0} (view : World → A) → Steady (look view)
steady_look view = record { within = λ w n. omega arith; grows = λ w n. prefix_same w.trace; later = λ d w n. refl }

pub steady_change : (step : World → World) → ((w : World) → Prefix w.trace (step w).trace) → Steady (change step)
steady_change step grows = record { within = λ w n. omega arith; grows = λ w n. grows w; later = λ d w n. refl }

pub steady_none : {A : Type 0} → Steady (none_left {A = A})
steady_none = record { within = λ w n. tt; grows = λ w n. prefix_same w.trace; later = λ d w n. prefix_same w.trace }

within_more : {A : Type 0} (m n : ℕ) → m ≤ n → (x : Given A) → Within m x → Within n x
within_more m n le (Gives value w k) h = omega arith
within_more m n le (Short w) h = tt

within_bind : {A B : Type 0} (n : ℕ) (x : Given A) (go : A → Act B) → Within n x → ((value : A) → Steady (go value)) → Within n (bind x go)
within_bind n (Gives value w m) go h g = within_more m n h (go value w m) ((g value).within w m)
within_bind n (Short w) go h g = tt

grows_bind : {A B : Type 0} (x : Given A) (go : A → Act B) → ((value : A) → Steady (go value)) → Prefix (told x) (told (bind x go))
grows_bind (Gives value w m) go g = (g value).grows w m
grows_bind (Short w) go g = prefix_same w.trace

later_bind : {A B : Type 0} (d : ℕ) (x y : Given A) (go : A → Act B) → Later d x y → ((value : A) → Steady (go value)) → Later d (bind x go) (bind y go)
later_bind d (Gives value w n) y go h g = subst (λ z. Later d (go value w n) (bind z go)) (sym h) ((g value).later d w n)
later_bind d (Short w) y go h g = prefix_on w.trace (told y) (told (bind y go)) h (grows_bind y go g)

pub steady_then : {A B : Type 0} (first : Act A) (go : A → Act B) → Steady first → ((value : A) → Steady (go value)) → Steady (andthen first go)
steady_then first go f g =
    record {
      within = λ w n. within_bind n (first w n) go (f.within w n) g;
      grows = λ w n. prefix_on w.trace (told (first w n)) _ (f.grows w n) (grows_bind (first w n) go g);
      later = λ d w n. later_bind d (first w n) (first w (n + d)) go (f.later d w n) g;
    }

pub steady_after : {A : Type 0} (first : Act Done) (go : Act A) → Steady first → Steady go → Steady (after first go)
steady_after first go f g = steady_then first (λ _. go) f (λ _. g)

pub steady_quiet : {A : Type 0} (act : Act A) → Steady act → Steady (quiet act)
steady_quiet act f = steady_then act (λ _. gives done) f (λ _. steady_gives done)

pub steady_if : {A : Type 0} (b : Bool) (x y : Act A) → Steady x → Steady y → Steady (if b then x else y)
steady_if true x y f g = f
steady_if false x y f g = g

within_begin : {A : Type 0} (body : Act A) → Steady body → (w : World) (n : ℕ) → Within n (begin body w n)
within_begin body f w zero = tt
within_begin body f w (suc n) = within_more n (suc n) (omega arith) (body w n) (f.within w n)

grows_begin : {A : Type 0} (body : Act A) → Steady body → (w : World) (n : ℕ) → Prefix w.trace (told (begin body w n))
grows_begin body f w zero = prefix_same w.trace
grows_begin body f w (suc n) = f.grows w n

later_begin : {A : Type 0} (body : Act A) → Steady body → (d : ℕ) (w : World) (n : ℕ) → Later d (begin body w n) (begin body w (n + d))
later_begin body f d w zero = grows_begin body f w (zero + d)
later_begin body f d w (suc n) =
    let e : suc (n + d) ≡ suc n + d = omega arith in subst (λ k. Later d (body w n) (begin body w k)) e (f.later d w n)

pub steady_begin : {A : Type 0} (body : Act A) → Steady body → Steady (begin body)
steady_begin body f = record { within = within_begin body f; grows = grows_begin body f; later = later_begin body f }

-- ---- ends of statements

steady_next : (rest : List Todo) (go : Way → Act Ending) → ((way : Way) → Steady (go way)) → (end : Ending) → Steady (next rest go end)
steady_next rest go f (Goes way) = f way
steady_next rest go f (Pauses more) = steady_gives (Pauses (more ++ rest))

steady_on : (go : Act Ending) → Steady go → (way : Way) → Steady (on go way)
steady_on go f On = f
steady_on go f Broke = steady_gives (Goes Broke)
steady_on go f Continued = steady_gives (Goes Continued)
steady_on go f (Returned v) = steady_gives (Goes (Returned v))

steady_round : (go : Act Ending) → Steady go → (way : Way) → Steady (round_end go way)
steady_round go f On = f
steady_round go f Broke = steady_gives (Goes On)
steady_round go f Continued = f
steady_round go f (Returned v) = steady_gives (Goes (Returned v))

steady_goes : (act : Act Done) → Steady act → Steady (go_on act)
steady_goes act f = steady_after act (gives (Goes On)) f (steady_gives (Goes On))

-- what goes on alike within the turns that are left
pub same_bind : {A B : Type 0} (n : ℕ) (x : Given A) (go og : A → Act B) → Within n x →
    ((value : A) (w : World) (m : ℕ) → m ≤ n → go value w m ≡ og value w m) → bind x go ≡ bind x og
same_bind n (Gives value w m) go og h f = f value w m h
same_bind n (Short w) go og h f = refl

-- ---- loops

entered_keeps : (t : Test) (h : Hooks) (w : World) → Prefix w.trace (entered t h w).trace
entered_keeps Always h w = prefix_same w.trace
entered_keeps (Holds e) h w = prefix_same w.trace
entered_keeps (Down x) h w = prefix_same w.trace
entered_keeps (Next x) h w = prefix_same w.trace

steady_enter : (t : Test) (h : Hooks) → Steady (change (entered t h))
steady_enter t h = steady_change (entered t h) (entered_keeps t h)

-- a loop with a fixed number of rounds is steady, and rounds beyond the turns change nothing
module _ (test : Test) (h : Hooks) (step body : Act Ending) (again : Todo) (calm_test : Steady (tested test h)) (calm_step : Steady step) (calm_body : Steady body) where
  abbrev others : ℕ → Act Ending
  others most = andthen step (λ _. rounds most test h step body again)

  abbrev round : ℕ → Act Ending
  round most = after (change (entered test h)) (andthen body (next (again ∷ []) (round_end (others most))))

  steady_rounds : (most : ℕ) → Steady (rounds most test h step body again)
  steady_rounds zero = steady_none
  steady_rounds (suc most) =
      let rest : Steady (others most) = steady_then step _ calm_step (λ _. steady_rounds most) in
      let go : Steady (round most) =
      steady_after (change (entered test h)) _ (steady_enter test h)
      (steady_then body _ calm_body (steady_next (again ∷ []) _ (steady_round (others most) rest))) in
      steady_then (tested test h) _ calm_test (λ more. steady_if more (begin (round most)) (gives (Goes On)) (steady_begin (round most) go) (steady_gives (Goes On)))

  same_others : (f g n : ℕ) → ((w : World) (k : ℕ) → k ≤ n → rounds f test h step body again w k ≡ rounds g test h step body again w k) →
      (w : World) (m : ℕ) → m ≤ n → others f w m ≡ others g w m
  same_others f g n ih w m le = same_bind m (step w m) _ _ (calm_step.within w m) (λ value v k lk. ih v k (omega arith))

  same_end : (f g n : ℕ) → ((w : World) (k : ℕ) → k ≤ n → rounds f test h step body again w k ≡ rounds g test h step body again w k) →
      (end : Ending) (w : World) (m : ℕ) → m ≤ n → next (again ∷ []) (round_end (others f)) end w m ≡ next (again ∷ []) (round_end (others g)) end w m
  same_end f g n ih (Goes On) w m le = same_others f g n ih w m le
  same_end f g n ih (Goes Broke) w m le = refl
  same_end f g n ih (Goes Continued) w m le = same_others f g n ih w m le
  same_end f g n ih (Goes (Returned v)) w m le = refl
  same_end f g n ih (Pauses rest) w m le = refl

  same_begun : (f g m : ℕ) → ((w : World) (k : ℕ) → k < m → rounds f test h step body again w k ≡ rounds g test h step body again w k) → (w : World) →
      begin (round f) w m ≡ begin (round g) w m
  same_begun f g zero ih w = refl
  same_begun f g (suc m) ih w =
      same_bind m (body (entered test h w) m) _ _ (calm_body.within (entered test h w) m) (λ end v k le. same_end f g m (λ u j lj. ih u j (omega arith)) end v k le)

  same_chosen : (f g n : ℕ) → ((w : World) (k : ℕ) → k < n → rounds f test h step body again w k ≡ rounds g test h step body again w k) →
      (more : Bool) (w : World) (m : ℕ) → m ≤ n →
      (if more then begin (round f) else gives (Goes On)) w m ≡ (if more then begin (round g) else gives (Goes On)) w m
  same_chosen f g n ih true w m le = same_begun f g m (λ v k lk. ih v k (omega arith)) w
  same_chosen f g n ih false w m le = refl

  pub enough : (f g n : ℕ) (w : World) → n < f → n < g → rounds f test h step body again w n ≡ rounds g test h step body again w n
  enough zero g n w lf lg = absurd (omega arith)
  enough (suc f) zero n w lf lg = absurd (omega arith)
  enough (suc f) (suc g) n w lf lg =
      same_bind n (tested test h w n) _ _ (calm_test.within w n) (same_chosen f g n (λ v k lk. enough f g k v (omega arith) (omega arith)))

  pub steady_repeat : Steady (repeat test h step body again)
  steady_repeat =
      record {
        within = λ w n. (steady_rounds (suc n)).within w n;
        grows = λ w n. (steady_rounds (suc n)).grows w n;
        later = λ d w n.
            subst (λ z. Later d z (rounds (suc (n + d)) test h step body again w (n + d)))
            (enough (suc (n + d)) (suc n) n w (omega arith) (omega arith)) ((steady_rounds (suc (n + d))).later d w n);
      }

steady_begun : (body : Act Ending) (again : Todo) (others : Act Ending) → Steady body → Steady others → Steady (begun_then body again others)
steady_begun body again others f g = steady_begin _ (steady_then body _ f (steady_next (again ∷ []) _ (steady_round others g)))

-- ---- expressions

pub record Calm (h : Hooks) : Type 0 where
  pub call : (f : ℕ) (values : List (List ℤ)) → Steady (h.call f values)
  pub write : (e : ℕ) (value : List ℤ) → Steady (h.write e value)

pub steady_read : (h : Hooks) (e : Expr) (act : Act Part) → Steady act → Steady (read h e act)
steady_read h e act f = steady_then act _ f (λ part. steady_look _)

mutual
  pub steady_found : (h : Hooks) → Calm h → (e : Expr) → Steady (found e h)
  steady_found h c (Number value wide) = steady_gives (number value)
  steady_found h c (Truth value) = steady_gives (number (truth value))
  steady_found h c (Variable x) = steady_gives (whole (OfVariable x))
  steady_found h c (Input e) = steady_gives (whole (OfInput e))
  steady_found h c (Constant k) = steady_gives (whole (OfConstant k))
  steady_found h c (Field a k) = steady_then (found a h) _ (steady_found h c a) (λ part. steady_gives (further (field_start h.structs (type_in h a) k) part))
  steady_found h c (Index a i) =
      steady_then (found a h) _ (steady_found h c a)
      (λ part. steady_then (read h i (found i h)) _ (steady_read h i (found i h) (steady_found h c i)) (λ at. steady_gives (further (element_start h (type_in h a) (number_of at)) part)))
  steady_found h c (Call f es) =
      steady_then (eval_all es h) _ (steady_all h c es) (λ values. steady_then (h.call f values) _ (c.call f values) (λ value. steady_gives (made value)))
  steady_found h c (Construct ty es) = steady_then (eval_all es h) _ (steady_all h c es) (λ values. steady_gives (made (constructed h.structs ty values)))
  steady_found h c (Convert kind a) =
      steady_then (read h a (found a h)) _ (steady_read h a (found a h) (steady_found h c a)) (λ x. steady_gives (number (converted kind (number_of x))))
  steady_found h c (Unary op kind a) =
      steady_then (read h a (found a h)) _ (steady_read h a (found a h) (steady_found h c a)) (λ x. steady_gives (number (unary op kind (number_of x))))
  steady_found h c (Binary op kind a b) =
      steady_then (read h a (found a h)) _ (steady_read h a (found a h) (steady_found h c a))
      (λ x. steady_then (read h b (found b h)) _ (steady_read h b (found b h) (steady_found h c b)) (λ y. steady_gives (number (binary op kind (number_of x) (number_of y)))))
  steady_found h c (Logic op a b) =
      steady_then (read h a (found a h)) _ (steady_read h a (found a h) (steady_found h c a))
      (λ x. steady_if (needs_right op (to_bool (number_of x))) _ _
      (steady_then (read h b (found b h)) _ (steady_read h b (found b h) (steady_found h c b)) (λ y. steady_gives (made y))) (steady_gives (made x)))
  steady_found h c (Choose t a b) =
      steady_then (read h t (found t h)) _ (steady_read h t (found t h) (steady_found h c t))
      (λ x. steady_if (to_bool (number_of x)) _ _
      (steady_then (read h a (found a h)) _ (steady_read h a (found a h) (steady_found h c a)) (λ y. steady_gives (made y)))
      (steady_then (read h b (found b h)) _ (steady_read h b (found b h) (steady_found h c b)) (λ y. steady_gives (made y))))

  pub steady_all : (h : Hooks) → Calm h → (es : Exprs) → Steady (eval_all es h)
  steady_all h c Last = steady_gives []
  steady_all h c (With e es) =
      steady_then (read h e (found e h)) _ (steady_read h e (found e h) (steady_found h c e))
      (λ value. steady_then (eval_all es h) _ (steady_all h c es) (λ values. steady_gives (value ∷ values)))

pub steady_eval : (h : Hooks) → Calm h → (e : Expr) → Steady (eval e h)
steady_eval h c e = steady_read h e (found e h) (steady_found h c e)

pub steady_holds : (h : Hooks) → Calm h → (e : Expr) → Steady (holds e h)
steady_holds h c e = steady_then (eval e h) _ (steady_eval h c e) (λ value. steady_gives (to_bool (number_of value)))

pub steady_test : (h : Hooks) → Calm h → (t : Test) → Steady (tested t h)
steady_test h c Always = steady_gives true
steady_test h c (Holds e) = steady_holds h c e
steady_test h c (Down x) = steady_look (λ w. is_positive (variable_in h x w))
steady_test h c (Next x) = steady_look (has_next h x)

-- ---- statements

steady_put : (h : Hooks) (x : ℕ) (value : List ℤ) → Steady (put_in h x value)
steady_put h x value = steady_change (put h.leaf x value) (λ w. prefix_same w.trace)

stored_keeps : (h : Hooks) (root : Root) (value : List ℤ) (w : World) → Prefix w.trace (stored h root value w).trace
stored_keeps h (OfVariable x) value w = prefix_same w.trace
stored_keeps h (OfInput e) value w = prefix_same w.trace
stored_keeps h (OfConstant k) value w = prefix_same w.trace
stored_keeps h (OfValue v) value w = prefix_same w.trace

steady_assigned : (h : Hooks) (part : Part) (value : List ℤ) → Steady (assigned h part value)
steady_assigned h part value = steady_change (put_part h part value) (λ w. stored_keeps h part.root _ w)

steady_updated : (h : Hooks) (target : Expr) (op : BinaryOp) (kind : Scalar) (part : Part) (right : ℤ) → Steady (updated h target op kind part right)
steady_updated h target op kind part right = steady_then (look (number_in h part)) _ (steady_look (number_in h part)) (λ old. steady_assigned h part (converted (kind_in h target) (binary op kind (converted kind old) right) ∷ []))

mutual
  pub steady_exec : (h : Hooks) → Calm h → (s : Stmt) → Steady (exec s h)
  steady_exec h c Nothing = steady_gives (Goes On)
  steady_exec h c Empty = steady_gives (Goes On)
  steady_exec h c (Block ss) = steady_exec_all h c ss
  steady_exec h c (Locals ss) = steady_exec_all h c ss
  steady_exec h c (Cleared x) = steady_goes _ (steady_put h x (zero_of h.structs (variable_type h.unit x)))
  steady_exec h c (Started x e) = steady_then (eval e h) _ (steady_eval h c e) (λ value. steady_goes _ (steady_put h x value))
  steady_exec h c (Assign target e) =
      steady_then (found target h) _ (steady_found h c target) (λ part. steady_then (eval e h) _ (steady_eval h c e) (λ value. steady_goes _ (steady_assigned h part value)))
  steady_exec h c (Update target op kind e) =
      steady_then (found target h) _ (steady_found h c target)
      (λ part. steady_then (eval e h) _ (steady_eval h c e) (λ right. steady_goes _ (steady_updated h target op kind part (number_of right))))
  steady_exec h c (Count op target) =
      steady_then (found target h) _ (steady_found h c target) (λ part. steady_goes _ (steady_updated h target (count_op op) (arithmetic (kind_in h target)) part (pos 1)))
  steady_exec h c (Perform f es) =
      steady_then (eval_all es h) _ (steady_all h c es) (λ values. steady_then (h.call f values) _ (c.call f values) (λ _. steady_gives (Goes On)))
  steady_exec h c (If t a b) = steady_then (holds t h) _ (steady_holds h c t) (λ test. steady_if test (exec a h) (exec b h) (steady_exec h c a) (steady_exec h c b))
  steady_exec h c (Loop s) = steady_repeat Always h _ _ _ (steady_test h c Always) (steady_gives (Goes On)) (steady_exec h c s)
  steady_exec h c (Times x t s) =
      steady_then (eval t h) _ (steady_eval h c t)
      (λ count. steady_after (put_in h x count) _ (steady_put h x count) (steady_repeat (Down x) h _ _ _ (steady_test h c (Down x)) (steady_gives (Goes On)) (steady_exec h c s)))
  steady_exec h c (While t s) = steady_repeat (Holds t) h _ _ _ (steady_test h c (Holds t)) (steady_gives (Goes On)) (steady_exec h c s)
  steady_exec h c (Each x s) =
      steady_after (put_in h x (pos 0 ∷ [])) _ (steady_put h x (pos 0 ∷ []))
      (steady_begun (exec s h) _ _ (steady_exec h c s) (steady_repeat (Next x) h _ _ _ (steady_test h c (Next x)) (steady_gives (Goes On)) (steady_exec h c s)))
  steady_exec h c (For start t step s) =
      steady_then (exec start h) _ (steady_exec h c start) (λ _. steady_repeat t h _ _ _ (steady_test h c t) (steady_exec h c step) (steady_exec h c s))
  steady_exec h c Break = steady_gives (Goes Broke)
  steady_exec h c Continue = steady_gives (Goes Continued)
  steady_exec h c Return = steady_gives (Goes (Returned []))
  steady_exec h c (Answer e) = steady_then (eval e h) _ (steady_eval h c e) (λ value. steady_gives (Goes (Returned value)))
  steady_exec h c Advance = steady_gives (Pauses [])
  steady_exec h c (Write e value) = steady_then (eval value h) _ (steady_eval h c value) (λ v. steady_goes _ (c.write e v))

  pub steady_exec_all : (h : Hooks) → Calm h → (ss : Stmts) → Steady (exec_all ss h)
  steady_exec_all h c End = steady_gives (Goes On)
  steady_exec_all h c (More s ss) =
      steady_then (exec s h) _ (steady_exec h c s) (steady_next (all ss) _ (steady_on (exec_all ss h) (steady_exec_all h c ss)))

-- ---- rests

steady_go : (h : Hooks) → Calm h → (todo : Todo) → Steady (begun todo h)
steady_go h c (Do s) = steady_exec h c s
steady_go h c (Again t step s) =
    steady_then (exec step h) _ (steady_exec h c step) (λ _. steady_repeat t h _ _ _ (steady_test h c t) (steady_exec h c step) (steady_exec h c s))

pub steady_resume : (h : Hooks) → Calm h → (rest : List Todo) (way : Way) → Steady (resume rest h way)
steady_resume h c [] way = steady_gives (Pauses [])
steady_resume h c (todo ∷ rest) way =
    steady_if (taken todo way) _ _ (steady_then (begun todo h) _ (steady_go h c todo) (steady_next rest (resume rest h) (steady_resume h c rest)))
    (steady_resume h c rest (dropped todo way))
