-- What code keeps: anything of a world that assignments and writes, and what is told, can't change.
use Rattle.std.proofs.Common.{◌≡◌, ℕ, zero, suc, ◌+◌, List, [], ◌∷◌, ◌++◌, Bool, true, false, if◌then◌else◌, refl, Option, Some, None, ℤ, pos}
use Rattle.cm_number.specs.Conversion.{to_bool}
use Rattle.cm_scalar.specs.Scalars.{converted}
use Rattle.cm_base.specs.declared.host.Kind.{Kind}
use Rattle.cm_base.specs.declared.host.Kind.TheVariants as kinds
use Rattle.cm_base.specs.declared.host.Scalar.{Scalar}
use Rattle.cm_base.specs.declared.place.LeafId.{LeafId}
use Rattle.cm_base.specs.declared.place.EndId.{EndId}
use Rattle.cm_base.specs.declared.play.Item.{Item}
use Rattle.cm_core.specs.declared.operator.BinaryOp.{BinaryOp}
use Rattle.cm_core.specs.declared.flat.Chain.{Chain}
use Rattle.cm_core.specs.declared.flat.Point.{Point}
use Rattle.cm_core.specs.declared.unit.Function.{Function}
use Rattle.cm_core.specs.declared.unit.Home.{Home}
use Rattle.cm_core.specs.declared.unit.Home.TheVariants as home
use Rattle.cm_core.specs.Code.{Expr, Number, Truth, Variable, Input, Constant, Field, Index, Call, Construct, Convert, Unary, Binary, Logic, Choose, Exprs, Last, With, Test, Always, Holds, Down, Next, Stmt, Nothing, Empty, Block, Locals, Cleared, Started, Assign, Update, Count, Perform, If, Loop, Times, While, Each, For, Break, Continue, Return, Answer, Advance, Write, Stmts, End, More, stmt_of}
use Rattle.cm_core.specs.Types.{zero_of, variable_type}
use Rattle.cm_core.specs.Operators.{needs_right, binary, arithmetic, count_op}
use Rattle.cm_core.specs.World.{World, Todo, Do, Again, part_at, with_store, put, put_all, tell}
use Rattle.cm_core.specs.Acts.{Given, Gives, Short, Act, Done, done, bind, andthen, gives, look, change, quiet, begin}
use Rattle.cm_core.specs.Eval.{Hooks, number_of, Root, OfVariable, OfInput, OfConstant, OfValue, Part, type_in, count_in, root_value, read, found, eval_all, eval, holds}
use Rattle.cm_core.specs.Resume.{Way, On, Broke, Continued, Returned, Ending, Goes, Pauses, next, on, round_end, go_on, put_in, stored, put_part, assigned, number_in, kind_in, updated, tested, entered, rounds, repeat, all, exec, exec_all, begun, taken, dropped, resume}
use Rattle.cm_core.specs.Linked.{Linked, leaf_ends, leaf_point, number_among, is_point}
use Rattle.cm_core.specs.Calls.{enter, result_of, run, run_function, as_parameter, Numbered, run_handler, Handle, reach, deliver, add_to, replace, write_by}
use Rattle.cm_core.specs.Uses.{Uses, UsesAll}
use Rattle.cm_core.specs.Levels.{UsesTodo, UsesRest}

pub record Closed (P : World → Type 0) : Type 0 where
  pub stores : (i : ℕ) (store : List (List ℤ)) (w : World) → P w → P (with_store i store w)
  pub adds : (shape : List Scalar) (i e : ℕ) (value : List ℤ) (w : World) → P w → P (add_to shape i e value w)
  pub replaces : (i e : ℕ) (value : List ℤ) (w : World) → P w → P (replace i e value w)
  pub tells : (item : Item) (w : World) → P w → P (tell item w)

abbrev pub Kept : {A : Type 0} → (World → Type 0) → (A → Type 0) → Given A → Type 0
Kept P Q (Gives value w n) = P w × Q value
Kept P Q (Short w) = P w

abbrev pub Keeps : {A : Type 0} → (World → Type 0) → (A → Type 0) → Act A → Type 0
Keeps P Q act = (w : World) (n : ℕ) → P w → Kept P Q (act w n)

abbrev pub Any : {A : Type 0} → A → Type 0
Any value = Unit {0}

kept_bind : {A B : Type 0} (P : World → Type 0) (Q : A → Type 0) (R : B → Type 0) (x : Given A) (go : A → Act B) → Kept P Q x → ((value : A) → Q value → Keeps P R (go value)) → Kept P R (bind x go)
kept_bind P Q R (Gives value w n) go k g = g value k.1 w n k.0
kept_bind P Q R (Short w) go k g = k

pub keeps_then : {A B : Type 0} (P : World → Type 0) (Q : A → Type 0) (R : B → Type 0) (first : Act A) (go : A → Act B) → Keeps P Q first → ((value : A) → Q value → Keeps P R (go value)) → Keeps P R (andthen first go)
keeps_then P Q R first go f g = λ w n k. kept_bind P Q R (first w n) go (f w n k) g

-- one act after another, where nothing is asked of the first one's value
pub keeps_on : {A B : Type 0} (P : World → Type 0) (R : B → Type 0) (first : Act A) (go : A → Act B) → Keeps P Any first → ((value : A) → Keeps P R (go value)) → Keeps P R (andthen first go)
keeps_on P R first go f g = keeps_then P Any R first go f (λ value t. g value)

pub keeps_gives : {A : Type 0} (P : World → Type 0) (value : A) → Keeps P Any (gives value)
keeps_gives P value w n k = (k, tt)

pub keeps_change : (P : World → Type 0) (step : World → World) → ((w : World) → P w → P (step w)) → Keeps P Any (change step)
keeps_change P step f w n k = (f w k, tt)

pub keeps_quiet : {A : Type 0} (P : World → Type 0) (Q : A → Type 0) (act : Act A) → Keeps P Q act → Keeps P Any (quiet act)
keeps_quiet P Q act f = keeps_then P Q Any act (λ _. gives done) f (λ value t. keeps_gives P done)

keeps_if : {A : Type 0} (P : World → Type 0) (Q : A → Type 0) (b : Bool) (x y : Act A) → Keeps P Q x → Keeps P Q y → Keeps P Q (if b then x else y)
keeps_if P Q true x y f g = f
keeps_if P Q false x y f g = g

keeps_begin : {A : Type 0} (P : World → Type 0) (Q : A → Type 0) (body : Act A) → Keeps P Q body → Keeps P Q (begin body)
keeps_begin P Q body f w zero k = k
keeps_begin P Q body f w (suc n) k = f w n k

put_all_keeps : (P : World → Type 0) → Closed P → (i x : ℕ) (values : List (List ℤ)) (w : World) → P w → P (put_all i x values w)
put_all_keeps P c i x [] w k = k
put_all_keeps P c i x (value ∷ values) w k = put_all_keeps P c i (x + 1) values (put i x value w) (c.stores i _ w k)

rest_append : (call write : ℕ → Type 0) (more rest : List Todo) → UsesRest call write more → UsesRest call write rest → UsesRest call write (more ++ rest)
rest_append call write [] rest u v = v
rest_append call write (todo ∷ more) rest u v = (u.0, rest_append call write more rest u.1 v)

rest_all : (call write : ℕ → Type 0) (ss : Stmts) → UsesAll call write ss → UsesRest call write (all ss)
rest_all call write End u = tt
rest_all call write (More s ss) u = (u.0, rest_all call write ss u.1)

-- a rest that is left has statements of the code alone
abbrev pub EndUses : (call write : ℕ → Type 0) → Ending → Type 0
EndUses call write (Goes way) = Unit {0}
EndUses call write (Pauses rest) = UsesRest call write rest

pub record HooksKeep (P : World → Type 0) (h : Hooks) : Type 0 where
  pub calls : (f : ℕ) (values : List (List ℤ)) → Keeps P Any (h.call f values)
  pub writes : (e : ℕ) (value : List ℤ) → Keeps P Any (h.write e value)

module _ (P : World → Type 0) (closed : Closed P) (h : Hooks) (hooks_keep : HooksKeep P h) where
  read_keeps : (e : Expr) (act : Act Part) → Keeps P Any act → Keeps P Any (read h e act)
  read_keeps e act f = keeps_on P Any act (λ part. look (λ w. part_at part.start (count_in h (type_in h e)) (root_value h part.root w))) f (λ part w n k. (k, tt))

  mutual
    found_keeps : (e : Expr) → Keeps P Any (found e h)
    found_keeps (Number value wide) = λ w n k. (k, tt)
    found_keeps (Truth value) = λ w n k. (k, tt)
    found_keeps (Variable x) = λ w n k. (k, tt)
    found_keeps (Input e) = λ w n k. (k, tt)
    found_keeps (Constant c) = λ w n k. (k, tt)
    found_keeps (Field a k) = keeps_on P Any (found a h) _ (found_keeps a) (λ part w n k. (k, tt))
    found_keeps (Index a i) =
        keeps_on P Any (found a h) _ (found_keeps a) (λ part. keeps_on P Any (read h i (found i h)) _ (read_keeps i (found i h) (found_keeps i)) (λ at w n k. (k, tt)))
    found_keeps (Call f es) =
        keeps_on P Any (eval_all es h) _ (all_keep es) (λ values. keeps_on P Any (h.call f values) _ (hooks_keep.calls f values) (λ value w n k. (k, tt)))
    found_keeps (Construct ty es) = keeps_on P Any (eval_all es h) _ (all_keep es) (λ values w n k. (k, tt))
    found_keeps (Convert kind a) = keeps_on P Any (read h a (found a h)) _ (read_keeps a (found a h) (found_keeps a)) (λ x w n k. (k, tt))
    found_keeps (Unary op kind a) = keeps_on P Any (read h a (found a h)) _ (read_keeps a (found a h) (found_keeps a)) (λ x w n k. (k, tt))
    found_keeps (Binary op kind a b) =
        keeps_on P Any (read h a (found a h)) _ (read_keeps a (found a h) (found_keeps a))
        (λ x. keeps_on P Any (read h b (found b h)) _ (read_keeps b (found b h) (found_keeps b)) (λ y w n k. (k, tt)))
    found_keeps (Logic op a b) =
        keeps_on P Any (read h a (found a h)) _ (read_keeps a (found a h) (found_keeps a))
        (λ x. keeps_if P Any (needs_right op (to_bool (number_of x))) _ _
        (keeps_on P Any (read h b (found b h)) _ (read_keeps b (found b h) (found_keeps b)) (λ y w n k. (k, tt))) (λ w n k. (k, tt)))
    found_keeps (Choose c a b) =
        keeps_on P Any (read h c (found c h)) _ (read_keeps c (found c h) (found_keeps c))
        (λ x. keeps_if P Any (to_bool (number_of x)) _ _
        (keeps_on P Any (read h a (found a h)) _ (read_keeps a (found a h) (found_keeps a)) (λ y w n k. (k, tt)))
        (keeps_on P Any (read h b (found b h)) _ (read_keeps b (found b h) (found_keeps b)) (λ y w n k. (k, tt))))

    all_keep : (es : Exprs) → Keeps P Any (eval_all es h)
    all_keep Last = λ w n k. (k, tt)
    all_keep (With e es) =
        keeps_on P Any (read h e (found e h)) _ (read_keeps e (found e h) (found_keeps e)) (λ value. keeps_on P Any (eval_all es h) _ (all_keep es) (λ values w n k. (k, tt)))

  eval_keeps : (e : Expr) → Keeps P Any (eval e h)
  eval_keeps e = read_keeps e (found e h) (found_keeps e)

  holds_keeps : (e : Expr) → Keeps P Any (holds e h)
  holds_keeps e = keeps_on P Any (eval e h) _ (eval_keeps e) (λ value w n k. (k, tt))

  test_keeps : (t : Test) → Keeps P Any (tested t h)
  test_keeps Always = keeps_gives P true
  test_keeps (Holds e) = holds_keeps e
  test_keeps (Down x) = λ w n k. (k, tt)
  test_keeps (Next x) = λ w n k. (k, tt)

  enter_keeps : (t : Test) (w : World) → P w → P (entered t h w)
  enter_keeps Always w k = k
  enter_keeps (Holds e) w k = k
  enter_keeps (Down x) w k = closed.stores h.leaf _ w k
  enter_keeps (Next x) w k = closed.stores h.leaf _ w k

  put_keeps : (x : ℕ) (value : List ℤ) → Keeps P Any (put_in h x value)
  put_keeps x value = keeps_change P (put h.leaf x value) (λ w k. closed.stores h.leaf _ w k)

  stored_keeps : (root : Root) (value : List ℤ) (w : World) → P w → P (stored h root value w)
  stored_keeps (OfVariable x) value w k = closed.stores h.leaf _ w k
  stored_keeps (OfInput e) value w k = k
  stored_keeps (OfConstant c) value w k = k
  stored_keeps (OfValue v) value w k = k

  assigned_keeps : (part : Part) (value : List ℤ) → Keeps P Any (assigned h part value)
  assigned_keeps part value = keeps_change P (put_part h part value) (λ w k. stored_keeps part.root _ w k)

  updated_keeps : (target : Expr) (op : BinaryOp) (kind : Scalar) (part : Part) (right : ℤ) → Keeps P Any (updated h target op kind part right)
  updated_keeps target op kind part right =
      keeps_on P Any (look (number_in h part))
      (λ old. assigned h part (converted (kind_in h target) (binary op kind (converted kind old) right) ∷ [])) (λ w n k. (k, tt))
      (λ old. assigned_keeps part (converted (kind_in h target) (binary op kind (converted kind old) right) ∷ []))

  module _ (call write : ℕ → Type 0) where
    abbrev Q : Ending → Type 0
    Q = EndUses call write

    goes_keeps : (act : Act Done) → Keeps P Any act → Keeps P Q (go_on act)
    goes_keeps act f = keeps_on P Q act _ f (λ d w n k. (k, tt))

    next_keeps : (rest : List Todo) (go : Way → Act Ending) → UsesRest call write rest → ((way : Way) → Keeps P Q (go way)) → (end : Ending) → Q end → Keeps P Q (next rest go end)
    next_keeps rest go u f (Goes way) q = f way
    next_keeps rest go u f (Pauses more) q = λ w n k. (k, rest_append call write more rest q u)

    on_keeps : (go : Act Ending) → Keeps P Q go → (way : Way) → Keeps P Q (on go way)
    on_keeps go f On = f
    on_keeps go f Broke = λ w n k. (k, tt)
    on_keeps go f Continued = λ w n k. (k, tt)
    on_keeps go f (Returned v) = λ w n k. (k, tt)

    round_keeps : (go : Act Ending) → Keeps P Q go → (way : Way) → Keeps P Q (round_end go way)
    round_keeps go f On = f
    round_keeps go f Broke = λ w n k. (k, tt)
    round_keeps go f Continued = f
    round_keeps go f (Returned v) = λ w n k. (k, tt)

    rounds_keep : (most : ℕ) (t : Test) (step body : Act Ending) (again : Todo) → Keeps P Q step → Keeps P Q body → UsesTodo call write again → Keeps P Q (rounds most t h step body again)
    rounds_keep zero t step body again f g u = λ w n k. k
    rounds_keep (suc most) t step body again f g u =
        keeps_on P Q (tested t h) _ (test_keeps t)
        (λ more. keeps_if P Q more _ _
        (keeps_begin P Q _
        (keeps_on P Q (change (entered t h)) _ (keeps_change P (entered t h) (enter_keeps t))
        (λ d. keeps_then P Q Q body _ g
        (next_keeps (again ∷ []) _ (u, tt) (round_keeps _ (keeps_then P Q Q step _ f (λ end q. rounds_keep most t step body again f g u)))))))
        (λ w n k. (k, tt)))

    repeat_keeps : (t : Test) (step body : Act Ending) (again : Todo) → Keeps P Q step → Keeps P Q body → UsesTodo call write again → Keeps P Q (repeat t h step body again)
    repeat_keeps t step body again f g u w n k = rounds_keep (suc n) t step body again f g u w n k

    skip_keeps : Keeps P Q (gives (Goes On))
    skip_keeps w n k = (k, tt)

    mutual
      pub exec_keeps : (s : Stmt) → Uses call write s → Keeps P Q (exec s h)
      exec_keeps Nothing u = skip_keeps
      exec_keeps Empty u = skip_keeps
      exec_keeps (Block ss) u = exec_all_keeps ss u
      exec_keeps (Locals ss) u = exec_all_keeps ss u
      exec_keeps (Cleared x) u = goes_keeps (put_in h x (zero_of h.structs (variable_type h.unit x))) (put_keeps x (zero_of h.structs (variable_type h.unit x)))
      exec_keeps (Started x e) u = keeps_on P Q (eval e h) _ (eval_keeps e) (λ value. goes_keeps (put_in h x value) (put_keeps x value))
      exec_keeps (Assign target e) u =
          keeps_on P Q (found target h) _ (found_keeps target) (λ part. keeps_on P Q (eval e h) _ (eval_keeps e) (λ value. goes_keeps (assigned h part value) (assigned_keeps part value)))
      exec_keeps (Update target op kind e) u =
          keeps_on P Q (found target h) _ (found_keeps target)
          (λ part. keeps_on P Q (eval e h) _ (eval_keeps e) (λ right. goes_keeps (updated h target op kind part (number_of right)) (updated_keeps target op kind part (number_of right))))
      exec_keeps (Count op target) u =
          keeps_on P Q (found target h) _ (found_keeps target) (λ part. goes_keeps (updated h target (count_op op) (arithmetic (kind_in h target)) part (pos 1))
          (updated_keeps target (count_op op) (arithmetic (kind_in h target)) part (pos 1)))
      exec_keeps (Perform f es) u =
          keeps_on P Q (eval_all es h) _ (all_keep es) (λ values. keeps_on P Q (h.call f values) _ (hooks_keep.calls f values) (λ v. skip_keeps))
      exec_keeps (If c a b) u =
          keeps_on P Q (holds c h) _ (holds_keeps c) (λ test. keeps_if P Q test (exec a h) (exec b h) (exec_keeps a u.1) (exec_keeps b u.2))
      exec_keeps (Loop s) u = repeat_keeps Always (gives (Goes On)) (exec s h) (Again Always Nothing s) skip_keeps (exec_keeps s u) (tt, tt, u)
      exec_keeps (Times x c s) u =
          keeps_on P Q (eval c h) _ (eval_keeps c)
          (λ count. keeps_on P Q (put_in h x count) _ (put_keeps x count)
          (λ d. repeat_keeps (Down x) (gives (Goes On)) (exec s h) (Again (Down x) Nothing s) skip_keeps (exec_keeps s u.1) (tt, tt, u.1)))
      exec_keeps (While c s) u = repeat_keeps (Holds c) (gives (Goes On)) (exec s h) (Again (Holds c) Nothing s) skip_keeps (exec_keeps s u.1) (u.0, tt, u.1)
      exec_keeps (Each x s) u =
          keeps_on P Q (put_in h x (pos 0 ∷ [])) _ (put_keeps x (pos 0 ∷ []))
          (λ d. keeps_begin P Q _
          (keeps_then P Q Q (exec s h) _ (exec_keeps s u)
          (next_keeps (Again (Next x) Nothing s ∷ []) _ ((tt, tt, u), tt)
          (round_keeps _ (repeat_keeps (Next x) (gives (Goes On)) (exec s h) (Again (Next x) Nothing s) skip_keeps (exec_keeps s u) (tt, tt, u))))))
      exec_keeps (For start c step s) u =
          keeps_then P Q Q (exec start h) _ (exec_keeps start u.0)
          (λ end q. repeat_keeps c (exec step h) (exec s h) (Again c step s) (exec_keeps step u.2) (exec_keeps s u.3) (u.1, u.2, u.3))
      exec_keeps Break u = λ w n k. (k, tt)
      exec_keeps Continue u = λ w n k. (k, tt)
      exec_keeps Return u = λ w n k. (k, tt)
      exec_keeps (Answer e) u = keeps_on P Q (eval e h) _ (eval_keeps e) (λ value w n k. (k, tt))
      exec_keeps Advance u = λ w n k. (k, tt)
      exec_keeps (Write e value) u = keeps_on P Q (eval value h) _ (eval_keeps value) (λ v. goes_keeps (h.write e v) (hooks_keep.writes e v))

      exec_all_keeps : (ss : Stmts) → UsesAll call write ss → Keeps P Q (exec_all ss h)
      exec_all_keeps End u = skip_keeps
      exec_all_keeps (More s ss) u =
          keeps_then P Q Q (exec s h) _ (exec_keeps s u.0) (next_keeps (all ss) _ (rest_all call write ss u.1) (on_keeps (exec_all ss h) (exec_all_keeps ss u.1)))

    begun_keeps : (todo : Todo) → UsesTodo call write todo → Keeps P Q (begun todo h)
    begun_keeps (Do s) u = exec_keeps s u
    begun_keeps (Again t step s) u =
        keeps_then P Q Q (exec step h) _ (exec_keeps step u.1) (λ end q. repeat_keeps t (exec step h) (exec s h) (Again t step s) (exec_keeps step u.1) (exec_keeps s u.2) u)

    pub resume_keeps : (rest : List Todo) → UsesRest call write rest → (way : Way) → Keeps P Q (resume rest h way)
    resume_keeps [] u way = λ w n k. (k, tt)
    resume_keeps (todo ∷ rest) u way =
        keeps_if P Q (taken todo way) _ _ (keeps_then P Q Q (begun todo h) _ (begun_keeps todo u.0) (next_keeps rest (resume rest h) u.1 (resume_keeps rest u.1)))
        (resume_keeps rest u.1 (dropped todo way))

  pub run_keeps : (l : Linked) (call write : ℕ → Type 0) (at : Home) (first : ℕ) (values : List (List ℤ)) (body : Stmt) → Uses call write body → Keeps P Any (run l at first values body h)
  run_keeps l call write at first values body u =
      keeps_on P Any (change _) _ (keeps_change P _ (λ w k. put_all_keeps P closed h.leaf first values (enter l h.leaf at w) (closed.stores h.leaf _ w k)))
      (λ d. keeps_then P (EndUses call write) Any (exec body h) (λ end. gives (result_of end)) (exec_keeps call write body u) (λ end q w n k. (k, tt)))

  pub function_keeps : (l : Linked) (f : ℕ) (call write : Function → ℕ → Type 0) (code : Option Function) → ((c : Function) → code ≡ Some c → Uses (call c) (write c) (stmt_of c.body)) →
      (values : List (List ℤ)) → Keeps P Any (run_function l f code values h)
  function_keeps l f call write None u values = λ w n k. (k, tt)
  function_keeps l f call write (Some c) u values = run_keeps l (call c) (write c) (home.Function f) c.first values (stmt_of c.body) (u c refl)

  pub handler_keeps : (l : Linked) (call write : ℕ → Type 0) (code : Option Numbered) → ((c : Numbered) → code ≡ Some c → Uses call write (stmt_of c.1.body)) →
      (value : List ℤ) → Keeps P Any (run_handler l code value h)
  handler_keeps l call write None u value = λ w n k. (k, tt)
  handler_keeps l call write (Some c) u value =
      keeps_quiet P Any _ (run_keeps l call write (home.Handler c.0) c.1.first (as_parameter c.1.param.ty value ∷ []) (stmt_of c.1.body) (u c refl))

reach_keeps : (P : World → Type 0) → Closed P → (l : Linked) (leaf : Option LeafId) (end : EndId) (handle : Handle) → ((j e : ℕ) (v : List ℤ) → Keeps P Any (handle j e v)) → (v : List ℤ) →
    Keeps P Any (reach l leaf end handle v)
reach_keeps P c l None end handle f v = λ w n k. (c.tells _ w k, tt)
reach_keeps P c l (Some leaf) end handle f v = f leaf.0 (number_among (leaf_ends l leaf.0) end) v

pub deliver_keeps : (P : World → Type 0) → Closed P → (l : Linked) (chains : List Chain) (from : Point) (handle : Handle) → ((j e : ℕ) (v : List ℤ) → Keeps P Any (handle j e v)) →
    (v : List ℤ) → Keeps P Any (deliver l chains from handle v)
deliver_keeps P c l [] from handle f v = λ w n k. (k, tt)
deliver_keeps P c l (chain ∷ chains) from handle f v =
    keeps_on P Any (if is_point chain.from from then reach l chain.to.leaf chain.to.end handle v else gives done) _
    (keeps_if P Any (is_point chain.from from) _ _ (reach_keeps P c l chain.to.leaf chain.to.end handle f v) (λ w n k. (k, tt))) (λ d. deliver_keeps P c l chains from handle f v)

pub write_keeps : (P : World → Type 0) → Closed P → (l : Linked) (kind : Kind) (shape : List Scalar) (i e : ℕ) (handle : Handle) → ((j x : ℕ) (v : List ℤ) → Keeps P Any (handle j x v)) →
    (v : List ℤ) → Keeps P Any (write_by l kind shape i e handle v)
write_keeps P c l kinds.Stream shape i e handle f v = keeps_change P (add_to shape i e v) (c.adds shape i e v)
write_keeps P c l kinds.Value shape i e handle f v = keeps_change P (replace i e v) (c.replaces i e v)
write_keeps P c l kinds.Event shape i e handle f v = deliver_keeps P c l l.flat.chains (leaf_point l i e) handle f v
