-- Where calls and events go down in level, a depth above a level is enough for it: greater depths change nothing, and a
-- call is what the body does with the very same hooks.
use Rattle.std.proofs.Common.{◌≡◌, ℕ, zero, suc, ◌+◌, ◌<◌, ◌≤◌, List, [], ◌∷◌, Bool, true, false, if◌then◌else◌, refl, ap, ◌∙◌, arith, Option, Some, None, ℤ, pos}
use Rattle.std.specs.Prelude.{slice_get}
use Rattle.cm_number.specs.Conversion.{to_bool}
use Rattle.cm_scalar.specs.Scalars.{converted}
use Rattle.cm_base.specs.declared.host.Kind.{Kind}
use Rattle.cm_base.specs.declared.host.Kind.TheVariants as kinds
use Rattle.cm_base.specs.declared.host.Scalar.{Scalar}
use Rattle.cm_base.specs.declared.place.LeafId.{LeafId}
use Rattle.cm_base.specs.declared.place.EndId.{EndId}
use Rattle.cm_core.specs.declared.core_type.StructType.{StructType}
use Rattle.cm_core.specs.declared.flat.Chain.{Chain}
use Rattle.cm_core.specs.declared.flat.Point.{Point}
use Rattle.cm_core.specs.declared.unit.Unit.{Unit as CoreUnit}
use Rattle.cm_core.specs.declared.unit.Function.{Function}
use Rattle.cm_core.specs.declared.unit.Home.{Home}
use Rattle.cm_core.specs.declared.unit.Home.TheVariants as home
use Rattle.cm_core.specs.Code.{Expr, Number, Truth, Variable, Input, Constant, Field, Index, Call, Construct, Convert, Unary, Binary, Logic, Choose, Exprs, Last, With, Test, Always, Holds, Down, Next, Stmt, Nothing, Empty, Block, Locals, Cleared, Started, Assign, Update, Count, Perform, If, Loop, Times, While, Each, For, Break, Continue, Return, Answer, Advance, Write, Stmts, End, More, stmt_of}
use Rattle.cm_core.specs.Types.{field_start}
use Rattle.cm_core.specs.Operators.{unary, binary, needs_right, arithmetic, count_op}
use Rattle.cm_core.specs.World.{World, Todo, Do, Again, put_all}
use Rattle.cm_core.specs.Acts.{Act, Done, done, andthen, after, gives, change, quiet, begin}
use Rattle.cm_core.specs.Eval.{Hooks, number_of, constructed, further, type_in, read, made, number, element_start, found, eval_all, eval, holds}
use Rattle.cm_core.specs.Resume.{Way, On, Returned, Ending, Goes, next, on, round_end, go_on, put_in, assigned, kind_in, updated, tested, entered, rounds, repeat, begun_then, all, exec, exec_all, begun, taken, dropped, resume}
use Rattle.cm_core.specs.Linked.{Linked, unit_at, leaf_point, is_point, end_of}
use Rattle.cm_core.specs.Calls.{as_parameter, result_of, enter, run, run_function, Numbered, handler_at, run_handler, Handle, reach, deliver, input_of, write_by, write_of, tied, calls, handles, hooks}
use Rattle.cm_core.specs.Uses.{Calls, CallsAll, CallsTest, Uses, UsesAll}
use Rattle.cm_core.specs.Levels.{Levels, Lower, Reaches, WritesBy, Writes, Under, UsesTodo, UsesRest, Ends}

-- ---- code does the same where the calls and the writes that it uses do

module _ (structs : List StructType) (unit : CoreUnit) (leaf : ℕ) (input : ℕ → World → List ℤ) (call_one call_two : ℕ → List (List ℤ) → Act (List ℤ))
    (write_one write_two : ℕ → List ℤ → Act Done) (call write : ℕ → Type 0) (same_call : (f : ℕ) → call f → call_one f ≡ call_two f)
    (same_write : (e : ℕ) → write e → write_one e ≡ write_two e) where
  abbrev one : Hooks
  one = record { structs = structs; unit = unit; leaf = leaf; input = input; call = call_one; write = write_one }

  abbrev two : Hooks
  two = record { structs = structs; unit = unit; leaf = leaf; input = input; call = call_two; write = write_two }

  mutual
    found_same : (e : Expr) → Calls call e → found e one ≡ found e two
    found_same (Number value wide) u = refl
    found_same (Truth value) u = refl
    found_same (Variable x) u = refl
    found_same (Input e) u = refl
    found_same (Constant c) u = refl
    found_same (Field a k) u = λ i. andthen (found_same a u i) (λ part. gives (further (field_start structs (type_in one a) k) part))
    found_same (Index a x) u = λ i.
        andthen (found_same a u.0 i) (λ part. andthen (read one x (found_same x u.1 i)) (λ at. gives (further (element_start one (type_in one a) (number_of at)) part)))
    found_same (Call f es) u = λ i. andthen (all_same es u.0 i) (λ values. andthen (same_call f u.1 i values) (λ value. gives (made value)))
    found_same (Construct ty es) u = λ i. andthen (all_same es u i) (λ values. gives (made (constructed structs ty values)))
    found_same (Convert kind a) u = λ i. andthen (read one a (found_same a u i)) (λ x. gives (number (converted kind (number_of x))))
    found_same (Unary op kind a) u = λ i. andthen (read one a (found_same a u i)) (λ x. gives (number (unary op kind (number_of x))))
    found_same (Binary op kind a b) u = λ i.
        andthen (read one a (found_same a u.0 i))
        (λ x. andthen (read one b (found_same b u.1 i)) (λ y. gives (number (binary op kind (number_of x) (number_of y)))))
    found_same (Logic op a b) u = λ i.
        andthen (read one a (found_same a u.0 i))
        (λ x. if needs_right op (to_bool (number_of x)) then andthen (read one b (found_same b u.1 i)) (λ y. gives (made y)) else gives (made x))
    found_same (Choose c a b) u = λ i.
        andthen (read one c (found_same c u.0 i))
        (λ x. if to_bool (number_of x) then andthen (read one a (found_same a u.1 i)) (λ y. gives (made y)) else andthen (read one b (found_same b u.2 i)) (λ y. gives (made y)))

    all_same : (es : Exprs) → CallsAll call es → eval_all es one ≡ eval_all es two
    all_same Last u = refl
    all_same (With e es) u = λ i. andthen (read one e (found_same e u.0 i)) (λ value. andthen (all_same es u.1 i) (λ values. gives (value ∷ values)))

  eval_same : (e : Expr) → Calls call e → eval e one ≡ eval e two
  eval_same e u = λ i. read one e (found_same e u i)

  holds_same : (e : Expr) → Calls call e → holds e one ≡ holds e two
  holds_same e u = λ i. andthen (eval_same e u i) (λ value. gives (to_bool (number_of value)))

  test_same : (t : Test) → CallsTest call t → tested t one ≡ tested t two
  test_same Always u = refl
  test_same (Holds e) u = holds_same e u
  test_same (Down x) u = refl
  test_same (Next x) u = refl

  enter_same : (t : Test) → entered t one ≡ entered t two
  enter_same Always = refl
  enter_same (Holds e) = refl
  enter_same (Down x) = refl
  enter_same (Next x) = refl

  rounds_same : (most : ℕ) (t : Test) → CallsTest call t → (step_one step_two body_one body_two : Act Ending) (again : Todo) → step_one ≡ step_two → body_one ≡ body_two →
      rounds most t one step_one body_one again ≡ rounds most t two step_two body_two again
  rounds_same zero t u step_one step_two body_one body_two again s b = refl
  rounds_same (suc most) t u step_one step_two body_one body_two again s b = λ i.
      andthen (test_same t u i)
      (λ more.
      if more
      then begin
      (after (change (enter_same t i))
      (andthen (b i) (next (again ∷ []) (round_end (andthen (s i) (λ _. rounds_same most t u step_one step_two body_one body_two again s b i))))))
      else gives (Goes On))

  repeat_same : (t : Test) → CallsTest call t → (step_one step_two body_one body_two : Act Ending) (again : Todo) → step_one ≡ step_two → body_one ≡ body_two →
      repeat t one step_one body_one again ≡ repeat t two step_two body_two again
  repeat_same t u step_one step_two body_one body_two again s b = λ i w n. rounds_same (suc n) t u step_one step_two body_one body_two again s b i w n

  abbrev skip : Act Ending
  skip = gives (Goes On)

  mutual
    pub exec_same : (s : Stmt) → Uses call write s → exec s one ≡ exec s two
    exec_same Nothing u = refl
    exec_same Empty u = refl
    exec_same (Block ss) u = exec_all_same ss u
    exec_same (Locals ss) u = exec_all_same ss u
    exec_same (Cleared x) u = refl
    exec_same (Started x e) u = λ i. andthen (eval_same e u i) (λ value. go_on (put_in one x value))
    exec_same (Assign target e) u = λ i. andthen (found_same target u.0 i) (λ part. andthen (eval_same e u.1 i) (λ value. go_on (assigned one part value)))
    exec_same (Update target op kind e) u = λ i.
        andthen (found_same target u.0 i) (λ part. andthen (eval_same e u.1 i) (λ right. go_on (updated one target op kind part (number_of right))))
    exec_same (Count op target) u = λ i.
        andthen (found_same target u i) (λ part. go_on (updated one target (count_op op) (arithmetic (kind_in one target)) part (pos 1)))
    exec_same (Perform f es) u = λ i. andthen (all_same es u.0 i) (λ values. andthen (same_call f u.1 i values) (λ _. gives (Goes On)))
    exec_same (If c a b) u = λ i. andthen (holds_same c u.0 i) (λ test. if test then exec_same a u.1 i else exec_same b u.2 i)
    exec_same (Loop s) u = repeat_same Always tt skip skip (exec s one) (exec s two) (Again Always Nothing s) refl (exec_same s u)
    exec_same (Times x c s) u = λ i.
        andthen (eval_same c u.0 i) (λ count. after (put_in one x count) (repeat_same (Down x) tt skip skip (exec s one) (exec s two) (Again (Down x) Nothing s) refl (exec_same s u.1) i))
    exec_same (While c s) u = repeat_same (Holds c) u.0 skip skip (exec s one) (exec s two) (Again (Holds c) Nothing s) refl (exec_same s u.1)
    exec_same (Each x s) u = λ i.
        after (put_in one x (pos 0 ∷ []))
        (begun_then (exec_same s u i) (Again (Next x) Nothing s) (repeat_same (Next x) tt skip skip (exec s one) (exec s two) (Again (Next x) Nothing s) refl (exec_same s u) i))
    exec_same (For start c step s) u = λ i.
        andthen (exec_same start u.0 i) (λ _. repeat_same c u.1 (exec step one) (exec step two) (exec s one) (exec s two) (Again c step s) (exec_same step u.2) (exec_same s u.3) i)
    exec_same Break u = refl
    exec_same Continue u = refl
    exec_same Return u = refl
    exec_same (Answer e) u = λ i. andthen (eval_same e u i) (λ value. gives (Goes (Returned value)))
    exec_same Advance u = refl
    exec_same (Write e value) u = λ i. andthen (eval_same value u.0 i) (λ v. go_on (same_write e u.1 i v))

    exec_all_same : (ss : Stmts) → UsesAll call write ss → exec_all ss one ≡ exec_all ss two
    exec_all_same End u = refl
    exec_all_same (More s ss) u = λ i. andthen (exec_same s u.0 i) (next (all ss) (on (exec_all_same ss u.1 i)))

  begun_same : (todo : Todo) → UsesTodo call write todo → begun todo one ≡ begun todo two
  begun_same (Do s) u = exec_same s u
  begun_same (Again t step s) u = λ i.
      andthen (exec_same step u.1 i) (λ _. repeat_same t u.0 (exec step one) (exec step two) (exec s one) (exec s two) (Again t step s) (exec_same step u.1) (exec_same s u.2) i)

  pub resume_same : (rest : List Todo) → UsesRest call write rest → (way : Way) → resume rest one way ≡ resume rest two way
  resume_same [] u way = refl
  resume_same (todo ∷ rest) u way = λ i.
      if taken todo way then andthen (begun_same todo u.0 i) (next rest (λ after. resume_same rest u.1 after i)) else resume_same rest u.1 (dropped todo way) i

-- ---- levels

once_same : (l : Linked) (levels : Levels) (level : ℕ) (b : Bool) (leaf : Option LeafId) (end : EndId) (first second : Handle) → (b ≡ true → Lower l levels level leaf end) →
    ((j e : ℕ) → levels.handler j e < level → first j e ≡ second j e) → (v : List ℤ) → (if b then reach l leaf end first v else gives done) ≡ (if b then reach l leaf end second v else gives done)
once_same l levels level true None end first second low same v = refl
once_same l levels level true (Some leaf) end first second low same v = λ i. same leaf.0 _ (low refl) i v
once_same l levels level false leaf end first second low same v = refl

pub deliver_same : (l : Linked) (levels : Levels) (level : ℕ) (chains : List Chain) (from : Point) (first second : Handle) → Reaches l levels level from chains →
    ((j e : ℕ) → levels.handler j e < level → first j e ≡ second j e) → deliver l chains from first ≡ deliver l chains from second
deliver_same l levels level [] from first second r same = refl
deliver_same l levels level (chain ∷ chains) from first second r same = λ i v.
    after (once_same l levels level (is_point chain.from from) chain.to.leaf chain.to.end first second r.0 same v i) (deliver_same l levels level chains from first second r.1 same i v)

pub write_same : (l : Linked) (levels : Levels) (level : ℕ) (kind : Kind) (shape : List Scalar) (i e : ℕ) (first second : Handle) → WritesBy l levels level kind (leaf_point l i e) →
    ((j x : ℕ) → levels.handler j x < level → first j x ≡ second j x) → write_by l kind shape i e first ≡ write_by l kind shape i e second
write_same l levels level kinds.Stream shape i e first second r same = refl
write_same l levels level kinds.Value shape i e first second r same = refl
write_same l levels level kinds.Event shape i e first second r same = deliver_same l levels level l.flat.chains (leaf_point l i e) first second r same

run_same : (l : Linked) (at : Home) (first : ℕ) (body : Stmt) (leaf : ℕ) (call_one call_two : ℕ → List (List ℤ) → Act (List ℤ)) (first_handle second_handle : Handle) (values : List (List ℤ)) →
    exec body (tied l leaf call_one first_handle) ≡ exec body (tied l leaf call_two second_handle) → run l at first values body (tied l leaf call_one first_handle) ≡ run l at first values body (tied l leaf call_two second_handle)
run_same l at first body leaf call_one call_two first_handle second_handle values same = λ i.
    after (change (λ w. put_all leaf first values (enter l leaf at w))) (andthen (same i) (λ end. gives (result_of end)))

function_same : (l : Linked) (f : ℕ) (code : Option Function) (leaf : ℕ) (call_one call_two : ℕ → List (List ℤ) → Act (List ℤ)) (first_handle second_handle : Handle) →
    ((c : Function) → code ≡ Some c → exec (stmt_of c.body) (tied l leaf call_one first_handle) ≡ exec (stmt_of c.body) (tied l leaf call_two second_handle)) → (values : List (List ℤ)) →
    run_function l f code values (tied l leaf call_one first_handle) ≡ run_function l f code values (tied l leaf call_two second_handle)
function_same l f None leaf call_one call_two first_handle second_handle same values = refl
function_same l f (Some c) leaf call_one call_two first_handle second_handle same values = run_same l (home.Function f) c.first (stmt_of c.body) leaf call_one call_two first_handle second_handle values (same c refl)

handler_same : (l : Linked) (code : Option Numbered) (leaf : ℕ) (call_one call_two : ℕ → List (List ℤ) → Act (List ℤ)) (first_handle second_handle : Handle) →
    ((c : Numbered) → code ≡ Some c → exec (stmt_of c.1.body) (tied l leaf call_one first_handle) ≡ exec (stmt_of c.1.body) (tied l leaf call_two second_handle)) → (value : List ℤ) →
    run_handler l code value (tied l leaf call_one first_handle) ≡ run_handler l code value (tied l leaf call_two second_handle)
handler_same l None leaf call_one call_two first_handle second_handle same value = refl
handler_same l (Some c) leaf call_one call_two first_handle second_handle same value = λ i.
    quiet (run_same l (home.Handler c.0) c.1.first (stmt_of c.1.body) leaf call_one call_two first_handle second_handle (as_parameter c.1.param.ty value ∷ []) (same c refl) i)

module _ (l : Linked) (levels : Levels) where
  pub record Same (depth : ℕ) : Type 0 where
    pub functions : (i f : ℕ) → levels.function i f < depth → calls l depth i f ≡ calls l (suc depth) i f
    pub handlers : (j e : ℕ) → levels.handler j e < depth → handles l depth j e ≡ handles l (suc depth) j e

  pub body_same : (depth : ℕ) → Same depth → (level leaf : ℕ) → level ≤ depth → (s : Stmt) → Under l levels level leaf s → exec s (hooks l depth leaf) ≡ exec s (hooks l (suc depth) leaf)
  body_same depth same level leaf le s u =
      exec_same l.program.structs (unit_at l leaf) leaf (input_of l leaf) (calls l depth leaf) (calls l (suc depth) leaf) (write_of l leaf (handles l depth)) (write_of l leaf (handles l (suc depth)))
      (λ f. levels.function leaf f < level) (Writes l levels level leaf) (λ f k. same.functions leaf f (omega arith))
      (λ e r. write_same l levels level (end_of (unit_at l leaf) e).kind (end_of (unit_at l leaf) e).shape leaf e (handles l depth) (handles l (suc depth)) r (λ j x k. same.handlers j x (omega arith))) s u

  pub same_at : Ends l levels → (depth : ℕ) → Same depth
  same_at ends zero = record { functions = λ i f k. absurd (omega arith); handlers = λ j e k. absurd (omega arith) }
  same_at ends (suc depth) =
      record {
        functions = λ i f k. λ at values.
            function_same l f (slice_get (unit_at l i).functions f) i _ _ _ _
            (λ code is. body_same depth (same_at ends depth) (levels.function i f) i (omega arith) (stmt_of code.body) (ends.functions i f code is)) values at;
        handlers = λ j e k. λ at value.
            handler_same l (handler_at (unit_at l j) e) j _ _ _ _
            (λ code is. body_same depth (same_at ends depth) (levels.handler j e) j (omega arith) (stmt_of code.1.body) (ends.handlers j e code is)) value at;
      }

-- ---- the law that ties: no depth is left in it

-- what holds from one depth to the next from the top on holds to each greater depth
pub from_top : {B : Type 0} (x : ℕ → B) (top : ℕ) → ((depth : ℕ) → top ≤ depth → x depth ≡ x (suc depth)) → (more : ℕ) → x top ≡ x (top + more)
from_top x top step zero = let e : top ≡ top + zero = omega arith in ap x e
from_top x top step (suc more) = let e : suc (top + more) ≡ top + suc more = omega arith in from_top x top step more ∙ step (top + more) (omega arith) ∙ ap x e

-- a call is the body of the function with the same hooks
pub call_ties : (l : Linked) (levels : Levels) → Ends l levels → (depth i f : ℕ) → levels.function i f < depth → (values : List (List ℤ)) →
    calls l depth i f values ≡ run_function l f (slice_get (unit_at l i).functions f) values (hooks l depth i)
call_ties l levels ends depth i f k values = λ at. (same_at l levels ends depth).functions i f k at values

-- an event that comes to a leaf is the body of its handler with the same hooks
pub handle_ties : (l : Linked) (levels : Levels) → Ends l levels → (depth j e : ℕ) → levels.handler j e < depth → (value : List ℤ) →
    handles l depth j e value ≡ run_handler l (handler_at (unit_at l j) e) value (hooks l depth j)
handle_ties l levels ends depth j e k value = λ at. (same_at l levels ends depth).handlers j e k at value

-- code at a level does the same at each depth from that level on
pub exec_deep : (l : Linked) (levels : Levels) → Ends l levels → (level i more : ℕ) (s : Stmt) → Under l levels level i s → exec s (hooks l level i) ≡ exec s (hooks l (level + more) i)
exec_deep l levels ends level i more s u =
    from_top (λ depth. exec s (hooks l depth i)) level (λ depth le. body_same l levels depth (same_at l levels ends depth) level i le s u) more
