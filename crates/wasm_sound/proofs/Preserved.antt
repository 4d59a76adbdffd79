-- A reduction of governed code isn't stuck and leads to governed code: "Preservation" and "Progress" of Core
-- Specification 1.0, appendix, "Soundness". One lemma for each form of step, which the kinds of instructions share.
use Rattle.std.proofs.Common.{◌≡◌, ℕ, zero, suc, ◌+◌, ◌/◌, ◌<◌, ◌≤◌, ◌^◌, List, [], ◌∷◌, ◌++◌, length, take, drop, Option, Some, None, Bool, true, false, refl, sym, ap, ◌∙◌, subst, arith, append-nil, length-append}
use Rattle.std.specs.Prelude.{slice_get, slice_set, reverse, replicate, map, nat_le, nat_lt, unwrap_or, ◌==◌, if◌then◌else◌}
use Rattle.std.specs.Option.{option_map}
use Rattle.std.specs.List.{AllByRecursion}
use Rattle.std.specs.Int.{w32, w64, cast_unsigned}
use Rattle.std.proofs.lemmas.Bool.{lt-ltb, le-ltb, leb-true}
use Rattle.std.proofs.lemmas.List.{length-reverse, reverse-reverse}
use Rattle.std.proofs.lemmas.Option.{slice_get-map}
use Rattle.wasm_tree.specs.declared.module.ValType.{ValType}
use Rattle.wasm_tree.specs.declared.module.ValType.TheVariants.{I32, I64}
use Rattle.wasm_tree.specs.declared.module.FuncType.{FuncType}
use Rattle.wasm_tree.specs.declared.module.GlobalVar.{GlobalVar}
use Rattle.wasm_tree.specs.declared.instr.Instr.{Instr}
use Rattle.wasm_tree.specs.declared.instr.Instr.TheVariants as instr
use Rattle.wasm_tree.specs.Meaning.{width, test_of, compare_of, unary_of, binary_of, convert_of, load_type, load_size, loaded, store_type, store_size, stored}
use Rattle.wasm_tree.specs.Numbers.{emit_type}
use Rattle.wasm_tree.specs.Reduce.{Seq, Nil, Plain, InBlock, InLoop, InIf, State, Label, CallFrame, Config, Step, To, Traps, Sticks, at, with_values, push, on_top, on_two, if_there, arity_of, enter, give_back, leave, branch, enter_function, call, page_size, write_bytes, plain, act}
use Rattle.wasm_tree.specs.Typed.{Takes, result_types, convert_from, convert_to}
use Rattle.wasm_steps.specs.Steps.{reduce}
use Rattle.wasm_steps.proofs.Windows.{length-write_bytes}
use Rattle.wasm_steps.proofs.Bytes.{length-stored}
use Rattle.wasm_sound.specs.Kinds.{IsOf, AreOf}
use Rattle.wasm_sound.specs.Sound.{Scope, context, most_memory}
use Rattle.wasm_sound.specs.Governed.{Rules, Permits, Governed, IsGovernedScope, AreGovernedLabels, AreGovernedFrames, HasBytes, IsGoverned, KeepsRules}
use Rattle.wasm_sound.proofs.Values.{same_length, joined, front_are, back_are, zeros_are, reversed, one_at, set_at}
use Rattle.wasm_sound.proofs.Ranges.{test_is, compare_is, unary_is, convert_is, binary_is, loaded_is, stored_are, bytes_append, bytes_take, bytes_drop}

-- ---- lists of labels

all_at : (P : ℕ → Type 0) (l : List ℕ) (i other : ℕ) → AllByRecursion P l → P other → P (unwrap_or (slice_get l i) other)
all_at P [] zero other h d = d
all_at P [] (suc i) other h d = d
all_at P (y ∷ ys) zero other h d = h.0
all_at P (y ∷ ys) (suc i) other h d = all_at P ys i other h.1 d

none_there : {A : Type 0} (n : ℕ) (x : A) → slice_get [] n ≡ Some x → ⊥
none_there zero x e = cc
none_there (suc n) x e = cc

-- with less there is room too
abbrev pub Lessens : Rules → Type 0
Lessens rules = (f cells more marks others : ℕ) → rules.Room f more others → cells ≤ more → marks ≤ others → rules.Room f cells marks

module _ (rules : Rules) (lessens : Lessens rules) (scope : Scope) (size : ℕ) (small : size ≤ most_memory) (each : IsGovernedScope rules scope) where
  abbrev Keeps : Step → Type 0
  Keeps step = KeepsRules rules scope size step

  abbrev Code : ℕ → List ValType → List ValType → List (List ValType) → ℕ → Seq → List ValType → List ValType → Type 0
  Code f locals results labels low s before after = Governed rules f (context scope locals results) labels low s before after

  -- ---- steps by what they look at

  top_keeps : (type : ValType) (types : List ValType) (values : List ℕ) (go : ℕ → List ℕ → Step) → AreOf (type ∷ types) values → ((x : ℕ) (xs : List ℕ) → IsOf type x → AreOf types xs → Keeps (go x xs)) → Keeps (on_top values go)
  top_keeps type types [] go h k = absurd h
  top_keeps type types (x ∷ xs) go h k = k x xs h.0 h.1

  two_keeps : (first second : ValType) (types : List ValType) (values : List ℕ) (go : ℕ → ℕ → List ℕ → Step) → AreOf (second ∷ first ∷ types) values →
      ((x y : ℕ) (xs : List ℕ) → IsOf first x → IsOf second y → AreOf types xs → Keeps (go x y xs)) → Keeps (on_two values go)
  two_keeps first second types [] go h k = absurd h
  two_keeps first second types (y ∷ []) go h k = absurd h.1
  two_keeps first second types (y ∷ x ∷ xs) go h k = k x y xs h.1.0 h.0 h.1.1

  there_keeps : {A : Type 0} (o : Option A) (x : A) (other : Step) (go : A → Step) → o ≡ Some x → Keeps (go x) → Keeps (if_there o other go)
  there_keeps o x other go e k = subst (λ o. Keeps (if_there o other go)) (sym e) k

  given_keeps : (o : Option ℕ) (go : ℕ → Step) → ((x : ℕ) → o ≡ Some x → Keeps (go x)) → Keeps (if_there o Traps go)
  given_keeps None go k = tt
  given_keeps (Some x) go k = k x refl

  either_keeps : (b : Bool) (p q : Step) → Keeps p → Keeps q → Keeps (if b then p else q)
  either_keeps true p q k l = k
  either_keeps false p q k l = l

  within_keeps : (b : Bool) (p : Step) → (b ≡ true → Keeps p) → Keeps (if b then p else Traps)
  within_keeps true p k = k refl
  within_keeps false p k = tt

  true_keeps : (b : Bool) (p q : Step) → b ≡ true → Keeps p → Keeps (if b then p else q)
  true_keeps b p q e k = subst (λ b. Keeps (if b then p else q)) (sym e) k

  false_keeps : (b : Bool) (p q : Step) → b ≡ false → Keeps q → Keeps (if b then p else q)
  false_keeps b p q e k = subst (λ b. Keeps (if b then p else q)) (sym e) k

  -- ---- what instructions leave as it is

  record Around (ls : List Label) (fs : List CallFrame) : Type 0 where
    number : ℕ
    locals : List ValType
    results : List ValType
    few : length results ≤ 1
    labels : List (List ValType)
    low : ℕ
    after : List ValType
    open_labels : AreGovernedLabels rules number (context scope locals results) labels ls after low
    callers : AreGovernedFrames rules scope number results fs

  abbrev vars : List ValType
  vars = map (λ var. var.ty) scope.vars

  -- locals, globals and memory have their types
  record Lies (locals : List ValType) (own globals memory : List ℕ) : Type 0 where
    own_are : AreOf locals own
    shared : AreOf vars globals
    memory_is : HasBytes size memory

  abbrev LiesIn : List ValType → State → Type 0
  LiesIn locals st = Lies locals st.locals st.globals st.memory

  go_on : (ls : List Label) (fs : List CallFrame) (a : Around ls fs) (s : Seq) (st : State) (types : List ValType) → LiesIn a.locals st → AreOf types st.values → Code a.number a.locals a.results a.labels a.low s types a.after →
      IsGoverned rules scope size (at s st ls fs)
  go_on ls fs a s st types k held typed = record {
    number = a.number;
    locals = a.locals;
    results = a.results;
    few = a.few;
    operands = types;
    held = held;
    own = k.own_are;
    shared = k.shared;
    memory = k.memory_is;
    labels = a.labels;
    low = a.low;
    after = a.after;
    typed = typed;
    open_labels = a.open_labels;
    callers = a.callers;
  }

  -- ---- control

  back_keeps : (st : State) (fs : List CallFrame) (number : ℕ) (results below : List ValType) → AreGovernedFrames rules scope number results fs → AreOf vars st.globals → HasBytes size st.memory → AreOf (reverse results ++ below) st.values → Keeps (give_back st fs)
  back_keeps st [] number results below f shared memory held = (shared, memory)
  back_keeps st (frame ∷ fs) number results below f shared memory held =
      let is = f.0 in
      let n : length (reverse results) ≡ frame.arity = length-reverse results ∙ sym is.arity in
      let taken : AreOf (reverse results) (take frame.arity st.values) = subst (λ n. AreOf (reverse results) (take n st.values)) n (front_are (reverse results) below st.values held) in
      record {
        number = is.number;
        locals = is.locals;
        results = is.results;
        few = is.few;
        operands = reverse results ++ is.below;
        held = joined (reverse results) is.below (take frame.arity st.values) frame.values taken is.held;
        own = is.own;
        shared = shared;
        memory = memory;
        labels = is.labels;
        low = is.low;
        after = is.after;
        typed = is.typed;
        open_labels = is.open_labels;
        callers = f.1;
      }

  branch_keeps : (n : ℕ) (st : State) (ls : List Label) (fs : List CallFrame) (number : ℕ) (locals results : List ValType) (labels : List (List ValType)) (low : ℕ) (after types below : List ValType) → length results ≤ 1 →
      AreGovernedLabels rules number (context scope locals results) labels ls after low → AreGovernedFrames rules scope number results fs → LiesIn locals st →
      slice_get labels n ≡ Some types → AreOf (types ++ below) st.values → rules.Room number (low + length (types ++ below)) (length labels) → Keeps (branch n st ls fs)
  branch_keeps n st [] fs number locals results [] low after types below few k f l e held room = absurd k
  branch_keeps zero st [] fs number locals results (own ∷ outer) low after types below few k f l e held room =
      let same : own ≡ types = cc in
      let one : suc (length outer) ≡ 1 = ap (λ (o : List (List ValType)). suc (length o)) k.1 in
      record {
        number = number;
        locals = locals;
        results = results;
        few = few;
        operands = types ++ below;
        held = held;
        own = l.own_are;
        shared = l.shared;
        memory = l.memory_is;
        labels = own ∷ [];
        low = low;
        after = types ++ below;
        typed = (subst (λ n. rules.Room number (low + length (types ++ below)) n) one room, refl);
        open_labels = (k.0, refl, record { below = below; had = ap (λ t. t ++ below) (sym same ∙ k.0) }, k.3);
        callers = f;
      }
  branch_keeps (suc n) st [] fs number locals results (own ∷ outer) low after types below few k f l e held room = absurd (none_there n types (sym (ap (λ o. slice_get o n) k.1) ∙ e))
  branch_keeps n st (label ∷ ls) fs number locals results [] low after types below few k f l e held room = absurd k
  branch_keeps zero st (label ∷ ls) fs number locals results (own ∷ outer) low after types below few k f l e held room =
      let same : types ≡ own = cc in
      let is = k.2 in
      let taken : AreOf own (take label.arity st.values) = subst (λ n. AreOf own (take n st.values)) is.arity (front_are own below st.values (subst (λ t. AreOf (t ++ below) st.values) same held)) in
      record {
        number = number;
        locals = locals;
        results = results;
        few = few;
        operands = own ++ is.below;
        held = joined own is.below (take label.arity st.values) label.below taken is.held;
        own = l.own_are;
        shared = l.shared;
        memory = l.memory_is;
        labels = outer;
        low = k.1;
        after = k.0;
        typed = is.target;
        open_labels = k.3;
        callers = f;
      }
  branch_keeps (suc n) st (label ∷ ls) fs number locals results (own ∷ outer) low after types below few k f l e held room =
      let over = k.2.over in
      branch_keeps n st ls fs number locals results outer k.1 k.0 types below few k.3 f l e held (lessens number _ _ _ _ room (omega arith) (omega arith))

  leave_keeps : (st : State) (ls : List Label) (fs : List CallFrame) (a : Around ls fs) (types : List ValType) → LiesIn a.locals st → AreOf types st.values → types ≡ a.after → Keeps (leave st ls fs)
  leave_keeps st ls fs a types l held e =
      by ls a.labels a.after a.low a.open_labels (subst (λ t. AreOf t st.values) e held)
    where
      by : (ls : List Label) (labels : List (List ValType)) (after : List ValType) (low : ℕ) → AreGovernedLabels rules a.number (context scope a.locals a.results) labels ls after low → AreOf after st.values → Keeps (leave st ls fs)
      by [] [] after low k held = absurd k
      by [] (own ∷ outer) after low k held = back_keeps st fs a.number a.results k.2.below a.callers l.shared l.memory_is (subst (λ t. AreOf t st.values) k.2.had held)
      by (label ∷ ls) [] after low k held = absurd k
      by (label ∷ ls) (own ∷ outer) after low k held =
          let is = k.2 in
          record {
            number = a.number;
            locals = a.locals;
            results = a.results;
            few = a.few;
            operands = after ++ is.below;
            held = joined after is.below st.values label.below held is.held;
            own = l.own_are;
            shared = l.shared;
            memory = l.memory_is;
            labels = outer;
            low = k.1;
            after = k.0;
            typed = is.rest;
            open_labels = k.3;
            callers = a.callers;
          }

  call_keeps : (n : ℕ) (s : Seq) (st : State) (ls : List Label) (fs : List CallFrame) (a : Around ls fs) (before between : List ValType) (type : FuncType) → LiesIn a.locals st → AreOf before st.values → Permits rules a.number (instr.Call n) →
      slice_get scope.types n ≡ Some type → Takes (reverse type.params) (reverse type.results) before between → Code a.number a.locals a.results a.labels a.low s between a.after → Keeps (call scope.funcs n s st ls fs)
  call_keeps zero s st ls fs a before between type l held may e t typed =
      let same : type ≡ emit_type = cc (e, each.emit) in
      let had : before ≡ I32 ∷ t.below = t.had ∙ ap (λ (type : FuncType). reverse type.params ++ t.below) same in
      let has : between ≡ t.below = t.has ∙ ap (λ (type : FuncType). reverse type.results ++ t.below) same in
      top_keeps I32 t.below st.values _ (subst (λ b. AreOf b st.values) had held)
      (λ x xs is are. go_on ls fs a s (with_values st xs) between l (subst (λ b. AreOf b xs) (sym has) are) typed)
  call_keeps (suc n) s st ls fs a before between type l held may e t typed =
      let g = each.own n type e in
      let f = g.0 in
      let is = g.2 in
      let values : AreOf (reverse type.params ++ t.below) st.values = subst (λ b. AreOf b st.values) t.had held in
      let params : length (reverse type.params) ≡ f.params = length-reverse type.params ∙ sym is.params in
      let many = same_length (reverse type.params ++ t.below) st.values values in
      let all = length-append (reverse type.params) t.below in
      let first : AreOf (reverse type.params) (take f.params st.values) = subst (λ n. AreOf (reverse type.params) (take n st.values)) params (front_are (reverse type.params) t.below st.values values) in
      let turned : AreOf type.params (reverse (take f.params st.values)) = subst (λ l. AreOf l (reverse (take f.params st.values))) (reverse-reverse type.params) (reversed (reverse type.params) (take f.params st.values) first) in
      let zeros : AreOf is.declared (replicate f.locals 0) = subst (λ n. AreOf is.declared (replicate n 0)) (sym is.locals) (zeros_are is.declared) in
      there_keeps (slice_get scope.funcs n) f Sticks (λ f. enter_function f s st ls fs) g.1
      (false_keeps (nat_lt (length st.values) f.params) Sticks _ (le-ltb (length st.values) f.params (omega arith))
      (record {
        number = suc n;
        locals = type.params ++ is.declared;
        results = type.results;
        few = is.few;
        operands = [];
        held = tt;
        own = joined type.params is.declared (reverse (take f.params st.values)) (replicate f.locals 0) turned zeros;
        shared = l.shared;
        memory = l.memory_is;
        labels = reverse type.results ∷ [];
        low = length (type.params ++ is.declared);
        after = reverse type.results;
        typed = is.typed;
        open_labels = (refl, refl, record { below = []; had = sym (append-nil (reverse type.results)) }, refl);
        callers = (
          record {
            number = a.number;
            calls = may;
            locals = a.locals;
            results = a.results;
            few = a.few;
            arity = is.results;
            below = t.below;
            held = subst (λ n. AreOf t.below (drop n st.values)) params (back_are (reverse type.params) t.below st.values values);
            own = l.own_are;
            labels = a.labels;
            low = a.low;
            after = a.after;
            typed = subst (λ b. Code a.number a.locals a.results a.labels a.low s b a.after) t.has typed;
            open_labels = a.open_labels;
          },
          a.callers,
        );
      }))

  -- ---- instructions

  write_keeps : (memory bytes : List ℕ) (address : ℕ) → AllByRecursion (λ byte. byte < 256) bytes → address + length bytes ≤ length memory → HasBytes size memory → HasBytes size (write_bytes memory address bytes)
  write_keeps memory bytes address are w h = record {
    length_is = length-write_bytes memory address bytes w ∙ h.length_is;
    bytes = bytes_append (take address memory) (bytes ++ drop (address + length bytes) memory) (bytes_take address memory h.bytes)
        (bytes_append bytes (drop (address + length bytes) memory) are (bytes_drop (address + length bytes) memory h.bytes));
  }

  global_type : (x : ℕ) (var : GlobalVar) → slice_get scope.vars x ≡ Some var → slice_get vars x ≡ Some var.ty
  global_type x var e = slice_get-map (λ (var : GlobalVar). var.ty) scope.vars x ∙ ap (option_map (λ (var : GlobalVar). var.ty)) e

  module _ (next : State → Step) (s : Seq) (ls : List Label) (fs : List CallFrame) (a : Around ls fs) (after_constant : (st : State) → IsGoverned rules scope size (at s st ls fs) → Keeps (next st)) where
    abbrev Rest : List ValType → Type 0
    Rest types = Code a.number a.locals a.results a.labels a.low s types a.after

    -- operands are replaced by others
    replaced : (outs : List ValType) (below : List ValType) (between : List ValType) (st : State) → LiesIn a.locals st → between ≡ outs ++ below → AreOf (outs ++ below) st.values → Rest between → IsGoverned rules scope size (at s st ls fs)
    replaced outs below between st l e are typed = go_on ls fs a s st (outs ++ below) l are (subst Rest e typed)

    branches : (n : ℕ) (st : State) (types below : List ValType) → LiesIn a.locals st → slice_get a.labels n ≡ Some types → AreOf (types ++ below) st.values → rules.Room a.number (a.low + length (types ++ below)) (length a.labels) → Keeps (branch n st ls fs)
    branches n st types below l e held room = branch_keeps n st ls fs a.number a.locals a.results a.labels a.low a.after types below a.few a.open_labels a.callers l e held room

    -- the room without the operand that is looked at
    less : (before types : List ValType) → before ≡ I32 ∷ types → rules.Room a.number (a.low + length before) (length a.labels) → rules.Room a.number (a.low + length types) (length a.labels)
    less before types e room = let n = ap (λ (l : List ValType). length l) e in lessens a.number _ _ _ _ room (omega arith) (omega arith)

    one_keeps : (type out : ValType) (before between : List ValType) (st : State) (f : ℕ → ℕ) → LiesIn a.locals st → AreOf before st.values → Takes (type ∷ []) (out ∷ []) before between → Rest between → ((x : ℕ) → IsOf type x → IsOf out (f x)) →
        Keeps (on_top st.values (λ x xs. To (at s (with_values st (f x ∷ xs)) ls fs)))
    one_keeps type out before between st f l held t typed fits =
        top_keeps type t.below st.values _ (subst (λ b. AreOf b st.values) t.had held)
        (λ x xs is are. replaced (out ∷ []) t.below between (with_values st (f x ∷ xs)) l t.has (fits x is, are) typed)

    pushed_keeps : (out : ValType) (before between : List ValType) (st : State) (x : ℕ) → LiesIn a.locals st → AreOf before st.values → Takes [] (out ∷ []) before between → Rest between → IsOf out x → IsGoverned rules scope size (at s (push x st) ls fs)
    pushed_keeps out before between st x l held t typed fits =
        replaced (out ∷ []) t.below between (push x st) l t.has (fits, subst (λ b. AreOf b st.values) t.had held) typed

    plain_keeps : (i : Instr) (st : State) (before : List ValType) → LiesIn a.locals st → AreOf before st.values → Code a.number a.locals a.results a.labels a.low (Plain i s) before a.after → Keeps (plain scope.funcs next i s st ls fs)
    unfolding plain
    plain_keeps instr.Unreachable st before l held g = tt
    plain_keeps instr.Nop st before l held g =
        let t = g.2.1 in replaced [] t.below g.2.0 st l t.has (subst (λ b. AreOf b st.values) t.had held) g.2.2
    plain_keeps (instr.Br n) st before l held g =
        let t = g.2.1 in
        branches n st t.0 t.2.below l t.1 (subst (λ b. AreOf b st.values) t.2.had held) (subst (λ (b : List ValType). rules.Room a.number (a.low + length b) (length a.labels)) t.2.had g.0)
    plain_keeps (instr.BrIf n) st before l held g =
        let t = g.2.1 in
        top_keeps I32 (t.0 ++ t.2.below) st.values _ (subst (λ b. AreOf b st.values) t.2.had held)
        (λ x xs is are. either_keeps (x == 0) _ _ (replaced t.0 t.2.below g.2.0 (with_values st xs) l t.2.has are g.2.2)
        (branches n (with_values st xs) t.0 t.2.below l t.1 are (less before (t.0 ++ t.2.below) t.2.had g.0)))
    plain_keeps (instr.BrTable table) st before l held g =
        let t = g.2.1 in
        top_keeps I32 (t.0 ++ t.3.below) st.values _ (subst (λ b. AreOf b st.values) t.3.had held)
        (λ x xs is are. branches (unwrap_or (slice_get table.labels x) table.other) (with_values st xs) t.0 t.3.below l
        (all_at (λ label. slice_get a.labels label ≡ Some t.0) table.labels x table.other t.2 t.1) are (less before (t.0 ++ t.3.below) t.3.had g.0))
    plain_keeps instr.Return st before l held g =
        let t = g.2.1 in back_keeps st fs a.number a.results t.below a.callers l.shared l.memory_is (subst (λ b. AreOf b st.values) t.had held)
    plain_keeps (instr.Call n) st before l held g =
        let t = g.2.1 in call_keeps n s st ls fs a before g.2.0 t.0 l held g.1 t.1 t.2 g.2.2
    plain_keeps instr.Drop st before l held g =
        let t = g.2.1 in
        top_keeps t.0 t.1.below st.values _ (subst (λ b. AreOf b st.values) t.1.had held) (λ x xs is are. replaced [] t.1.below g.2.0 (with_values st xs) l t.1.has are g.2.2)
    plain_keeps instr.Select st before l held g =
        let t = g.2.1 in
        top_keeps I32 (t.0 ∷ t.0 ∷ t.1.below) st.values _ (subst (λ b. AreOf b st.values) t.1.had held)
        (λ c xs c_is c_are. two_keeps t.0 t.0 t.1.below xs _ c_are
        (λ x y ys x_is y_is are. replaced (t.0 ∷ []) t.1.below g.2.0 (with_values st ((if c == 0 then y else x) ∷ ys)) l t.1.has (picked t.0 (c == 0) x y x_is y_is, are) g.2.2))
      where
        picked : (type : ValType) (b : Bool) (x y : ℕ) → IsOf type x → IsOf type y → IsOf type (if b then y else x)
        picked type true x y f g = g
        picked type false x y f g = f
    plain_keeps (instr.LocalGet n) st before l held g =
        let t = g.2.1 in let v = one_at a.locals st.locals n t.0 l.own_are t.1 in
        there_keeps (slice_get st.locals n) v.0 Sticks (λ x. To (at s (push x st) ls fs)) v.1 (pushed_keeps t.0 before g.2.0 st v.0 l held t.2 g.2.2 v.2)
    plain_keeps (instr.LocalSet n) st before l held g =
        let t = g.2.1 in let v = one_at a.locals st.locals n t.0 l.own_are t.1 in
        top_keeps t.0 t.2.below st.values _ (subst (λ b. AreOf b st.values) t.2.had held)
        (λ x xs is are. true_keeps (nat_lt n (length st.locals)) _ _ (lt-ltb n (length st.locals) v.3)
        (replaced [] t.2.below g.2.0 (record st { values = xs; locals = slice_set st.locals n x })
        (record { own_are = set_at a.locals st.locals n x t.0 l.own_are t.1 is; shared = l.shared; memory_is = l.memory_is }) t.2.has are g.2.2))
    plain_keeps (instr.LocalTee n) st before l held g =
        let t = g.2.1 in let v = one_at a.locals st.locals n t.0 l.own_are t.1 in
        let whole = subst (λ b. AreOf b st.values) t.2.had held in
        top_keeps t.0 t.2.below st.values _ whole
        (λ x xs is are. true_keeps (nat_lt n (length st.locals)) _ _ (lt-ltb n (length st.locals) v.3)
        (replaced (t.0 ∷ []) t.2.below g.2.0 (record st { locals = slice_set st.locals n x })
        (record { own_are = set_at a.locals st.locals n x t.0 l.own_are t.1 is; shared = l.shared; memory_is = l.memory_is }) t.2.has whole g.2.2))
    plain_keeps (instr.GlobalGet n) st before l held g =
        let t = g.2.1 in let v = one_at vars st.globals n t.0.ty l.shared (global_type n t.0 t.1) in
        there_keeps (slice_get st.globals n) v.0 Sticks (λ x. To (at s (push x st) ls fs)) v.1 (pushed_keeps t.0.ty before g.2.0 st v.0 l held t.2 g.2.2 v.2)
    plain_keeps (instr.GlobalSet n) st before l held g =
        let t = g.2.1 in let v = one_at vars st.globals n t.0.ty l.shared (global_type n t.0 t.1) in
        top_keeps t.0.ty t.3.below st.values _ (subst (λ b. AreOf b st.values) t.3.had held)
        (λ x xs is are. true_keeps (nat_lt n (length st.globals)) _ _ (lt-ltb n (length st.globals) v.3)
        (replaced [] t.3.below g.2.0 (record st { values = xs; globals = slice_set st.globals n x })
        (record { own_are = l.own_are; shared = set_at vars st.globals n x t.0.ty l.shared (global_type n t.0 t.1) is; memory_is = l.memory_is }) t.3.has are g.2.2))
    plain_keeps (instr.Load op place) st before l held g =
        let t = g.2.1.1 in
        top_keeps I32 t.below st.values _ (subst (λ b. AreOf b st.values) t.had held)
        (λ x xs is are. within_keeps (nat_le (x + place.offset + load_size op) (length st.memory)) _
        (λ w. replaced (load_type op ∷ []) t.below g.2.0 (with_values st (loaded op (take (load_size op) (drop (x + place.offset) st.memory)) ∷ xs)) l t.has
        (loaded_is op (take (load_size op) (drop (x + place.offset) st.memory)) (bytes_take (load_size op) (drop (x + place.offset) st.memory) (bytes_drop (x + place.offset) st.memory l.memory_is.bytes)), are) g.2.2))
    plain_keeps (instr.Store op place) st before l held g =
        let t = g.2.1.1 in
        two_keeps I32 (store_type op) t.below st.values _ (subst (λ b. AreOf b st.values) t.had held)
        (λ x y xs x_is y_is are. within_keeps (nat_le (x + place.offset + store_size op) (length st.memory)) _
        (λ w. replaced [] t.below g.2.0 (record st { values = xs; memory = write_bytes st.memory (x + place.offset) (stored op y) })
        (record {
          own_are = l.own_are;
          shared = l.shared;
          memory_is = write_keeps st.memory (stored op y) (x + place.offset) (stored_are op y) (subst (λ n. x + place.offset + n ≤ length st.memory) (sym (length-stored op y)) (leb-true _ _ w)) l.memory_is;
        }) t.has are g.2.2))
    plain_keeps instr.MemorySize st before l held g =
        let n = l.memory_is.length_is in
        let z = length st.memory / page_size in
        let f : z < 2 ^ 32 = omega arith in
        pushed_keeps I32 before g.2.0 st z l held g.2.1 g.2.2 f
    plain_keeps (instr.I32Const value) st before l held g =
        after_constant (push (cast_unsigned w32 value) st) (pushed_keeps I32 before g.2.0 st (cast_unsigned w32 value) l held g.2.1 g.2.2 g.1)
    plain_keeps (instr.I64Const value) st before l held g =
        after_constant (push (cast_unsigned w64 value) st) (pushed_keeps I64 before g.2.0 st (cast_unsigned w64 value) l held g.2.1 g.2.2 g.1)
    plain_keeps (instr.Test type) st before l held g = one_keeps type I32 before g.2.0 st (λ x. test_of x) l held g.2.1 g.2.2 (λ x is. test_is x)
    plain_keeps (instr.Compare type op) st before l held g =
        let t = g.2.1 in
        two_keeps type type t.below st.values _ (subst (λ b. AreOf b st.values) t.had held)
        (λ x y xs x_is y_is are. replaced (I32 ∷ []) t.below g.2.0 (with_values st (compare_of (width type) op x y ∷ xs)) l t.has (compare_is (width type) op x y, are) g.2.2)
    plain_keeps (instr.Unary type op) st before l held g = one_keeps type type before g.2.0 st (λ x. unary_of (width type) op x) l held g.2.1 g.2.2 (λ x is. unary_is type op x is)
    plain_keeps (instr.Binary type op) st before l held g =
        let t = g.2.1 in
        two_keeps type type t.below st.values _ (subst (λ b. AreOf b st.values) t.had held)
        (λ x y xs x_is y_is are. given_keeps (binary_of (width type) op x y) _
        (λ z e. replaced (type ∷ []) t.below g.2.0 (with_values st (z ∷ xs)) l t.has (binary_is type op x y z x_is y_is e, are) g.2.2))
    plain_keeps (instr.Convert op) st before l held g = one_keeps (convert_from op) (convert_to op) before g.2.0 st (λ x. convert_of op x) l held g.2.1 g.2.2 (λ x is. convert_is op x is)
    plain_keeps (instr.Block result) st before l held g = absurd g.2.1
    plain_keeps (instr.Loop result) st before l held g = absurd g.2.1
    plain_keeps (instr.If result) st before l held g = absurd g.2.1
    plain_keeps instr.Else st before l held g = absurd g.2.1
    plain_keeps instr.End st before l held g = absurd g.2.1

  -- ---- sequences

  abbrev around : (c : Config) → IsGoverned rules scope size c → Around c.labels c.frames
  around c o = record { number = o.number; locals = o.locals; results = o.results; few = o.few; labels = o.labels; low = o.low; after = o.after; open_labels = o.open_labels; callers = o.callers }

  abbrev lies : (c : Config) (o : IsGoverned rules scope size c) → LiesIn o.locals c.state
  lies c o = record { own_are = o.own; shared = o.shared; memory_is = o.memory }

  -- a sequence is entered under a label that takes these types along
  enter_keeps : (types : List ValType) (arity : ℕ) (target body s : Seq) (st : State) (below_values : List ℕ) (ls : List Label) (fs : List CallFrame) (a : Around ls fs) (ends below : List ValType) → LiesIn a.locals st →
      AreOf below below_values → length types ≡ arity → length types ≤ 1 →
      Code a.number a.locals a.results (types ∷ a.labels) (a.low + length below) body [] ends → Code a.number a.locals a.results a.labels a.low s (ends ++ below) a.after →
      Code a.number a.locals a.results a.labels a.low target (types ++ below) a.after → Keeps (enter arity target body s st below_values ls fs)
  enter_keeps types arity target body s st below_values ls fs a ends below l held n few inner rest again = record {
    number = a.number;
    locals = a.locals;
    results = a.results;
    few = a.few;
    operands = [];
    held = tt;
    own = l.own_are;
    shared = l.shared;
    memory = l.memory_is;
    labels = types ∷ a.labels;
    low = a.low + length below;
    after = ends;
    typed = inner;
    open_labels = (a.after, a.low, record { below = below; held = held; arity = n; few = few; over = refl; rest = rest; target = again }, a.open_labels);
    callers = a.callers;
  }

  result_count : (result : Option ValType) → length (result_types result) ≡ arity_of result
  result_count None = refl
  result_count (Some type) = refl

  result_few : (result : Option ValType) → length (result_types result) ≤ 1
  result_few None = omega arith
  result_few (Some type) = omega arith

  pub act_keeps : (s : Seq) (st : State) (ls : List Label) (fs : List CallFrame) → IsGoverned rules scope size (at s st ls fs) → Keeps (act scope.funcs s st ls fs)
  unfolding act
  act_keeps Nil st ls fs o = leave_keeps st ls fs (around (at Nil st ls fs) o) o.operands (lies (at Nil st ls fs) o) o.held o.typed.1
  act_keeps (Plain i s) st ls fs o =
      plain_keeps (λ next. act scope.funcs s next ls fs) s ls fs (around (at (Plain i s) st ls fs) o) (λ st' g. act_keeps s st' ls fs g) i st o.operands (lies (at (Plain i s) st ls fs) o) o.held o.typed
  act_keeps (InBlock result body s) st ls fs o =
      let c = at (InBlock result body s) st ls fs in
      enter_keeps (result_types result) (arity_of result) s body s st st.values ls fs (around c o) (result_types result) o.operands (lies c o) o.held (result_count result) (result_few result) o.typed.1 o.typed.2 o.typed.2
  act_keeps (InLoop result body s) st ls fs o =
      let c = at (InLoop result body s) st ls fs in
      enter_keeps [] 0 (InLoop result body s) body s st st.values ls fs (around c o) (result_types result) o.operands (lies c o) o.held refl (omega arith) o.typed.1 o.typed.2 o.typed
  act_keeps (InIf result first second s) st ls fs o =
      let c = at (InIf result first second s) st ls fs in
      let t = o.typed.1 in
      top_keeps I32 t.0 st.values _ (subst (λ b. AreOf b st.values) t.1 o.held)
      (λ x xs is are. either_keeps (x == 0) _ _
      (enter_keeps (result_types result) (arity_of result) s second s st xs ls fs (around c o) (result_types result) t.0 (lies c o) are (result_count result) (result_few result) t.3 t.4 t.4)
      (enter_keeps (result_types result) (arity_of result) s first s st xs ls fs (around c o) (result_types result) t.0 (lies c o) are (result_count result) (result_few result) t.2 t.4 t.4))

  -- preservation and progress
  pub reduce_keeps : (c : Config) → IsGoverned rules scope size c → Keeps (reduce scope.funcs c)
  reduce_keeps c o = act_keeps c.code c.state c.labels c.frames o
