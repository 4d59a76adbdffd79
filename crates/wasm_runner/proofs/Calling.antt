-- A call of one of the module's own functions.
use Rattle.std.proofs.Common.{◌≡◌, ℕ, zero, suc, ◌+◌, ◌-◌, ◌<◌, ◌≤◌, List, [], ◌∷◌, ◌++◌, length, take, drop, Some, refl, sym, ap, ◌∙◌, subst, arith, append_assoc, length-append, length-drop, get_or}
use Rattle.std.proofs.lemmas.Option.{slice_get_within, slice_get-get_or}
use Rattle.std.specs.Prelude.{slice_get, slice_set, reverse, replicate, if◌then◌else◌}
use Rattle.std.proofs.lemmas.List.{length-set, drop-set, drop-drop, length-reverse, reverse-append, reverse-reverse, length-replicate}
use Rattle.std.proofs.lemmas.Bool.{le-ltb}
use Rattle.wasm_tree.specs.declared.module.ValType.{ValType}
use Rattle.wasm_tree.specs.declared.module.FuncType.{FuncType}
use Rattle.wasm_tree.specs.declared.module.FuncBody.{FuncBody}
use Rattle.wasm_tree.specs.declared.instr.Instr.{Instr}
use Rattle.wasm_tree.specs.declared.instr.Instr.TheVariants as instr
use Rattle.wasm_tree.specs.Cells.{cells_below}
use Rattle.wasm_tree.specs.Reduce.{Plain, Func, State, CallFrame, Config, To, Sticks, at, if_there, enter_function, act, plain}
use Rattle.wasm_tree.specs.Typed.{Takes, Typed}
use Rattle.wasm_steps.specs.Steps.{reduce}
use Rattle.wasm_sound.specs.Kinds.{AreOf}
use Rattle.wasm_sound.specs.Sound.{Scope, IsFunc, IsSound, context}
use Rattle.wasm_runner.specs.declared.function.Function.{Function}
use Rattle.wasm_runner.specs.declared.place.Caller.{Caller}
use Rattle.wasm_runner.specs.declared.calls.Activation.{Activation}
use Rattle.wasm_runner.specs.Jumps.{Stands}
use Rattle.wasm_runner.specs.Standing.{Stacks, IsAt, Shows, HasRoom, IsWithin, held, below_of, waiting, AreCallers, IsCaller, cells_of_frames}
use Rattle.wasm_runner.specs.Activations.{IsProgram, IsPrepared, IsCalling, Enters}
use Rattle.wasm_runner.proofs.Going as G
use Rattle.wasm_runner.proofs.Holding.{held_count, held_within, frames_more, blocks_more}
use Rattle.wasm_runner.proofs.Typing.{Split, split, same_length, front_is, back_is, joined, zeros_are}

-- ---- lists turned round

pub turned : (types : List ValType) (values : List ℕ) → AreOf types values → AreOf (reverse types) (reverse values)
turned [] [] h = tt
turned [] (x ∷ xs) h = absurd h
turned (t ∷ ts) [] h = absurd h
turned (t ∷ ts) (x ∷ xs) h =
    let r = joined (reverse ts) (t ∷ []) (reverse xs) (x ∷ []) (turned ts xs h.1) (h.0, tt) in
    subst (λ l. AreOf l (reverse (x ∷ xs))) (sym (reverse-append (t ∷ []) ts)) (subst (AreOf (reverse ts ++ t ∷ [])) (sym (reverse-append (x ∷ []) xs)) r)

pub arguments_are : (types : List ValType) (values : List ℕ) → AreOf (reverse types) values → AreOf types (reverse values)
arguments_are types values h = subst (λ l. AreOf l (reverse values)) (reverse-reverse types) (turned (reverse types) values h)

one_more : (n x : ℕ) → replicate n x ++ x ∷ [] ≡ replicate (suc n) x
one_more zero x = refl
one_more (suc n) x = ap (λ l. x ∷ l) (one_more n x)

same_turned : (n x : ℕ) → reverse (replicate n x) ≡ replicate n x
same_turned zero x = refl
same_turned (suc n) x = reverse-append (x ∷ []) (replicate n x) ∙ ap (λ l. l ++ x ∷ []) (same_turned n x) ∙ one_more n x

-- the locals of a called function as cells: its further locals, and then its arguments, the last one first
pub locals_turned : (front : List ℕ) (n : ℕ) → reverse (reverse front ++ replicate n 0) ≡ replicate n 0 ++ front
locals_turned front n = reverse-append (reverse front) (replicate n 0) ∙ ap (λ l. l ++ reverse (reverse front)) (same_turned n 0) ∙ ap (λ l. replicate n 0 ++ l) (reverse-reverse front)

-- a function that was read
pub function_here : (functions : List Function) (n : ℕ) (r : Function) → n < length functions → r ≡ get_or functions n r → slice_get functions n ≡ Some r
function_here functions n r h e = slice_get-get_or functions n r h ∙ ap Some (sym e)

-- ---- calls

module _ (scope : Scope) (codes : List FuncBody) (functions : List Function) (p : IsProgram scope codes functions) (s : Stacks) (now : Activation) (n : ℕ) (c : Config) (a : IsCalling scope codes s now (suc n) c) where
  abbrev st : State
  st = c.state

  abbrev is : IsAt scope codes a.active.body.code s now.depth now.place c
  is = a.active.is

  abbrev i : Instr
  i = instr.Call (suc n)

  pub h : G.Here scope codes a.active.body.code s now.depth now.place c is i
  h = G.here scope codes a.active.body.code s now.depth now.place c is i a.there tt

  abbrev type : FuncType
  type = h.sound.typed.1.0

  pub takes : Takes (reverse type.params) (reverse type.results) h.sound.operands h.sound.typed.0
  takes = h.sound.typed.1.2

  pub own : (f : Func) × (slice_get scope.funcs n ≡ Some f) × IsFunc scope type f
  own = p.is.own n type h.sound.typed.1.1

  abbrev f : Func
  f = own.0

  pub prepared : (body : FuncBody) × (function : Function) × (slice_get codes n ≡ Some body) × (slice_get functions n ≡ Some function) × IsPrepared body f function
  prepared = p.own n f own.1

  pub given : Split (reverse type.params) takes.below st.values
  given = split (reverse type.params) takes.below st.values (subst (λ l. AreOf l st.values) takes.had h.sound.held)

  abbrev front : List ℕ
  front = given.front

  abbrev back : List ℕ
  back = given.back

  front_count : length front ≡ f.params
  front_count = same_length (reverse type.params) front given.ins_are ∙ length-reverse type.params ∙ sym own.2.params

  params_are : length (reverse type.params) ≡ f.params
  params_are = length-reverse type.params ∙ sym own.2.params

  front_taken : take f.params st.values ≡ front
  front_taken = ap (λ k. take k st.values) (sym params_are) ∙ ap (take (length (reverse type.params))) given.is ∙ front_is (reverse type.params) front back given.ins_are

  back_dropped : drop f.params st.values ≡ back
  back_dropped = ap (λ k. drop k st.values) (sym params_are) ∙ ap (drop (length (reverse type.params))) given.is ∙ back_is (reverse type.params) front back given.ins_are

  enough : f.params ≤ length st.values
  enough = let e = ap length given.is in let m = length-append front back in let k = front_count in omega arith

  abbrev entered : (front back : List ℕ) → Config
  entered front back =
      at f.body (record { values = []; locals = reverse front ++ replicate f.locals 0; globals = st.globals; memory = st.memory }) []
      (record { arity = f.results; rest = h.rest; values = back; locals = st.locals; labels = c.labels } ∷ c.frames)

  abbrev d : Config
  d = entered front back

  abbrev frame : CallFrame
  frame = record { arity = f.results; rest = h.rest; values = back; locals = st.locals; labels = c.labels }

  calls_it : act scope.funcs (Plain i h.rest) st c.labels c.frames ≡ if_there (slice_get scope.funcs n) Sticks (λ f. enter_function f h.rest st c.labels c.frames)
  unfolding act plain
  calls_it = refl

  pub reduces : reduce scope.funcs c ≡ To d
  reduces =
      G.now scope codes a.active.body.code s now.depth now.place c is (Plain i h.rest) h.is
      ∙ calls_it
      ∙ ap (λ o. if_there o Sticks (λ f. enter_function f h.rest st c.labels c.frames)) own.1
      ∙ ap (λ b. if b then Sticks else To (entered (take f.params st.values) (drop f.params st.values))) (le-ltb (length st.values) f.params enough)
      ∙ ap (λ l. To (entered l (drop f.params st.values))) front_taken
      ∙ ap (λ l. To (entered front l)) back_dropped

  sound : IsSound scope d
  sound =
      record {
        locals = type.params ++ own.2.declared;
        results = type.results;
        few = own.2.few;
        operands = [];
        held = tt;
        own = joined type.params own.2.declared (reverse front) (replicate f.locals 0) (arguments_are type.params front given.ins_are)
            (subst (λ k. AreOf own.2.declared (replicate k 0)) (sym own.2.locals) (zeros_are own.2.declared));
        shared = h.sound.shared;
        memory = h.sound.memory;
        labels = reverse type.results ∷ [];
        after = reverse type.results;
        typed = own.2.typed;
        open_labels = (refl, refl, refl);
        callers = (
          record {
            locals = h.sound.locals;
            results = h.sound.results;
            few = h.sound.few;
            arity = own.2.results;
            below = takes.below;
            held = given.below_are;
            own = h.sound.own;
            labels = h.sound.labels;
            after = h.sound.after;
            typed = subst (λ l. Typed (context scope h.sound.locals h.sound.results) h.sound.labels h.rest l h.sound.after) takes.has h.sound.typed.2;
            open_labels = h.sound.open_labels;
          },
          h.sound.callers,
        );
      }

  room : HasRoom scope.funcs (length s.cells) (length s.blocks) (length s.callers) d
  room = G.room_after scope.funcs (length s.cells) (length s.blocks) (length s.callers) c d is.room reduces

  within : IsWithin (length s.cells) (length s.blocks) (length s.callers) d
  within = G.room_now scope.funcs (length s.cells) (length s.blocks) (length s.callers) d room

  -- ---- counts

  new_locals : length d.state.locals ≡ f.params + f.locals
  new_locals =
      let zeros : List ℕ = replicate f.locals 0 in
      let a1 = length-append (reverse front) zeros in let a2 = length-reverse front in let a3 : length zeros ≡ f.locals = length-replicate f.locals 0 in let a4 = front_count in
      omega arith

  abbrev frame_cells : ℕ
  frame_cells = length st.locals + length back + cells_below c.labels

  frames_now : cells_of_frames (frame ∷ c.frames) ≡ frame_cells + cells_of_frames c.frames
  frames_now = frames_more frame c.frames

  -- the cells past the new locals
  pub base_now : now.place.sp + f.params + cells_of_frames (frame ∷ c.frames) ≡ length s.cells
  base_now =
      let a1 = held_count c in let a2 = is.shows.sp_is in let a3 = ap length given.is in let a4 = length-append front back in let a5 = front_count in
      let a6 = frames_now in
      omega arith

  pub room_for_locals : f.locals ≤ now.place.sp
  room_for_locals =
      let a1 = held_within d (length s.cells) within.cells_fit in let a2 = held_count d in let a3 = new_locals in let a4 = base_now in
      let a5 : length d.state.values ≡ 0 = refl in let a6 : cells_below d.labels ≡ 0 = refl in
      omega arith

  pub mark_there : (0 < now.depth) × (now.depth ≤ length s.callers)
  mark_there =
      let a1 = within.callers_fit in let a2 = is.shows.depth_is in let a3 : length d.frames ≡ suc (length c.frames) = refl in
      (omega arith, omega arith)

  pub operands_there : (now.place.sp ≤ length s.cells) × (now.place.sp + f.params ≤ length s.cells)
  operands_there = let a1 = base_now in (omega arith, omega arith)

  pub number_there : n < length functions
  number_there = slice_get_within functions n prepared.1 prepared.3

  -- ---- the stacks after the call

  module _ (function : Function) (e : slice_get functions n ≡ Some function) where
    abbrev mark : Caller
    mark = record { function = now.function; back = now.place.at + 1; base = now.place.base; floor = now.place.floor; arity = function.results }

    same_function : function ≡ prepared.1
    same_function = let g : Some function ≡ Some prepared.1 = sym e ∙ prepared.3 in cc

    pub is_prepared : IsPrepared prepared.0 f function
    is_prepared = subst (IsPrepared prepared.0 f) (sym same_function) prepared.4

    pub locals_there : function.locals ≤ now.place.sp
    locals_there = let a = is_prepared.locals in let b = room_for_locals in omega arith

    pub params_there : now.place.sp + function.params ≤ length s.cells
    params_there = let a = is_prepared.params in let b = operands_there.1 in omega arith

    module _ (cells : List ℕ) (callers : List Caller) (to : Activation) where
      abbrev others : List ℕ
      others = below_of c.labels ++ (reverse st.locals ++ waiting c.frames)

      abbrev arrived : Activation
      arrived =
          record { function = n; place = record { at = 0; sp = now.place.sp - function.locals; lp = now.place.lp; base = now.place.sp + function.params; floor = now.place.lp }; depth = now.depth - 1 }

      holds_now : drop (now.place.sp - function.locals) cells ≡ replicate function.locals 0 ++ drop (now.place.sp - function.locals + function.locals) s.cells → drop (now.place.sp - function.locals) cells ≡ held d
      holds_now z =
          let up : now.place.sp - function.locals + function.locals ≡ now.place.sp = let h = locals_there in omega arith in
          z
          ∙ ap (λ k. replicate function.locals 0 ++ drop k s.cells) up
          ∙ ap (λ k. replicate k 0 ++ drop now.place.sp s.cells) is_prepared.locals
          ∙ ap (λ l. replicate f.locals 0 ++ l) (is.shows.holds ∙ ap (λ l. l ++ others) given.is ∙ append_assoc front back others)
          ∙ sym (append_assoc (replicate f.locals 0) front (back ++ others))
          ∙ ap (λ l. l ++ (back ++ others)) (sym (locals_turned front f.locals))

      waits_now : callers ≡ slice_set s.callers (now.depth - 1) mark → AreCallers (length s.cells) codes now.place.lp (drop now.place.lp s.blocks) (drop (now.depth - 1) callers) (frame ∷ c.frames)
      waits_now w =
          let m = mark_there in
          let low : now.depth - 1 < length s.callers = let m0 = m.0 in let m1 = m.1 in omega arith in
          let up : now.depth - 1 + 1 ≡ now.depth = let m0 = m.0 in omega arith in
          let marks : drop (now.depth - 1) callers ≡ mark ∷ drop now.depth s.callers = ap (drop (now.depth - 1)) w ∙ drop-set s.callers (now.depth - 1) mark low ∙ ap (λ k. mark ∷ drop k s.callers) up in
          let floors : drop now.place.floor s.blocks ≡ drop (length c.labels) (drop now.place.lp s.blocks) = ap (λ k. drop k s.blocks) (sym is.shows.floor_is) ∙ sym (drop-drop (length c.labels) now.place.lp s.blocks) in
          let first : IsCaller (length s.cells) codes now.place.lp (drop now.place.lp s.blocks) mark frame c.frames =
          record { body = a.active.body; found = a.active.found; arity = is_prepared.results; leads = h.stands; base = is.shows.base_is; floor_is = is.shows.floor_is; open_blocks = is.shows.blocks_are } in
          subst (λ l. AreCallers (length s.cells) codes now.place.lp (drop now.place.lp s.blocks) l (frame ∷ c.frames)) (sym marks)
          (first, subst (λ l. AreCallers (length s.cells) codes now.place.floor l (drop now.depth s.callers) c.frames) floors is.shows.callers_are)

      abbrev after : Stacks
      after = record { cells = cells; blocks = s.blocks; callers = callers; globals = s.globals; memory = s.memory }

      shows_now : callers ≡ slice_set s.callers (now.depth - 1) mark → drop (now.place.sp - function.locals) cells ≡ replicate function.locals 0 ++ drop (now.place.sp - function.locals + function.locals) s.cells → length cells ≡ length s.cells →
          Shows codes prepared.0.code after arrived.depth arrived.place d
      shows_now w z long =
          let hold = holds_now z in
          let l1 = ap length hold in let l2 = length-drop (now.place.sp - function.locals) cells in let l3 = operands_there in let l4 = l3.0 in
          let m0 = mark_there.0 in let d1 = is.shows.depth_is in
          let c1 = ap length w ∙ length-set s.callers (now.depth - 1) mark in
          let b1 = blocks_more frame c.frames in let b2 = is.shows.floor_is in let b3 = is.shows.lp_is in
          let n1 : length d.frames ≡ suc (length c.frames) = refl in
          record {
            stands = subst (λ l. Stands (f.body ∷ []) l) (sym is_prepared.spells) (refl, (refl, tt));
            holds = hold;
            sp_is = omega arith;
            base_is = ap (λ k. now.place.sp + k + cells_of_frames (frame ∷ c.frames)) is_prepared.params ∙ base_now ∙ sym long;
            blocks_are = tt;
            floor_is = omega arith;
            lp_is = omega arith;
            callers_are = subst (λ k. AreCallers k codes now.place.lp (drop now.place.lp s.blocks) (drop (now.depth - 1) callers) (frame ∷ c.frames)) (sym long) (waits_now w);
            depth_is = omega arith;
            globals_are = is.shows.globals_are;
            memory_is = is.shows.memory_is;
          }

      pub after_call : callers ≡ slice_set s.callers (now.depth - 1) mark → drop (now.place.sp - function.locals) cells ≡ replicate function.locals 0 ++ drop (now.place.sp - function.locals + function.locals) s.cells → length cells ≡ length s.cells →
          to ≡ arrived → Enters scope codes after to c
      after_call w z long t =
          let same : length callers ≡ length s.callers = ap length w ∙ length-set s.callers (now.depth - 1) mark in
          subst (λ to. Enters scope codes after to c) (sym t) (record {
            next = d;
            reduces = reduces;
            is = record {
              body = prepared.0;
              found = prepared.2;
              is = record {
                shows = shows_now w z long;
                sound = sound;
                room = subst (λ k. HasRoom scope.funcs (length cells) (length s.blocks) k d) (sym same) (subst (λ k. HasRoom scope.funcs k (length s.blocks) (length s.callers) d) (sym long) room);
              };
            };
          })
