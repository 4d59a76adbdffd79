-- Where a call from outside begins.
use Rattle.std.proofs.Common.{◌≡◌, ℕ, suc, ◌+◌, ◌-◌, ◌*◌, ◌<◌, ◌≤◌, List, [], ◌∷◌, ◌++◌, length, drop, Option, Some, None, refl, sym, ap, ◌∙◌, subst, arith, length-append, length-drop}
use Rattle.std.specs.Prelude.{slice_get, reverse, replicate, unwrap_or, sum_by}
use Rattle.std.proofs.lemmas.Option.{slice_get_within}
use Rattle.std.proofs.lemmas.List.{length-replicate, append-nil, drop_all, reverse-reverse}
use Rattle.std.proofs.lemmas.List.Sums.{sum_by-cons}
use Rattle.wasm_tree.specs.declared.module.FuncBody.{FuncBody}
use Rattle.wasm_tree.specs.declared.module.Module.{Module}
use Rattle.wasm_tree.specs.Cells.{cells_of}
use Rattle.wasm_tree.specs.Instance.{funcs_of, begun_at, begun, no_function}
use Rattle.wasm_tree.specs.Reduce.{Func, Config, CallFrame}
use Rattle.wasm_tree.specs.Valid.{memory_size}
use Rattle.wasm_sound.specs.Kinds.{AreOf}
use Rattle.wasm_sound.specs.Reached.{Stay, IsReached, IsCall, marks_of, marks_of_frame}
use Rattle.wasm_sound.specs.Sound.{Scope, IsFunc, IsSound, most_memory}
use Rattle.wasm_runner.specs.declared.function.Function.{Function}
use Rattle.wasm_runner.specs.declared.place.Block.{Block}
use Rattle.wasm_runner.specs.declared.place.Caller.{Caller}
use Rattle.wasm_runner.specs.declared.calls.Activation.{Activation}
use Rattle.wasm_runner.specs.Jumps.{Stands}
use Rattle.wasm_runner.specs.Standing.{Stacks, HasRoom, IsWithin, held, blocks_of, cells_of_frames, AreCallers}
use Rattle.wasm_runner.specs.Activations.{IsActive, IsPrepared, IsProgram, stacks}
use Rattle.wasm_runner.specs.Prepared.{scope_of, IsReady, IsCallOf, arguments_of}
use Rattle.wasm_runner.proofs.Holding.{held_count}
use Rattle.wasm_runner.proofs.Typing.{same_length, joined, zeros_are}
use Rattle.wasm_runner.proofs.Calling.{locals_turned}
use Rattle.wasm_runner.proofs.Modules as M

-- ---- room

marks_more : (f : CallFrame) (fs : List CallFrame) → sum_by marks_of_frame (f ∷ fs) ≡ (length f.labels + 1) + sum_by marks_of_frame fs
marks_more f fs = sum_by-cons marks_of_frame f fs

-- marks of blocks and of callers are as many as the labels and the callers
marks_are : (fs : List CallFrame) → (blocks_of fs ≤ sum_by marks_of_frame fs) × (length fs ≤ sum_by marks_of_frame fs)
marks_are [] = (omega arith, omega arith)
marks_are (f ∷ fs) =
    let r = marks_are fs in let r0 = r.0 in let r1 = r.1 in
    let m = marks_more f fs in let b = Rattle.wasm_runner.proofs.Holding.blocks_more f fs in
    (omega arith, omega arith)

within : (m : Module) (cells marks : ℕ) (d : Config) → cells_of d ≤ cells → marks_of d ≤ marks → IsWithin cells marks marks d
within m cells marks d h g =
    let r = marks_are d.frames in let r0 = r.0 in let r1 = r.1 in
    record { cells_fit = h; blocks_fit = omega arith; callers_fit = omega arith }

module _ (m : Module) (functions : List Function) (cells marks : ℕ) (r : IsReady m functions cells marks) (number : ℕ) (arguments globals memory : List ℕ) (k : IsCallOf m number arguments globals memory) where
  abbrev c : Config
  c = begun_at (funcs_of m) number arguments globals memory

  pub is_call : IsCall m c
  is_call =
      record { number = number; name = k.name; exported = k.exported; type = k.type; has = k.has; arguments = arguments; given = k.given; globals = globals; memory = memory; instance = k.instance; begins = refl }

  pub has_room : HasRoom (funcs_of m) cells marks marks c
  has_room =
      record {
        wherever = λ d l.
            let reached : IsReached m d = record { start = c; call = is_call; comes = l } in
            within m cells marks d (r.bounds.cells d reached) (r.bounds.marks d reached);
      }

  memory_fits : length memory ≤ most_memory
  memory_fits =
      let h = r.valid.limit.memory in
      let few = h.lawful.few in
      let size : length memory ≡ h.limits.min * 65536 = k.instance.own.size ∙ ap memory_size h.only in
      omega arith

-- a call of one of the module's own functions
module _ (m : Module) (functions : List Function) (n_cells marks : ℕ) (r : IsReady m functions n_cells marks) (n : ℕ) (arguments globals memory : List ℕ) (k : IsCallOf m (suc n) arguments globals memory) where
  abbrev scope : Scope
  scope = scope_of m

  pub program : IsProgram scope m.codes functions
  program = M.program_is m r.section r.valid functions r.prepared

  pub own : (f : Func) × (slice_get (funcs_of m) n ≡ Some f) × IsFunc scope k.type f
  own = program.is.own n k.type k.has

  abbrev f : Func
  f = own.0

  pub prepared : (body : FuncBody) × (function : Function) × (slice_get m.codes n ≡ Some body) × (slice_get functions n ≡ Some function) × IsPrepared body f function
  prepared = program.own n f own.1

  abbrev d : Config
  d = begun f arguments globals memory

  begins_so : begun_at (funcs_of m) (suc n) arguments globals memory ≡ d
  begins_so = ap (λ o. begun (unwrap_or o no_function) arguments globals memory) own.1

  room : HasRoom (funcs_of m) n_cells marks marks d
  room = subst (HasRoom (funcs_of m) n_cells marks marks) begins_so (has_room m functions n_cells marks r (suc n) arguments globals memory k)

  arguments_count : length arguments ≡ f.params
  arguments_count = same_length k.type.params arguments k.given ∙ sym own.2.params

  locals_count : length d.state.locals ≡ f.params + f.locals
  locals_count =
      let zeros : List ℕ = replicate f.locals 0 in
      let a1 = length-append arguments zeros in let a2 : length zeros ≡ f.locals = length-replicate f.locals 0 in let a3 = arguments_count in
      omega arith

  pub cells_there : (length arguments ≤ n_cells) × (f.params + f.locals ≤ n_cells)
  cells_there =
      let w = (room.wherever d (Stay d)).cells_fit in
      let a1 = locals_count in let a2 = arguments_count in
      (omega arith, omega arith)

  sound : IsSound scope d
  sound =
      record {
        locals = k.type.params ++ own.2.declared;
        results = k.type.results;
        few = own.2.few;
        operands = [];
        held = tt;
        own = joined k.type.params own.2.declared arguments (replicate f.locals 0) k.given (subst (λ l. AreOf own.2.declared (replicate l 0)) (sym own.2.locals) (zeros_are own.2.declared));
        shared = k.instance.typed;
        memory = memory_fits m functions n_cells marks r (suc n) arguments globals memory k;
        labels = reverse k.type.results ∷ [];
        after = reverse k.type.results;
        typed = own.2.typed;
        open_labels = (refl, refl, refl);
        callers = tt;
      }

  pub number_there : n < length functions
  number_there = slice_get_within functions n prepared.1 prepared.3

  module _ (function : Function) (e : slice_get functions n ≡ Some function) where
    pub is_prepared : IsPrepared prepared.0 f function
    is_prepared =
        let same : prepared.1 ≡ function = let g : Some prepared.1 ≡ Some function = sym prepared.3 ∙ e in cc in
        subst (IsPrepared prepared.0 f) same prepared.4

    pub params_count : function.params ≡ length arguments
    params_count = is_prepared.params ∙ sym arguments_count

    pub locals_there : function.params + function.locals ≤ n_cells
    locals_there = let a = is_prepared.params in let b = is_prepared.locals in let h = cells_there.1 in omega arith

    held_is : reverse d.state.locals ≡ replicate f.locals 0 ++ reverse arguments
    held_is = ap (λ l. reverse (l ++ replicate f.locals 0)) (sym (reverse-reverse arguments)) ∙ locals_turned (reverse arguments) f.locals

    module _ (first cells : List ℕ) (blocks : List Block) (callers : List Caller) where
      abbrev sp : ℕ
      sp = length first - function.params - function.locals

      abbrev arrived : Activation
      arrived = record { function = n; place = record { at = 0; sp = sp; lp = marks; base = length cells; floor = marks }; depth = marks }

      abbrev s : Stacks
      s = stacks cells blocks callers globals memory

      holds_now : length first ≡ n_cells → drop (length first - length arguments) first ≡ reverse arguments → drop sp cells ≡ replicate function.locals 0 ++ drop (sp + function.locals) first → drop sp cells ≡ held d
      holds_now h y z =
          let up : sp + function.locals ≡ length first - length arguments = let a = locals_there in let b = params_count in omega arith in
          z
          ∙ ap (λ k. replicate function.locals 0 ++ drop k first) up
          ∙ ap (λ l. replicate function.locals 0 ++ l) y
          ∙ ap (λ l. replicate l 0 ++ reverse arguments) is_prepared.locals
          ∙ sym held_is
          ∙ sym (append-nil (reverse d.state.locals))

      pub active : length first ≡ n_cells → length cells ≡ length first → length blocks ≡ marks → length callers ≡ marks →
          drop (length first - length arguments) first ≡ reverse arguments → drop sp cells ≡ replicate function.locals 0 ++ drop (sp + function.locals) first →
          IsActive scope m.codes s arrived (begun_at (funcs_of m) (suc n) arguments globals memory)
      active h long b c y z =
          let hold = holds_now h y z in
          let l1 = ap length hold in let l2 = length-drop sp cells in
          let none : cells_of_frames [] ≡ 0 = refl in let no_blocks : blocks_of [] ≡ 0 = refl in
          let all : length cells ≡ n_cells = omega arith in
          subst (IsActive scope m.codes s arrived) (sym begins_so) (record {
            body = prepared.0;
            found = prepared.2;
            is = record {
              shows = record {
                stands = subst (λ l. Stands (f.body ∷ []) l) (sym is_prepared.spells) (refl, (refl, tt));
                holds = hold;
                sp_is = omega arith;
                base_is = omega arith;
                blocks_are = tt;
                floor_is = omega arith;
                lp_is = omega arith;
                callers_are = subst (λ l. AreCallers (length cells) m.codes marks (drop marks blocks) l []) (sym (drop_all marks callers (omega arith))) tt;
                depth_is = omega arith;
                globals_are = refl;
                memory_is = refl;
              };
              sound = sound;
              room = subst (λ x. HasRoom (funcs_of m) (length cells) (length blocks) x d) (sym c)
                  (subst (λ x. HasRoom (funcs_of m) (length cells) x marks d) (sym b) (subst (λ x. HasRoom (funcs_of m) x marks marks d) (sym all) room));
            };
          })

pub argument_turned : (o : Option ℕ) → reverse (arguments_of o) ≡ arguments_of o
argument_turned None = refl
argument_turned (Some x) = refl
