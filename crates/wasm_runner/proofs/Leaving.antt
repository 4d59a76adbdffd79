-- The end of a function whose caller waits.
use Rattle.std.proofs.Common.{◌≡◌, ℕ, zero, suc, ◌+◌, ◌-◌, ◌<◌, ◌≤◌, List, [], ◌∷◌, ◌++◌, length, take, drop, Some, refl, sym, ap, ◌∙◌, subst, arith, append_assoc, length-drop, get_or}
use Rattle.std.specs.Prelude.{slice_get, reverse}
use Rattle.std.proofs.lemmas.List.{drop-drop, length-reverse}
use Rattle.std.proofs.lemmas.Option.{slice_get-get_or}
use Rattle.wasm_tree.specs.declared.module.FuncBody.{FuncBody}
use Rattle.wasm_tree.specs.Reduce.{Seq, State, Label, CallFrame, Config, To, at}
use Rattle.wasm_steps.specs.Steps.{reduce}
use Rattle.wasm_sound.specs.Kinds.{AreOf}
use Rattle.wasm_sound.specs.Sound.{Scope, IsSound, IsFrame}
use Rattle.wasm_runner.specs.declared.place.Caller.{Caller}
use Rattle.wasm_runner.specs.declared.calls.Activation.{Activation}
use Rattle.wasm_runner.specs.Standing.{Stacks, Shows, HasRoom, held, below_of, waiting, AreBlocks, AreCallers, IsCaller, cells_of_frames}
use Rattle.wasm_runner.specs.Activations.{IsLeaving, Enters}
use Rattle.wasm_runner.proofs.Going as G
use Rattle.wasm_runner.proofs.Holding.{blocks_more}
use Rattle.wasm_runner.proofs.Typing.{same_length, joined}

-- a caller waits
pub record Waits (scope : Scope) (codes : List FuncBody) (s : Stacks) (now : Activation) (sp : ℕ) (q : Seq) (st : State) (ls : List Label) (frame : CallFrame) (fs : List CallFrame) : Type 0 where
  pub is : IsLeaving scope codes s now sp (at q st ls (frame ∷ fs))
  pub mark : Caller
  pub marks : List Caller
  pub found : drop now.depth s.callers ≡ mark ∷ marks
  pub caller : IsCaller (length s.cells) codes now.place.floor (drop now.place.floor s.blocks) mark frame fs
  pub others : AreCallers (length s.cells) codes mark.floor (drop (length frame.labels) (drop now.place.floor s.blocks)) marks fs

-- the marks and the callers are as many
abbrev pub WaitsSome : Scope → List FuncBody → Stacks → Activation → ℕ → Seq → State → List Label → List CallFrame → Type 0
WaitsSome scope codes s now sp q st ls fs = (frame : CallFrame) × (others : List CallFrame) × (fs ≡ frame ∷ others) × Waits scope codes s now sp q st ls frame others

pub waits : (scope : Scope) (codes : List FuncBody) (s : Stacks) (now : Activation) (sp : ℕ) (q : Seq) (st : State) (ls : List Label) (fs : List CallFrame) →
    IsLeaving scope codes s now sp (at q st ls fs) → now.depth < length s.callers → WaitsSome scope codes s now sp q st ls fs
waits scope codes s now sp q st ls [] g h = let e = g.depth_is in let z : length (at q st ls []).frames ≡ 0 = refl in absurd (omega arith)
waits scope codes s now sp q st ls (frame ∷ fs) g h = by (drop now.depth s.callers) refl g.callers_are
  where
    by : (marks : List Caller) → drop now.depth s.callers ≡ marks → AreCallers (length s.cells) codes now.place.floor (drop now.place.floor s.blocks) marks (frame ∷ fs) → WaitsSome scope codes s now sp q st ls (frame ∷ fs)
    by [] e a = absurd a
    by (mark ∷ marks) e a = (frame, fs, refl, record { is = g; mark = mark; marks = marks; found = e; caller = a.0; others = a.1 })

first_mark : (l : List Caller) (i : ℕ) (x : Caller) (rest : List Caller) → drop i l ≡ x ∷ rest → (slice_get l i ≡ Some x) × (drop (i + 1) l ≡ rest)
first_mark [] zero x rest e = absurd (cc)
first_mark [] (suc i) x rest e = absurd (cc)
first_mark (y ∷ ys) zero x rest e = let a : y ≡ x = cc in let b : ys ≡ rest = cc in (ap Some a, b)
first_mark (y ∷ ys) (suc i) x rest e =
    let r = first_mark ys i x rest e in
    let up : suc i + 1 ≡ suc (i + 1) = omega arith in
    (r.0, ap (λ k. drop k (y ∷ ys)) up ∙ r.1)

module _ (scope : Scope) (codes : List FuncBody) (s : Stacks) (now : Activation) (sp : ℕ) (q : Seq) (st : State) (ls : List Label) (frame : CallFrame) (fs : List CallFrame) (w : Waits scope codes s now sp q st ls frame fs) where
  abbrev c : Config
  c = at q st ls (frame ∷ fs)

  abbrev g : IsLeaving scope codes s now sp c
  g = w.is

  abbrev mark : Caller
  mark = w.mark

  abbrev base : ℕ
  base = now.place.base

  pub found : slice_get s.callers now.depth ≡ Some mark
  found = (first_mark s.callers now.depth mark w.marks w.found).0

  pub next_marks : drop (now.depth + 1) s.callers ≡ w.marks
  next_marks = (first_mark s.callers now.depth mark w.marks w.found).1

  abbrev is_frame : IsFrame scope g.results frame
  is_frame = g.callers.0

  arity_is : frame.arity ≡ length g.results
  arity_is = is_frame.arity

  -- as many results as the caller waits for
  pub mark_arity : mark.arity ≡ length g.results
  mark_arity = w.caller.arity ∙ arity_is

  pub few : mark.arity ≤ 1
  few = let a = mark_arity in let b = g.few in omega arith

  pub below_base : sp + mark.arity ≤ base
  below_base = let a = mark_arity in let b = g.low in omega arith

  pub base_within : base ≤ length s.cells
  base_within = let a = g.base_is in omega arith

  given_are : AreOf (reverse g.results) (take frame.arity st.values)
  given_are = subst (λ k. AreOf (reverse g.results) (take k st.values)) (sym arity_is) g.given

  abbrev results : List ℕ
  results = take frame.arity st.values

  results_count : length results ≡ mark.arity
  results_count = same_length (reverse g.results) results given_are ∙ length-reverse g.results ∙ sym mark_arity

  pub shown : take mark.arity (drop sp s.cells) ≡ results
  shown = ap (λ k. take k (drop sp s.cells)) mark_arity ∙ g.shown ∙ ap (λ k. take k st.values) (sym arity_is)

  abbrev back : State
  back = record { values = results ++ frame.values; locals = frame.locals; globals = st.globals; memory = st.memory }

  abbrev d : Config
  d = at frame.rest back frame.labels fs

  pub reduces : reduce scope.funcs c ≡ To d
  reduces = g.reduces

  sound : IsSound scope d
  sound =
      record {
        locals = is_frame.locals;
        results = is_frame.results;
        few = is_frame.few;
        operands = reverse g.results ++ is_frame.below;
        held = joined (reverse g.results) is_frame.below results frame.values given_are is_frame.held;
        own = is_frame.own;
        shared = g.shared;
        memory = g.memory;
        labels = is_frame.labels;
        after = is_frame.after;
        typed = is_frame.typed;
        open_labels = is_frame.open_labels;
        callers = g.callers.1;
      }

  abbrev arrived : Activation
  arrived =
      record { function = mark.function; place = record { at = mark.back; sp = base - mark.arity; lp = now.place.floor; base = mark.base; floor = mark.floor }; depth = now.depth + 1 }

  module _ (cells : List ℕ) (to : Activation) where
    abbrev after : Stacks
    after = record { cells = cells; blocks = s.blocks; callers = s.callers; globals = s.globals; memory = s.memory }

    holds_now : drop (base - mark.arity) cells ≡ take mark.arity (drop sp s.cells) ++ drop base s.cells → drop (base - mark.arity) cells ≡ held d
    holds_now z =
        z
        ∙ ap (λ l. l ++ drop base s.cells) shown
        ∙ ap (λ l. results ++ l) g.waits
        ∙ sym (append_assoc results frame.values (below_of frame.labels ++ (reverse frame.locals ++ waiting fs)))

    shows_now : drop (base - mark.arity) cells ≡ take mark.arity (drop sp s.cells) ++ drop base s.cells → length cells ≡ length s.cells → Shows codes w.caller.body.code after arrived.depth arrived.place d
    shows_now z long =
        let hold = holds_now z in
        let l1 = ap length hold in let l2 = length-drop (base - mark.arity) cells in let l3 = base_within in let l4 = below_base in
        let f1 = w.caller.floor_is in
        let b1 = blocks_more frame fs in let b2 = g.lp_is in
        let d1 = g.depth_is in let d2 : length c.frames ≡ suc (length fs) = refl in
        let floors : drop (length frame.labels) (drop now.place.floor s.blocks) ≡ drop mark.floor s.blocks = drop-drop (length frame.labels) now.place.floor s.blocks ∙ ap (λ k. drop k s.blocks) f1 in
        record {
          stands = w.caller.leads;
          holds = hold;
          sp_is = omega arith;
          base_is = w.caller.base ∙ sym long;
          blocks_are = subst (λ k. AreBlocks k w.caller.body.code (drop now.place.floor s.blocks) frame.labels (length frame.locals + cells_of_frames fs)) (sym long) w.caller.open_blocks;
          floor_is = f1;
          lp_is = omega arith;
          callers_are = subst (λ k. AreCallers k codes mark.floor (drop mark.floor s.blocks) (drop (now.depth + 1) s.callers) fs) (sym long)
              (subst (λ l. AreCallers (length s.cells) codes mark.floor (drop mark.floor s.blocks) l fs) (sym next_marks)
              (subst (λ l. AreCallers (length s.cells) codes mark.floor l w.marks fs) floors w.others));
          depth_is = omega arith;
          globals_are = g.globals_are;
          memory_is = g.memory_is;
        }

    pub after_end : drop (base - mark.arity) cells ≡ take mark.arity (drop sp s.cells) ++ drop base s.cells → length cells ≡ length s.cells → to ≡ arrived → Enters scope codes after to c
    after_end z long t =
        subst (λ to. Enters scope codes after to c) (sym t) (record {
          next = d;
          reduces = reduces;
          is = record {
            body = w.caller.body;
            found = w.caller.found;
            is = record {
              shows = shows_now z long;
              sound = sound;
              room = subst (λ k. HasRoom scope.funcs k (length s.blocks) (length s.callers) d) (sym long) (G.room_after scope.funcs (length s.cells) (length s.blocks) (length s.callers) c d g.room reduces);
            };
          };
        })

-- ---- the end, by the mark that was read

-- a mark that was read
pub mark_here : (callers : List Caller) (i : ℕ) (r d : Caller) → i < length callers → r ≡ get_or callers i d → slice_get callers i ≡ Some r
mark_here callers i r d h e = slice_get-get_or callers i d h ∙ ap Some (sym e)

module _ (scope : Scope) (codes : List FuncBody) (s : Stacks) (now : Activation) (sp : ℕ) (c : Config) (g : IsLeaving scope codes s now sp c) (h : now.depth < length s.callers) (mark : Caller) (m : slice_get s.callers now.depth ≡ Some mark) where
  pub w : WaitsSome scope codes s now sp c.code c.state c.labels c.frames
  w = waits scope codes s now sp c.code c.state c.labels c.frames g h

  pub same : w.3.mark ≡ mark
  same = let e = sym (found scope codes s now sp c.code c.state c.labels w.0 w.1 w.3) ∙ m in cc

  pub few_there : mark.arity ≤ 1
  few_there = subst (λ (x : Caller). x.arity ≤ 1) same (few scope codes s now sp c.code c.state c.labels w.0 w.1 w.3)

  pub below_there : sp + mark.arity ≤ now.place.base
  below_there = subst (λ (x : Caller). sp + x.arity ≤ now.place.base) same (below_base scope codes s now sp c.code c.state c.labels w.0 w.1 w.3)

  pub base_there : now.place.base ≤ length s.cells
  base_there = base_within scope codes s now sp c.code c.state c.labels w.0 w.1 w.3

  pub ends : (cells : List ℕ) (to : Activation) →
      drop (now.place.base - mark.arity) cells ≡ take mark.arity (drop sp s.cells) ++ drop now.place.base s.cells → length cells ≡ length s.cells →
      to ≡ record { function = mark.function; place = record { at = mark.back; sp = now.place.base - mark.arity; lp = now.place.floor; base = mark.base; floor = mark.floor }; depth = now.depth + 1 } →
      Enters scope codes (record { cells = cells; blocks = s.blocks; callers = s.callers; globals = s.globals; memory = s.memory }) to c
  ends cells to z long t =
      let a : Stacks = record { cells = cells; blocks = s.blocks; callers = s.callers; globals = s.globals; memory = s.memory } in
      subst (λ fs. Enters scope codes a to (at c.code c.state c.labels fs)) (sym w.2)
      (after_end scope codes s now sp c.code c.state c.labels w.0 w.1 w.3 cells to
      (subst (λ (x : Caller). drop (now.place.base - x.arity) cells ≡ take x.arity (drop sp s.cells) ++ drop now.place.base s.cells) (sym same) z) long
      (t ∙ ap (λ (x : Caller). record { function = x.function; place = record { at = x.back; sp = now.place.base - x.arity; lp = now.place.floor; base = x.base; floor = x.floor }; depth = now.depth + 1 }) (sym same)))
