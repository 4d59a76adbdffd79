-- Instructions that change operands, locals, globals or memory.
use Rattle.std.proofs.Common.{◌≡◌, ℕ, ◌+◌, ◌-◌, ◌<◌, List, [], ◌∷◌, length, drop, Some, None, refl, sym, ap, ◌∙◌, arith}
use Rattle.std.specs.Prelude.{slice_get, slice_set, slice_index, map}
use Rattle.std.proofs.lemmas.List.{length-set}
use Rattle.wasm_tree.specs.declared.module.ValType.{ValType}
use Rattle.wasm_tree.specs.declared.module.ValType.TheVariants.{I32}
use Rattle.wasm_tree.specs.declared.instr.Instr.{Instr}
use Rattle.wasm_tree.specs.declared.instr.Instr.TheVariants as instr
use Rattle.wasm_tree.specs.declared.op.CompareOp.{CompareOp}
use Rattle.wasm_tree.specs.declared.op.UnaryOp.{UnaryOp}
use Rattle.wasm_tree.specs.declared.op.BinaryOp.{BinaryOp}
use Rattle.wasm_tree.specs.declared.op.ConvertOp.{ConvertOp}
use Rattle.wasm_tree.specs.declared.module.FuncBody.{FuncBody}
use Rattle.wasm_tree.specs.Meaning.{width, test_of, compare_of, unary_of, binary_of, convert_of}
use Rattle.wasm_tree.specs.Reduce.{Seq, Plain, State, Config, Step, To, Traps, at, with_values, push, on_top, on_two, if_there, act, plain}
use Rattle.wasm_tree.specs.Typed.{convert_from, convert_to}
use Rattle.wasm_steps.specs.Steps.{reduce}
use Rattle.wasm_runner.specs.declared.place.Place.{Place}
use Rattle.wasm_sound.specs.Kinds.{IsOf, AreOf}
use Rattle.wasm_sound.specs.Sound.{Scope, IsSound}
use Rattle.wasm_runner.specs.Standing.{Stacks, IsAt, held}
use Rattle.wasm_runner.specs.Steps.{Goes}
use Rattle.wasm_runner.proofs.Holding.{held_count, first_cell, written, pushed}
use Rattle.wasm_runner.proofs.Going as G
use Rattle.wasm_runner.proofs.Going.{with_cells, moved}

module _ (scope : Scope) (codes : List FuncBody) (code : List Instr) (s : Stacks) (depth : ℕ) (place : Place) (c : Config) (a : IsAt scope codes code s depth place c) where
  abbrev Here : Instr → Type 0
  Here i = G.Here scope codes code s depth place c a i

  abbrev One : ValType → List ValType → Seq → List ValType → Type 0
  One = G.OneIn scope codes code s depth place c a

  abbrev Two : ValType → ValType → List ValType → Seq → List ValType → Type 0
  Two = G.TwoIn scope codes code s depth place c a

  abbrev st : State
  st = c.state

  abbrev go : (cells globals memory : List ℕ) → (sp : ℕ) → Type 0
  go cells globals memory sp = Goes scope codes code (with_cells s cells globals memory) depth (moved place (place.at + 1) sp) c

  -- ---- what is written

  -- one operand becomes one
  pub put_one : (i : Instr) (h : Here i) (type out : ValType) (o : One type (out ∷ []) h.rest h.sound.locals) (z : ℕ) (cells : List ℕ) → cells ≡ slice_set s.cells place.sp z → IsOf out z →
      reduce scope.funcs c ≡ To (at h.rest (with_values st (z ∷ o.back)) c.labels c.frames) → go cells s.globals s.memory place.sp
  put_one i h type out o z cells e f r =
      let n : length cells ≡ length s.cells = ap length e ∙ length-set s.cells place.sp z in
      let low = o.low in
      let d : drop place.sp cells ≡ held (at h.rest (with_values st (z ∷ o.back)) c.labels c.frames) = ap (drop place.sp) e ∙ written s.cells place.sp z o.low ∙ ap (λ l. z ∷ l) o.after in
      G.goes_on scope codes code s depth place c a h.rest (with_values st (z ∷ o.back)) cells s.globals s.memory (place.at + 1) place.sp r h.stands
      (o.then_sound (z ∷ []) (with_values st (z ∷ o.back)) (f, tt) refl h.sound.own h.sound.shared h.sound.memory) refl d (omega arith) n a.shows.globals_are a.shows.memory_is

  -- two operands become one
  pub put_two : (i : Instr) (h : Here i) (first second out : ValType) (o : Two first second (out ∷ []) h.rest h.sound.locals) (z : ℕ) (cells : List ℕ) → cells ≡ slice_set s.cells (place.sp + 1) z → IsOf out z →
      reduce scope.funcs c ≡ To (at h.rest (with_values st (z ∷ o.back)) c.labels c.frames) → go cells s.globals s.memory (place.sp + 1)
  put_two i h first second out o z cells e f r =
      let n : length cells ≡ length s.cells = ap length e ∙ length-set s.cells (place.sp + 1) z in
      let low = o.low in
      let d : drop (place.sp + 1) cells ≡ held (at h.rest (with_values st (z ∷ o.back)) c.labels c.frames) = ap (drop (place.sp + 1)) e ∙ written s.cells (place.sp + 1) z o.low ∙ ap (λ l. z ∷ l) o.after in
      G.goes_on scope codes code s depth place c a h.rest (with_values st (z ∷ o.back)) cells s.globals s.memory (place.at + 1) (place.sp + 1) r h.stands
      (o.then_sound (z ∷ []) (with_values st (z ∷ o.back)) (f, tt) refl h.sound.own h.sound.shared h.sound.memory) refl d (omega arith) n a.shows.globals_are a.shows.memory_is

  -- one more operand
  pub push_room : (i : Instr) (h : Here i) (z : ℕ) → reduce scope.funcs c ≡ To (at h.rest (push z st) c.labels c.frames) → 0 < place.sp
  push_room i h z r =
      let d : Config = at h.rest (push z st) c.labels c.frames in
      let w = G.room_now scope.funcs (length s.cells) (length s.blocks) (length s.callers) d (G.room_after scope.funcs (length s.cells) (length s.blocks) (length s.callers) c d a.room r) in
      let n = Rattle.wasm_runner.proofs.Holding.held_within d (length s.cells) w.cells_fit in
      let m = held_count d in let k = held_count c in let e = a.shows.sp_is in
      omega arith

  pub put_more : (i : Instr) (h : Here i) (z : ℕ) (cells : List ℕ) → cells ≡ slice_set s.cells (place.sp - 1) z →
      reduce scope.funcs c ≡ To (at h.rest (push z st) c.labels c.frames) → IsSound scope (at h.rest (push z st) c.labels c.frames) → go cells s.globals s.memory (place.sp - 1)
  put_more i h z cells e r sound =
      let n : length cells ≡ length s.cells = ap length e ∙ length-set s.cells (place.sp - 1) z in
      let room = push_room i h z r in
      let low = G.sp_within scope codes code s depth place c a in
      let d : drop (place.sp - 1) cells ≡ held (at h.rest (push z st) c.labels c.frames) = ap (drop (place.sp - 1)) e ∙ pushed s.cells place.sp z room low ∙ ap (λ l. z ∷ l) a.shows.holds in
      G.goes_on scope codes code s depth place c a h.rest (push z st) cells s.globals s.memory (place.at + 1) (place.sp - 1) r h.stands sound refl d (omega arith) n a.shows.globals_are a.shows.memory_is

  -- ---- single instructions

  pub nop : slice_get code place.at ≡ Some instr.Nop → go s.cells s.globals s.memory place.sp
  unfolding act plain
  nop e =
      let h = G.here scope codes code s depth place c a instr.Nop e tt in
      let k = G.none_in scope codes code s depth place c a instr.Nop h [] h.sound.typed.1 in
      G.goes_on scope codes code s depth place c a h.rest st s.cells s.globals s.memory (place.at + 1) place.sp (G.now scope codes code s depth place c a (Plain instr.Nop h.rest) h.is) h.stands
      (k.then_sound [] st tt refl h.sound.own h.sound.shared h.sound.memory) refl a.shows.holds (G.sp_within scope codes code s depth place c a) refl a.shows.globals_are a.shows.memory_is

  pub unreachable : slice_get code place.at ≡ Some instr.Unreachable → reduce scope.funcs c ≡ Traps
  unfolding act plain
  unreachable e =
      let h = G.here scope codes code s depth place c a instr.Unreachable e tt in
      G.now scope codes code s depth place c a (Plain instr.Unreachable h.rest) h.is

  -- with the last operand
  pub on_one : (i : Instr) (h : Here i) (type : ValType) (outs : List ValType) (o : One type outs h.rest h.sound.locals) (go : ℕ → List ℕ → Step) →
      act scope.funcs (Plain i h.rest) st c.labels c.frames ≡ on_top st.values go → reduce scope.funcs c ≡ go o.x o.back
  on_one i h type outs o go e = G.now scope codes code s depth place c a (Plain i h.rest) h.is ∙ e ∙ ap (λ vs. on_top vs go) o.is

  pub on_both : (i : Instr) (h : Here i) (first second : ValType) (outs : List ValType) (o : Two first second outs h.rest h.sound.locals) (go : ℕ → ℕ → List ℕ → Step) →
      act scope.funcs (Plain i h.rest) st c.labels c.frames ≡ on_two st.values go → reduce scope.funcs c ≡ go o.x o.y o.back
  on_both i h first second outs o go e = G.now scope codes code s depth place c a (Plain i h.rest) h.is ∙ e ∙ ap (λ vs. on_two vs go) o.is

  -- one operand becomes one

  pub test_there : (type : ValType) → slice_get code place.at ≡ Some (instr.Test type) → (place.sp < length s.cells) × IsOf type (slice_index s.cells place.sp)
  test_there type e =
      let h = G.here scope codes code s depth place c a (instr.Test type) e tt in
      let o = G.one_in scope codes code s depth place c a (instr.Test type) h type (I32 ∷ []) h.sound.typed.1 in
      (o.low, o.fits)

  pub test_goes : (type : ValType) (cells : List ℕ) → slice_get code place.at ≡ Some (instr.Test type) → cells ≡ slice_set s.cells place.sp (test_of (slice_index s.cells place.sp)) → IsOf I32 (test_of (slice_index s.cells place.sp)) →
      go cells s.globals s.memory place.sp
  unfolding act plain
  test_goes type cells e w f =
      let i = instr.Test type in
      let h = G.here scope codes code s depth place c a i e tt in
      let o = G.one_in scope codes code s depth place c a i h type (I32 ∷ []) h.sound.typed.1 in
      put_one i h type I32 o (test_of (slice_index s.cells place.sp)) cells w f
      (on_one i h type (I32 ∷ []) o (λ x xs. To (at h.rest (with_values st (test_of x ∷ xs)) c.labels c.frames)) refl ∙ ap (λ x. To (at h.rest (with_values st (test_of x ∷ o.back)) c.labels c.frames)) (sym o.cell))

  pub unary_there : (type : ValType) (op : UnaryOp) → slice_get code place.at ≡ Some (instr.Unary type op) → (place.sp < length s.cells) × IsOf type (slice_index s.cells place.sp)
  unary_there type op e =
      let h = G.here scope codes code s depth place c a (instr.Unary type op) e tt in
      let o = G.one_in scope codes code s depth place c a (instr.Unary type op) h type (type ∷ []) h.sound.typed.1 in
      (o.low, o.fits)

  pub unary_goes : (type : ValType) (op : UnaryOp) (cells : List ℕ) → slice_get code place.at ≡ Some (instr.Unary type op) → cells ≡ slice_set s.cells place.sp (unary_of (width type) op (slice_index s.cells place.sp)) → IsOf type (unary_of (width type) op (slice_index s.cells place.sp)) →
      go cells s.globals s.memory place.sp
  unfolding act plain
  unary_goes type op cells e w f =
      let i = instr.Unary type op in
      let h = G.here scope codes code s depth place c a i e tt in
      let o = G.one_in scope codes code s depth place c a i h type (type ∷ []) h.sound.typed.1 in
      put_one i h type type o (unary_of (width type) op (slice_index s.cells place.sp)) cells w f
      (on_one i h type (type ∷ []) o (λ x xs. To (at h.rest (with_values st (unary_of (width type) op x ∷ xs)) c.labels c.frames)) refl ∙ ap (λ x. To (at h.rest (with_values st (unary_of (width type) op x ∷ o.back)) c.labels c.frames)) (sym o.cell))

  pub convert_there : (op : ConvertOp) → slice_get code place.at ≡ Some (instr.Convert op) → (place.sp < length s.cells) × IsOf (convert_from op) (slice_index s.cells place.sp)
  convert_there op e =
      let h = G.here scope codes code s depth place c a (instr.Convert op) e tt in
      let o = G.one_in scope codes code s depth place c a (instr.Convert op) h (convert_from op) ((convert_to op) ∷ []) h.sound.typed.1 in
      (o.low, o.fits)

  pub convert_goes : (op : ConvertOp) (cells : List ℕ) → slice_get code place.at ≡ Some (instr.Convert op) → cells ≡ slice_set s.cells place.sp (convert_of op (slice_index s.cells place.sp)) → IsOf (convert_to op) (convert_of op (slice_index s.cells place.sp)) →
      go cells s.globals s.memory place.sp
  unfolding act plain
  convert_goes op cells e w f =
      let i = instr.Convert op in
      let h = G.here scope codes code s depth place c a i e tt in
      let o = G.one_in scope codes code s depth place c a i h (convert_from op) ((convert_to op) ∷ []) h.sound.typed.1 in
      put_one i h (convert_from op) (convert_to op) o (convert_of op (slice_index s.cells place.sp)) cells w f
      (on_one i h (convert_from op) ((convert_to op) ∷ []) o (λ x xs. To (at h.rest (with_values st (convert_of op x ∷ xs)) c.labels c.frames)) refl ∙ ap (λ x. To (at h.rest (with_values st (convert_of op x ∷ o.back)) c.labels c.frames)) (sym o.cell))

  -- two operands become one

  pub compare_there : (type : ValType) (op : CompareOp) → slice_get code place.at ≡ Some (instr.Compare type op) → (place.sp + 1 < length s.cells) × IsOf type (slice_index s.cells (place.sp + 1)) × IsOf type (slice_index s.cells place.sp)
  compare_there type op e =
      let h = G.here scope codes code s depth place c a (instr.Compare type op) e tt in
      let o = G.two_in scope codes code s depth place c a (instr.Compare type op) h type type (I32 ∷ []) h.sound.typed.1 in
      (o.low, o.fits_x, o.fits_y)

  pub compare_goes : (type : ValType) (op : CompareOp) (cells : List ℕ) → slice_get code place.at ≡ Some (instr.Compare type op) → cells ≡ slice_set s.cells (place.sp + 1) (compare_of (width type) op (slice_index s.cells (place.sp + 1)) (slice_index s.cells place.sp)) → IsOf I32 (compare_of (width type) op (slice_index s.cells (place.sp + 1)) (slice_index s.cells place.sp)) →
      go cells s.globals s.memory (place.sp + 1)
  unfolding act plain
  compare_goes type op cells e w f =
      let i = instr.Compare type op in
      let h = G.here scope codes code s depth place c a i e tt in
      let o = G.two_in scope codes code s depth place c a i h type type (I32 ∷ []) h.sound.typed.1 in
      put_two i h type type I32 o (compare_of (width type) op (slice_index s.cells (place.sp + 1)) (slice_index s.cells place.sp)) cells w f
      (on_both i h type type (I32 ∷ []) o (λ x y xs. To (at h.rest (with_values st (compare_of (width type) op x y ∷ xs)) c.labels c.frames)) refl
      ∙ ap (λ x. To (at h.rest (with_values st (compare_of (width type) op x o.y ∷ o.back)) c.labels c.frames)) (sym o.cell_x)
      ∙ ap (λ y. To (at h.rest (with_values st (compare_of (width type) op (slice_index s.cells (place.sp + 1)) y ∷ o.back)) c.labels c.frames)) (sym o.cell_y))

  pub binary_there : (type : ValType) (op : BinaryOp) → slice_get code place.at ≡ Some (instr.Binary type op) → (place.sp + 1 < length s.cells) × IsOf type (slice_index s.cells (place.sp + 1)) × IsOf type (slice_index s.cells place.sp)
  binary_there type op e =
      let h = G.here scope codes code s depth place c a (instr.Binary type op) e tt in
      let o = G.two_in scope codes code s depth place c a (instr.Binary type op) h type type (type ∷ []) h.sound.typed.1 in
      (o.low, o.fits_x, o.fits_y)

  binary_is : (type : ValType) (op : BinaryOp) (e : slice_get code place.at ≡ Some (instr.Binary type op)) →
      let h = G.here scope codes code s depth place c a (instr.Binary type op) e tt in
      let o = G.two_in scope codes code s depth place c a (instr.Binary type op) h type type (type ∷ []) h.sound.typed.1 in
      reduce scope.funcs c ≡ if_there (binary_of (width type) op (slice_index s.cells (place.sp + 1)) (slice_index s.cells place.sp)) Traps (λ z. To (at h.rest (with_values st (z ∷ o.back)) c.labels c.frames))
  unfolding act plain
  binary_is type op e =
      let i = instr.Binary type op in
      let h = G.here scope codes code s depth place c a i e tt in
      let o = G.two_in scope codes code s depth place c a i h type type (type ∷ []) h.sound.typed.1 in
      on_both i h type type (type ∷ []) o (λ x y xs. if_there (binary_of (width type) op x y) Traps (λ z. To (at h.rest (with_values st (z ∷ xs)) c.labels c.frames))) refl
      ∙ ap (λ x. if_there (binary_of (width type) op x o.y) Traps (λ z. To (at h.rest (with_values st (z ∷ o.back)) c.labels c.frames))) (sym o.cell_x)
      ∙ ap (λ y. if_there (binary_of (width type) op (slice_index s.cells (place.sp + 1)) y) Traps (λ z. To (at h.rest (with_values st (z ∷ o.back)) c.labels c.frames))) (sym o.cell_y)

  pub binary_goes : (type : ValType) (op : BinaryOp) (z : ℕ) (cells : List ℕ) → slice_get code place.at ≡ Some (instr.Binary type op) → binary_of (width type) op (slice_index s.cells (place.sp + 1)) (slice_index s.cells place.sp) ≡ Some z → IsOf type z → cells ≡ slice_set s.cells (place.sp + 1) z →
      go cells s.globals s.memory (place.sp + 1)
  binary_goes type op z cells e v f w =
      let i = instr.Binary type op in
      let h = G.here scope codes code s depth place c a i e tt in
      let o = G.two_in scope codes code s depth place c a i h type type (type ∷ []) h.sound.typed.1 in
      put_two i h type type type o z cells w f (binary_is type op e ∙ ap (λ r. if_there r Traps (λ z. To (at h.rest (with_values st (z ∷ o.back)) c.labels c.frames))) v)

  pub binary_traps : (type : ValType) (op : BinaryOp) → slice_get code place.at ≡ Some (instr.Binary type op) → binary_of (width type) op (slice_index s.cells (place.sp + 1)) (slice_index s.cells place.sp) ≡ None → reduce scope.funcs c ≡ Traps
  binary_traps type op e v =
      let i = instr.Binary type op in
      let h = G.here scope codes code s depth place c a i e tt in
      let o = G.two_in scope codes code s depth place c a i h type type (type ∷ []) h.sound.typed.1 in
      binary_is type op e ∙ ap (λ r. if_there r Traps (λ z. To (at h.rest (with_values st (z ∷ o.back)) c.labels c.frames))) v

  -- ---- operands, locals and globals

  pub drop_there : slice_get code place.at ≡ Some instr.Drop → place.sp < length s.cells
  drop_there e =
      let h = G.here scope codes code s depth place c a instr.Drop e tt in
      (G.one_in scope codes code s depth place c a instr.Drop h h.sound.typed.1.0 [] h.sound.typed.1.1).low

  -- an operand is taken off, and nothing else changes but globals
  pub take_one : (i : Instr) (h : Here i) (type : ValType) (o : One type [] h.rest h.sound.locals) (globals' : List ℕ) (globals : List ℕ) → globals' ≡ globals → AreOf (map (λ var. var.ty) scope.vars) globals' →
      reduce scope.funcs c ≡ To (at h.rest (record st { values = o.back; globals = globals' }) c.labels c.frames) → go s.cells globals s.memory (place.sp + 1)
  take_one i h type o globals' globals e shared r =
      let low = o.low in
      G.goes_on scope codes code s depth place c a h.rest (record st { values = o.back; globals = globals' }) s.cells globals s.memory (place.at + 1) (place.sp + 1) r h.stands
      (o.then_sound [] (record st { values = o.back; globals = globals' }) tt refl h.sound.own shared h.sound.memory) refl o.after (omega arith) refl e a.shows.memory_is

  pub drop_goes : slice_get code place.at ≡ Some instr.Drop → go s.cells s.globals s.memory (place.sp + 1)
  unfolding act plain
  drop_goes e =
      let h = G.here scope codes code s depth place c a instr.Drop e tt in
      let o = G.one_in scope codes code s depth place c a instr.Drop h h.sound.typed.1.0 [] h.sound.typed.1.1 in
      take_one instr.Drop h h.sound.typed.1.0 o st.globals s.globals a.shows.globals_are h.sound.shared
      (on_one instr.Drop h h.sound.typed.1.0 [] o (λ x xs. To (at h.rest (with_values st xs) c.labels c.frames)) refl)
