-- Loads and stores, the memory's size, constants, and the choice between two operands.
use Rattle.std.proofs.Common.{◌≡◌, ℕ, zero, suc, ◌+◌, ◌-◌, ◌/◌, ◌<◌, ◌≤◌, ◌^◌, List, [], ◌∷◌, ◌++◌, length, take, drop, Some, Bool, true, false, refl, sym, ap, ◌∙◌, subst, arith}
use Rattle.std.specs.Prelude.{slice_get, slice_set, slice_index, reverse, ◌==◌, if◌then◌else◌, ℤ}
use Rattle.std.specs.Int.{w32, w64, cast_unsigned}
use Rattle.std.proofs.lemmas.List.{length-set}
use Rattle.wasm_tree.specs.declared.module.ValType.{ValType}
use Rattle.wasm_tree.specs.declared.module.ValType.TheVariants.{I32, I64}
use Rattle.wasm_tree.specs.declared.instr.Instr.{Instr}
use Rattle.wasm_tree.specs.declared.instr.Instr.TheVariants as instr
use Rattle.wasm_tree.specs.declared.instr.MemArg.{MemArg}
use Rattle.wasm_tree.specs.declared.op.LoadOp.{LoadOp}
use Rattle.wasm_tree.specs.declared.op.StoreOp.{StoreOp}
use Rattle.wasm_tree.specs.declared.module.FuncBody.{FuncBody}
use Rattle.wasm_tree.specs.Meaning.{load_type, load_size, loaded, store_type, store_size, stored}
use Rattle.wasm_tree.specs.Reduce.{Seq, Plain, Func, State, Label, CallFrame, Config, Step, To, Traps, Sticks, at, with_values, push, on_top, on_two, if_there, load_at, store_at, write_bytes, page_size, act, plain, pieces}
use Rattle.wasm_steps.specs.Steps.{reduce}
use Rattle.wasm_runner.specs.declared.place.Place.{Place}
use Rattle.wasm_sound.specs.Kinds.{IsOf, AreOf}
use Rattle.wasm_sound.specs.Sound.{Scope, IsSound}
use Rattle.wasm_runner.specs.Standing.{Stacks, IsAt, held, below_of, waiting}
use Rattle.wasm_runner.specs.Steps.{Goes, Stays}
use Rattle.wasm_runner.proofs.Holding.{held_count, first_cell, written, pushed}
use Rattle.wasm_runner.proofs.Going as G
use Rattle.wasm_runner.proofs.Going.{with_cells, moved}
use Rattle.wasm_runner.proofs.Typing.{one_at, set_at}
use Rattle.wasm_runner.proofs.Simple as S
use Rattle.std.proofs.lemmas.Bool.{le-leb, lt-leb}
use Rattle.wasm_tree.specs.Cells.{cells_of, next_constants}
use Rattle.wasm_runner.specs.Standing.{cells_of_frames, IsWithin}
use Rattle.wasm_runner.proofs.Holding.{below_count}
use Rattle.wasm_tree.specs.Reduce.{exec}
use Rattle.wasm_tree.specs.declared.op.StoreOp.TheVariants as store
use Rattle.wasm_steps.proofs.Compose.{exec-zero, exec-suc}
use Rattle.wasm_steps.proofs.Windows.{length-write_bytes}

stored_length : (op : StoreOp) (x : ℕ) → length (stored op x) ≡ store_size op
stored_length store.I32 x = refl
stored_length store.I64 x = refl
stored_length store.I32Low8 x = refl
stored_length store.I32Low16 x = refl
stored_length store.I64Low8 x = refl
stored_length store.I64Low16 x = refl
stored_length store.I64Low32 x = refl

module _ (scope : Scope) (codes : List FuncBody) (code : List Instr) (s : Stacks) (depth : ℕ) (place : Place) (c : Config) (a : IsAt scope codes code s depth place c) where
  abbrev st : State
  st = c.state

  abbrev go : (cells globals memory : List ℕ) → (sp : ℕ) → Type 0
  go cells globals memory sp = Goes scope codes code (with_cells s cells globals memory) depth (moved place (place.at + 1) sp) c

  -- ---- loads

  pub load_there : (op : LoadOp) (arg : MemArg) → slice_get code place.at ≡ Some (instr.Load op arg) → (place.sp < length s.cells) × IsOf I32 (slice_index s.cells place.sp)
  load_there op arg e =
      let i = instr.Load op arg in
      let h = G.here scope codes code s depth place c a i e tt in
      let o = G.one_in scope codes code s depth place c a i h I32 (load_type op ∷ []) h.sound.typed.1.1 in
      (o.low, o.fits)

  load_is : (op : LoadOp) (arg : MemArg) (e : slice_get code place.at ≡ Some (instr.Load op arg)) →
      let h = G.here scope codes code s depth place c a (instr.Load op arg) e tt in
      let o = G.one_in scope codes code s depth place c a (instr.Load op arg) h I32 (load_type op ∷ []) h.sound.typed.1.1 in
      reduce scope.funcs c ≡ load_at s.memory (slice_index s.cells place.sp + arg.offset) (load_size op) (λ bytes. To (at h.rest (with_values st (loaded op bytes ∷ o.back)) c.labels c.frames))
  unfolding act plain
  load_is op arg e =
      let i = instr.Load op arg in
      let h = G.here scope codes code s depth place c a i e tt in
      let o = G.one_in scope codes code s depth place c a i h I32 (load_type op ∷ []) h.sound.typed.1.1 in
      S.on_one scope codes code s depth place c a i h I32 (load_type op ∷ []) o (λ x xs. load_at st.memory (x + arg.offset) (load_size op) (λ bytes. To (at h.rest (with_values st (loaded op bytes ∷ xs)) c.labels c.frames))) refl
      ∙ ap (λ x. load_at st.memory (x + arg.offset) (load_size op) (λ bytes. To (at h.rest (with_values st (loaded op bytes ∷ o.back)) c.labels c.frames))) (sym o.cell)
      ∙ ap (λ m. load_at m (slice_index s.cells place.sp + arg.offset) (load_size op) (λ bytes. To (at h.rest (with_values st (loaded op bytes ∷ o.back)) c.labels c.frames))) a.shows.memory_is

  pub load_goes : (op : LoadOp) (arg : MemArg) (cells : List ℕ) → slice_get code place.at ≡ Some (instr.Load op arg) → slice_index s.cells place.sp + arg.offset + load_size op ≤ length s.memory →
      cells ≡ slice_set s.cells place.sp (loaded op (take (load_size op) (drop (slice_index s.cells place.sp + arg.offset) s.memory))) → IsOf (load_type op) (loaded op (take (load_size op) (drop (slice_index s.cells place.sp + arg.offset) s.memory))) →
      go cells s.globals s.memory place.sp
  load_goes op arg cells e w v f =
      let i = instr.Load op arg in
      let h = G.here scope codes code s depth place c a i e tt in
      let o = G.one_in scope codes code s depth place c a i h I32 (load_type op ∷ []) h.sound.typed.1.1 in
      let at' = slice_index s.cells place.sp + arg.offset in
      S.put_one scope codes code s depth place c a i h I32 (load_type op) o (loaded op (take (load_size op) (drop at' s.memory))) cells v f
      (load_is op arg e ∙ ap (λ q. if q then To (at h.rest (with_values st (loaded op (take (load_size op) (drop at' s.memory)) ∷ o.back)) c.labels c.frames) else Traps) (le-leb (at' + load_size op) (length s.memory) w))

  pub load_traps : (op : LoadOp) (arg : MemArg) → slice_get code place.at ≡ Some (instr.Load op arg) → length s.memory < slice_index s.cells place.sp + arg.offset + load_size op → reduce scope.funcs c ≡ Traps
  load_traps op arg e w =
      let i = instr.Load op arg in
      let h = G.here scope codes code s depth place c a i e tt in
      let o = G.one_in scope codes code s depth place c a i h I32 (load_type op ∷ []) h.sound.typed.1.1 in
      let at' = slice_index s.cells place.sp + arg.offset in
      load_is op arg e ∙ ap (λ q. if q then To (at h.rest (with_values st (loaded op (take (load_size op) (drop at' s.memory)) ∷ o.back)) c.labels c.frames) else Traps) (lt-leb (at' + load_size op) (length s.memory) w)

  -- ---- stores

  pub store_there : (op : StoreOp) (arg : MemArg) → slice_get code place.at ≡ Some (instr.Store op arg) → (place.sp + 1 < length s.cells) × IsOf I32 (slice_index s.cells (place.sp + 1))
  store_there op arg e =
      let i = instr.Store op arg in
      let h = G.here scope codes code s depth place c a i e tt in
      let o = G.two_in scope codes code s depth place c a i h I32 (store_type op) [] h.sound.typed.1.1 in
      (o.low, o.fits_x)

  store_is : (op : StoreOp) (arg : MemArg) (e : slice_get code place.at ≡ Some (instr.Store op arg)) →
      let h = G.here scope codes code s depth place c a (instr.Store op arg) e tt in
      let o = G.two_in scope codes code s depth place c a (instr.Store op arg) h I32 (store_type op) [] h.sound.typed.1.1 in
      reduce scope.funcs c ≡ store_at s.memory (slice_index s.cells (place.sp + 1) + arg.offset) (store_size op) (stored op (slice_index s.cells place.sp)) (λ m. To (at h.rest (record st { values = o.back; memory = m }) c.labels c.frames))
  unfolding act plain
  store_is op arg e =
      let i = instr.Store op arg in
      let h = G.here scope codes code s depth place c a i e tt in
      let o = G.two_in scope codes code s depth place c a i h I32 (store_type op) [] h.sound.typed.1.1 in
      S.on_both scope codes code s depth place c a i h I32 (store_type op) [] o (λ x y xs. store_at st.memory (x + arg.offset) (store_size op) (stored op y) (λ m. To (at h.rest (record st { values = xs; memory = m }) c.labels c.frames))) refl
      ∙ ap (λ x. store_at st.memory (x + arg.offset) (store_size op) (stored op o.y) (λ m. To (at h.rest (record st { values = o.back; memory = m }) c.labels c.frames))) (sym o.cell_x)
      ∙ ap (λ y. store_at st.memory (slice_index s.cells (place.sp + 1) + arg.offset) (store_size op) (stored op y) (λ m. To (at h.rest (record st { values = o.back; memory = m }) c.labels c.frames))) (sym o.cell_y)
      ∙ ap (λ l. store_at l (slice_index s.cells (place.sp + 1) + arg.offset) (store_size op) (stored op (slice_index s.cells place.sp)) (λ m. To (at h.rest (record st { values = o.back; memory = m }) c.labels c.frames))) a.shows.memory_is

  pub store_goes : (op : StoreOp) (arg : MemArg) (memory : List ℕ) → slice_get code place.at ≡ Some (instr.Store op arg) → slice_index s.cells (place.sp + 1) + arg.offset + store_size op ≤ length s.memory →
      memory ≡ write_bytes s.memory (slice_index s.cells (place.sp + 1) + arg.offset) (stored op (slice_index s.cells place.sp)) → go s.cells s.globals memory (place.sp + 1 + 1)
  store_goes op arg memory e w v =
      let i = instr.Store op arg in
      let h = G.here scope codes code s depth place c a i e tt in
      let o = G.two_in scope codes code s depth place c a i h I32 (store_type op) [] h.sound.typed.1.1 in
      let at' = slice_index s.cells (place.sp + 1) + arg.offset in
      let bytes = stored op (slice_index s.cells place.sp) in
      let m = write_bytes s.memory at' bytes in
      let st' : State = record st { values = o.back; memory = m } in
      let low = o.low in
      let k = stored_length op (slice_index s.cells place.sp) in
      let same : length m ≡ length s.memory = length-write_bytes s.memory at' bytes (omega arith) in
      let small = h.sound.memory in
      let was = ap length a.shows.memory_is in
      G.goes_on scope codes code s depth place c a h.rest st' s.cells s.globals memory (place.at + 1) (place.sp + 1 + 1)
      (store_is op arg e ∙ ap (λ q. if q then To (at h.rest st' c.labels c.frames) else Traps) (le-leb (at' + store_size op) (length s.memory) w))
      h.stands (o.then_sound [] st' tt refl h.sound.own h.sound.shared (omega arith)) refl o.after (omega arith) refl a.shows.globals_are (sym v)

  pub store_two : (op : StoreOp) (arg : MemArg) (memory : List ℕ) → slice_get code place.at ≡ Some (instr.Store op arg) → slice_index s.cells (place.sp + 1) + arg.offset + store_size op ≤ length s.memory →
      memory ≡ write_bytes s.memory (slice_index s.cells (place.sp + 1) + arg.offset) (stored op (slice_index s.cells place.sp)) → go s.cells s.globals memory (place.sp + 2)
  store_two op arg memory e w v = let n : place.sp + 1 + 1 ≡ place.sp + 2 = omega arith in subst (λ n. go s.cells s.globals memory n) n (store_goes op arg memory e w v)

  pub store_traps : (op : StoreOp) (arg : MemArg) → slice_get code place.at ≡ Some (instr.Store op arg) → length s.memory < slice_index s.cells (place.sp + 1) + arg.offset + store_size op → reduce scope.funcs c ≡ Traps
  store_traps op arg e w =
      let i = instr.Store op arg in
      let h = G.here scope codes code s depth place c a i e tt in
      let o = G.two_in scope codes code s depth place c a i h I32 (store_type op) [] h.sound.typed.1.1 in
      let at' = slice_index s.cells (place.sp + 1) + arg.offset in
      let m = write_bytes s.memory at' (stored op (slice_index s.cells place.sp)) in
      store_is op arg e ∙ ap (λ q. if q then To (at h.rest (record st { values = o.back; memory = m }) c.labels c.frames) else Traps) (lt-leb (at' + store_size op) (length s.memory) w)

  -- ---- the memory's size

  size_pushes : (e : slice_get code place.at ≡ Some instr.MemorySize) → let h = G.here scope codes code s depth place c a instr.MemorySize e tt in
      (reduce scope.funcs c ≡ To (at h.rest (push (length s.memory / page_size) st) c.labels c.frames)) × IsSound scope (at h.rest (push (length s.memory / page_size) st) c.labels c.frames)
  unfolding act plain
  size_pushes e =
      let i = instr.MemorySize in
      let h = G.here scope codes code s depth place c a i e tt in
      let k = G.none_in scope codes code s depth place c a i h (I32 ∷ []) h.sound.typed.1 in
      let z = length s.memory / page_size in
      let small = h.sound.memory in
      let was = ap length a.shows.memory_is in
      let f : z < 2 ^ 32 = omega arith in (
        G.now scope codes code s depth place c a (Plain i h.rest) h.is ∙ ap (λ m. To (at h.rest (push (length m / page_size) st) c.labels c.frames)) a.shows.memory_is,
        k.then_sound (z ∷ []) (push z st) (f, tt) refl h.sound.own h.sound.shared h.sound.memory,
      )

  pub size_there : slice_get code place.at ≡ Some instr.MemorySize → 0 < place.sp
  size_there e = S.push_room scope codes code s depth place c a instr.MemorySize (G.here scope codes code s depth place c a instr.MemorySize e tt) (length s.memory / page_size) (size_pushes e).0

  pub size_goes : (cells : List ℕ) → slice_get code place.at ≡ Some instr.MemorySize → cells ≡ slice_set s.cells (place.sp - 1) (length s.memory / page_size) → go cells s.globals s.memory (place.sp - 1)
  size_goes cells e w =
      let p = size_pushes e in
      S.put_more scope codes code s depth place c a instr.MemorySize (G.here scope codes code s depth place c a instr.MemorySize e tt) (length s.memory / page_size) cells w p.0 p.1

  -- ---- constants

  -- what a constant leads to runs alike
  free : (t : Seq) (z : ℕ) (i : Instr) → c.code ≡ Plain i t → act scope.funcs (Plain i t) st c.labels c.frames ≡ act scope.funcs t (push z st) c.labels c.frames → (k : ℕ) → exec scope.funcs k c ≡ exec scope.funcs k (at t (push z st) c.labels c.frames)
  free t z i e r zero = exec-zero scope.funcs c ∙ sym (exec-zero scope.funcs (at t (push z st) c.labels c.frames))
  free t z i e r (suc k) =
      let d : Config = at t (push z st) c.labels c.frames in
      exec-suc scope.funcs k c ∙ ap (λ x. Rattle.wasm_tree.specs.Reduce.follow x (exec scope.funcs k)) (G.now scope codes code s depth place c a (Plain i t) e ∙ r) ∙ sym (exec-suc scope.funcs k d)

  record Frees (i : Instr) (h : G.Here scope codes code s depth place c a i) (z : ℕ) : Type 0 where
    same : (k : ℕ) → exec scope.funcs k c ≡ exec scope.funcs k (at h.rest (push z st) c.labels c.frames)
    sound : IsSound scope (at h.rest (push z st) c.labels c.frames)
    alike : reduce scope.funcs c ≡ reduce scope.funcs (at h.rest (push z st) c.labels c.frames)
    as_many : cells_of (at h.rest (push z st) c.labels c.frames) ≡ cells_of c

  free_within : (i : Instr) (h : G.Here scope codes code s depth place c a i) (z : ℕ) → Frees i h z → IsWithin (length s.cells) (length s.blocks) (length s.callers) (at h.rest (push z st) c.labels c.frames)
  free_within i h z f =
      let w = G.room_now scope.funcs (length s.cells) (length s.blocks) (length s.callers) c a.room in
      record { cells_fit = subst (λ n. n ≤ length s.cells) (sym f.as_many) w.cells_fit; blocks_fit = w.blocks_fit; callers_fit = w.callers_fit }

  free_room : (i : Instr) (h : G.Here scope codes code s depth place c a i) (z : ℕ) → Frees i h z → 0 < place.sp
  free_room i h z f =
      let d : Config = at h.rest (push z st) c.labels c.frames in
      let w = free_within i h z f in
      let n = Rattle.wasm_runner.proofs.Holding.held_within d (length s.cells) w.cells_fit in
      let m = held_count d in let k = held_count c in let e = a.shows.sp_is in
      omega arith

  free_goes : (i : Instr) (h : G.Here scope codes code s depth place c a i) (z : ℕ) (cells : List ℕ) → cells ≡ slice_set s.cells (place.sp - 1) z → Frees i h z →
      Stays scope codes code (with_cells s cells s.globals s.memory) depth (moved place (place.at + 1) (place.sp - 1)) c
  free_goes i h z cells e f =
      let d : Config = at h.rest (push z st) c.labels c.frames in
      let n : length cells ≡ length s.cells = ap length e ∙ length-set s.cells (place.sp - 1) z in
      let room = free_room i h z f in
      let low = G.sp_within scope codes code s depth place c a in
      let hold : drop (place.sp - 1) cells ≡ held d = ap (drop (place.sp - 1)) e ∙ pushed s.cells place.sp z room low ∙ ap (λ l. z ∷ l) a.shows.holds in
      record {
        next = d;
        same = f.same;
        is = record {
          shows = G.shown scope codes code s depth place c a h.rest (push z st) cells s.globals s.memory (place.at + 1) (place.sp - 1) h.stands refl hold (omega arith) n a.shows.globals_are a.shows.memory_is;
          sound = f.sound;
          room = subst (λ x. Rattle.wasm_runner.specs.Standing.HasRoom scope.funcs x (length s.blocks) (length s.callers) d) (sym n) (G.room_same scope.funcs (length s.cells) (length s.blocks) (length s.callers) c d a.room f.alike (free_within i h z f));
        };
      }

  const32 : (value : ℤ) (e : slice_get code place.at ≡ Some (instr.I32Const value)) → IsOf I32 (cast_unsigned w32 value) → Frees (instr.I32Const value) (G.here scope codes code s depth place c a (instr.I32Const value) e tt) (cast_unsigned w32 value)
  unfolding act plain
  const32 value e f =
      let i = instr.I32Const value in
      let h = G.here scope codes code s depth place c a i e tt in
      let k = G.none_in scope codes code s depth place c a i h (I32 ∷ []) h.sound.typed.1 in
      let z = cast_unsigned w32 value in
      let q = ap next_constants h.is in
      record { alike = G.now scope codes code s depth place c a (Plain i h.rest) h.is; as_many = omega arith; same = free h.rest z i h.is refl; sound = k.then_sound (z ∷ []) (push z st) (f, tt) refl h.sound.own h.sound.shared h.sound.memory }

  const64 : (value : ℤ) (e : slice_get code place.at ≡ Some (instr.I64Const value)) → IsOf I64 (cast_unsigned w64 value) → Frees (instr.I64Const value) (G.here scope codes code s depth place c a (instr.I64Const value) e tt) (cast_unsigned w64 value)
  unfolding act plain
  const64 value e f =
      let i = instr.I64Const value in
      let h = G.here scope codes code s depth place c a i e tt in
      let k = G.none_in scope codes code s depth place c a i h (I64 ∷ []) h.sound.typed.1 in
      let z = cast_unsigned w64 value in
      let q = ap next_constants h.is in
      record { alike = G.now scope codes code s depth place c a (Plain i h.rest) h.is; as_many = omega arith; same = free h.rest z i h.is refl; sound = k.then_sound (z ∷ []) (push z st) (f, tt) refl h.sound.own h.sound.shared h.sound.memory }

  pub const32_there : (value : ℤ) → slice_get code place.at ≡ Some (instr.I32Const value) → IsOf I32 (cast_unsigned w32 value) → 0 < place.sp
  const32_there value e f = free_room (instr.I32Const value) (G.here scope codes code s depth place c a (instr.I32Const value) e tt) (cast_unsigned w32 value) (const32 value e f)

  pub const64_there : (value : ℤ) → slice_get code place.at ≡ Some (instr.I64Const value) → IsOf I64 (cast_unsigned w64 value) → 0 < place.sp
  const64_there value e f = free_room (instr.I64Const value) (G.here scope codes code s depth place c a (instr.I64Const value) e tt) (cast_unsigned w64 value) (const64 value e f)

  pub const32_goes : (value : ℤ) (cells : List ℕ) → slice_get code place.at ≡ Some (instr.I32Const value) → IsOf I32 (cast_unsigned w32 value) → cells ≡ slice_set s.cells (place.sp - 1) (cast_unsigned w32 value) →
      Stays scope codes code (with_cells s cells s.globals s.memory) depth (moved place (place.at + 1) (place.sp - 1)) c
  const32_goes value cells e f w = free_goes (instr.I32Const value) (G.here scope codes code s depth place c a (instr.I32Const value) e tt) (cast_unsigned w32 value) cells w (const32 value e f)

  pub const64_goes : (value : ℤ) (cells : List ℕ) → slice_get code place.at ≡ Some (instr.I64Const value) → IsOf I64 (cast_unsigned w64 value) → cells ≡ slice_set s.cells (place.sp - 1) (cast_unsigned w64 value) →
      Stays scope codes code (with_cells s cells s.globals s.memory) depth (moved place (place.at + 1) (place.sp - 1)) c
  const64_goes value cells e f w = free_goes (instr.I64Const value) (G.here scope codes code s depth place c a (instr.I64Const value) e tt) (cast_unsigned w64 value) cells w (const64 value e f)

  -- ---- select

  record Chooses (e : slice_get code place.at ≡ Some instr.Select) : Type 0 where
    back : List ℕ
    low : place.sp + 3 ≤ length s.cells
    after : drop (place.sp + 2 + 1) s.cells ≡ G.under scope codes code s depth place c a back
    z : ℕ
    z_is : z ≡ (if slice_index s.cells place.sp == 0 then slice_index s.cells (place.sp + 1) else slice_index s.cells (place.sp + 2))
    reduces : reduce scope.funcs c ≡ To (at (G.here scope codes code s depth place c a instr.Select e tt).rest (with_values st (z ∷ back)) c.labels c.frames)
    sound : IsSound scope (at (G.here scope codes code s depth place c a instr.Select e tt).rest (with_values st (z ∷ back)) c.labels c.frames)

  chooses : (e : slice_get code place.at ≡ Some instr.Select) → Chooses e
  unfolding act plain
  chooses e = by k.front k.is k.ins_are
    where
      h : G.Here scope codes code s depth place c a instr.Select
      h = G.here scope codes code s depth place c a instr.Select e tt

      type : ValType
      type = h.sound.typed.1.0

      k : Rattle.wasm_runner.proofs.Typing.Takes1 scope (I32 ∷ type ∷ type ∷ []) (type ∷ []) h.rest st c.labels c.frames h.sound.locals
      k = Rattle.wasm_runner.proofs.Typing.took scope instr.Select h.rest st c.labels c.frames h.sound (I32 ∷ type ∷ type ∷ []) (type ∷ []) h.sound.typed.1.1

      picks : (b : Bool) (x y : ℕ) → IsOf type x → IsOf type y → IsOf type (if b then y else x)
      picks true x y f g = g
      picks false x y f g = f

      by : (front : List ℕ) → st.values ≡ front ++ k.back → AreOf (I32 ∷ type ∷ type ∷ []) front → Chooses e
      by [] q f = absurd f
      by (b ∷ []) q f = absurd f.1
      by (b ∷ y ∷ []) q f = absurd f.1.1
      by (b ∷ y ∷ x ∷ w ∷ ws) q f = absurd f.1.1.1
      by (b ∷ y ∷ x ∷ []) q f =
          let under = G.under scope codes code s depth place c a k.back in
          let one = first_cell s.cells place.sp b (y ∷ x ∷ under) (a.shows.holds ∙ ap (λ vs. vs ++ (below_of c.labels ++ (reverse st.locals ++ waiting c.frames))) q) in
          let two = first_cell s.cells (place.sp + 1) y (x ∷ under) one.2 in
          let next : place.sp + 1 + 1 ≡ place.sp + 2 = omega arith in
          let three = first_cell s.cells (place.sp + 2) x under (subst (λ n. drop n s.cells ≡ x ∷ under) next two.2) in
          let w = three.0 in
          let z = if b == 0 then y else x in
          record {
            back = k.back;
            low = omega arith;
            after = three.2;
            z = z;
            z_is = ap (λ v. if v == 0 then y else x) (sym one.1) ∙ ap (λ v. if slice_index s.cells place.sp == 0 then v else x) (sym two.1) ∙ ap (λ v. if slice_index s.cells place.sp == 0 then slice_index s.cells (place.sp + 1) else v) (sym three.1);
            reduces = G.now scope codes code s depth place c a (Plain instr.Select h.rest) h.is ∙ ap (λ vs. on_top vs (λ c' xs. on_two xs (λ x y ys. To (at h.rest (with_values st ((if c' == 0 then y else x) ∷ ys)) c.labels c.frames)))) q;
            sound = k.then_sound (z ∷ []) (with_values st (z ∷ k.back)) (picks (b == 0) x y f.1.1.0 f.1.0, tt) refl h.sound.own h.sound.shared h.sound.memory;
          }

  pub select_there : slice_get code place.at ≡ Some instr.Select → place.sp + 3 ≤ length s.cells
  select_there e = (chooses e).low

  pub select_goes : (cells : List ℕ) → slice_get code place.at ≡ Some instr.Select → cells ≡ slice_set s.cells (place.sp + 2) (if slice_index s.cells place.sp == 0 then slice_index s.cells (place.sp + 1) else slice_index s.cells (place.sp + 2)) →
      go cells s.globals s.memory (place.sp + 2)
  select_goes cells e w =
      let o = chooses e in
      let h = G.here scope codes code s depth place c a instr.Select e tt in
      let w' : cells ≡ slice_set s.cells (place.sp + 2) o.z = w ∙ ap (λ v. slice_set s.cells (place.sp + 2) v) (sym o.z_is) in
      let n : length cells ≡ length s.cells = ap length w' ∙ length-set s.cells (place.sp + 2) o.z in
      let low = o.low in
      let d : drop (place.sp + 2) cells ≡ held (at h.rest (with_values st (o.z ∷ o.back)) c.labels c.frames) = ap (drop (place.sp + 2)) w' ∙ written s.cells (place.sp + 2) o.z (omega arith) ∙ ap (λ l. o.z ∷ l) o.after in
      G.goes_on scope codes code s depth place c a h.rest (with_values st (o.z ∷ o.back)) cells s.globals s.memory (place.at + 1) (place.sp + 2) o.reduces h.stands o.sound refl d (omega arith) n a.shows.globals_are a.shows.memory_is
