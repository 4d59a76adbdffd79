-- Instructions on locals and globals.
use Rattle.std.proofs.Common.{◌≡◌, ℕ, zero, suc, ◌+◌, ◌-◌, ◌<◌, ◌≤◌, List, [], ◌∷◌, ◌++◌, length, drop, Some, refl, sym, ap, ◌∙◌, subst, arith, append_assoc, length-append}
use Rattle.std.specs.Prelude.{slice_get, slice_set, slice_index, reverse, map, nat_lt, if◌then◌else◌}
use Rattle.std.proofs.lemmas.List.{length-set}
use Rattle.wasm_tree.specs.declared.instr.Instr.{Instr}
use Rattle.wasm_tree.specs.declared.instr.Instr.TheVariants as instr
use Rattle.wasm_tree.specs.declared.module.FuncBody.{FuncBody}
use Rattle.wasm_tree.specs.Reduce.{Plain, State, Config, To, Sticks, at, push, if_there, act, plain}
use Rattle.wasm_steps.specs.Steps.{reduce}
use Rattle.wasm_runner.specs.declared.place.Place.{Place}
use Rattle.wasm_sound.specs.Kinds.{IsOf}
use Rattle.wasm_sound.specs.Sound.{Scope, IsSound}
use Rattle.wasm_runner.specs.Standing.{Stacks, IsAt, held, below_of, waiting}
use Rattle.wasm_runner.specs.Steps.{Goes}
use Rattle.wasm_runner.proofs.Holding.{held_count}
use Rattle.wasm_runner.proofs.Going as G
use Rattle.wasm_runner.proofs.Going.{with_cells, moved}
use Rattle.wasm_runner.proofs.Typing.{one_at, set_at}
use Rattle.wasm_runner.proofs.Simple as S
use Rattle.std.proofs.Common.{get_or}
use Rattle.std.proofs.lemmas.Bool.{lt-ltb}
use Rattle.std.proofs.lemmas.List.{get_or-drop, get_or-append-add, get_or-reverse, drop-set-add, set-append_left, set-append_right, reverse-append, length-reverse}
use Rattle.std.proofs.Math.ListN.{get_or-append}
use Rattle.std.proofs.Math.Seq.{set-append_seam}
use Rattle.std.proofs.lemmas.Option.{slice_get-map, slice_get_within, get_or_from_slice_get}
use Rattle.std.specs.Option.{option_map}
use Rattle.wasm_tree.specs.declared.module.GlobalVar.{GlobalVar}
use Rattle.wasm_runner.proofs.Holding.{below_count}

-- a write into a list from its end
reverse_set : (l : List ℕ) (x i v : ℕ) → i + 1 + x ≡ length l → slice_set (reverse l) i v ≡ reverse (slice_set l x v)
reverse_set [] x i v e = absurd (omega arith)
reverse_set (y ∷ ys) zero i v e =
    let n = length-reverse ys in
    let at_end : i ≡ length (reverse ys) = omega arith in
    ap (λ l. slice_set l i v) (reverse-append (y ∷ []) ys) ∙ ap (λ k. slice_set (reverse ys ++ y ∷ []) k v) at_end ∙ set-append_seam (reverse ys) y [] v ∙ sym (reverse-append (v ∷ []) ys)
reverse_set (y ∷ ys) (suc x) i v e =
    let n = length-reverse ys in
    ap (λ l. slice_set l i v) (reverse-append (y ∷ []) ys) ∙ set-append_left (reverse ys) (y ∷ []) i v (omega arith)
    ∙ ap (λ l. l ++ y ∷ []) (reverse_set ys x i v (omega arith)) ∙ sym (reverse-append (y ∷ []) (slice_set ys x v))

-- a local's cell
local_cell : (cells front locals tail : List ℕ) (k base x v : ℕ) → drop k cells ≡ front ++ (reverse locals ++ tail) → base ≡ k + length front + length locals → slice_get locals x ≡ Some v →
    slice_index cells (base - 1 - x) ≡ v
local_cell cells front locals tail k base x v h b e =
    let w = slice_get_within locals x v e in
    let n = length locals - 1 - x in
    let r = length-reverse locals in
    let i : base - 1 - x ≡ k + (length front + n) = omega arith in
    let m : length locals - 1 - n ≡ x = omega arith in
    ap (λ j. slice_index cells j) i ∙ sym (get_or-drop k cells (length front + n) 0) ∙ ap (λ l. get_or l (length front + n) 0) h
    ∙ get_or-append-add front (reverse locals ++ tail) n 0 ∙ get_or-append (reverse locals) tail 0 n (omega arith) ∙ get_or-reverse locals n 0 (omega arith)
    ∙ ap (λ j. get_or locals j 0) m ∙ get_or_from_slice_get locals x v 0 e

local_set : (cells front locals tail : List ℕ) (k base x v : ℕ) → drop k cells ≡ front ++ (reverse locals ++ tail) → base ≡ k + length front + length locals → x < length locals →
    drop k (slice_set cells (base - 1 - x) v) ≡ front ++ (reverse (slice_set locals x v) ++ tail)
local_set cells front locals tail k base x v h b w =
    let n = length locals - 1 - x in
    let r = length-reverse locals in
    let i : base - 1 - x ≡ k + (length front + n) = omega arith in
    let j : length front + n - length front ≡ n = omega arith in
    ap (λ j. drop k (slice_set cells j v)) i ∙ drop-set-add k cells (length front + n) v ∙ ap (λ l. slice_set l (length front + n) v) h
    ∙ set-append_right front (reverse locals ++ tail) (length front) (length front + n) v refl (omega arith) ∙ ap (λ j. front ++ slice_set (reverse locals ++ tail) j v) j
    ∙ ap (λ l. front ++ l) (set-append_left (reverse locals) tail n v (omega arith) ∙ ap (λ l. l ++ tail) (reverse_set locals x n v (omega arith)))

module _ (scope : Scope) (codes : List FuncBody) (code : List Instr) (s : Stacks) (depth : ℕ) (place : Place) (c : Config) (a : IsAt scope codes code s depth place c) where
  abbrev st : State
  st = c.state

  abbrev go : (cells globals memory : List ℕ) → (sp : ℕ) → Type 0
  go cells globals memory sp = Goes scope codes code (with_cells s cells globals memory) depth (moved place (place.at + 1) sp) c

  -- operands in front of the locals
  front : List ℕ
  front = st.values ++ below_of c.labels

  abbrev tail : List ℕ
  tail = waiting c.frames

  base_counts : place.base ≡ place.sp + length (st.values ++ below_of c.labels) + length st.locals
  base_counts =
      let m = held_count c in let e = a.shows.sp_is in let b = a.shows.base_is in let l = below_count c.labels in let n = length-append st.values (below_of c.labels) in omega arith

  holds : drop place.sp s.cells ≡ (st.values ++ below_of c.labels) ++ (reverse st.locals ++ tail)
  holds = a.shows.holds ∙ sym (append_assoc st.values (below_of c.labels) (reverse st.locals ++ tail))

  pub local_low : (x v : ℕ) → slice_get st.locals x ≡ Some v → x < place.base
  local_low x v e = let w = slice_get_within st.locals x v e in let b = base_counts in omega arith

  pub base_within : place.base ≤ length s.cells
  base_within = let b = a.shows.base_is in omega arith

  -- ---- local.get

  record Gets (i : Instr) (h : G.Here scope codes code s depth place c a i) (z : ℕ) : Type 0 where
    reduces : reduce scope.funcs c ≡ To (at h.rest (push z st) c.labels c.frames)
    sound : IsSound scope (at h.rest (push z st) c.labels c.frames)

  get_local : (x : ℕ) (e : slice_get code place.at ≡ Some (instr.LocalGet x)) → let h = G.here scope codes code s depth place c a (instr.LocalGet x) e tt in (v : ℕ) × (slice_get st.locals x ≡ Some v) × Gets (instr.LocalGet x) h v
  unfolding act plain
  get_local x e =
      let i = instr.LocalGet x in
      let h = G.here scope codes code s depth place c a i e tt in
      let t = h.sound.typed.1 in
      let k = G.none_in scope codes code s depth place c a i h (t.0 ∷ []) t.2 in
      let l = one_at h.sound.locals st.locals x t.0 h.sound.own t.1 in (
        l.0,
        l.1,
        record {
          reduces = G.now scope codes code s depth place c a (Plain i h.rest) h.is ∙ ap (λ o. if_there o Sticks (λ x. To (at h.rest (push x st) c.labels c.frames))) l.1;
          sound = k.then_sound (l.0 ∷ []) (push l.0 st) (l.2, tt) refl h.sound.own h.sound.shared h.sound.memory;
        },
      )

  pub local_get_there : (x : ℕ) → slice_get code place.at ≡ Some (instr.LocalGet x) → (0 < place.sp) × (x < place.base)
  local_get_there x e =
      let i = instr.LocalGet x in
      let h = G.here scope codes code s depth place c a i e tt in
      let g = get_local x e in
      (S.push_room scope codes code s depth place c a i h g.0 g.2.reduces, local_low x g.0 g.1)

  pub local_get_goes : (x : ℕ) (cells : List ℕ) → slice_get code place.at ≡ Some (instr.LocalGet x) → cells ≡ slice_set s.cells (place.sp - 1) (slice_index s.cells (place.base - 1 - x)) → go cells s.globals s.memory (place.sp - 1)
  local_get_goes x cells e w =
      let i = instr.LocalGet x in
      let h = G.here scope codes code s depth place c a i e tt in
      let g = get_local x e in
      let v = local_cell s.cells (st.values ++ below_of c.labels) st.locals tail place.sp place.base x g.0 holds base_counts g.1 in
      S.put_more scope codes code s depth place c a i h g.0 cells (w ∙ ap (λ z. slice_set s.cells (place.sp - 1) z) v) g.2.reduces g.2.sound

  -- ---- local.set and local.tee

  pub local_set_there : (x : ℕ) → slice_get code place.at ≡ Some (instr.LocalSet x) → (place.sp < length s.cells) × (x < place.base)
  local_set_there x e =
      let i = instr.LocalSet x in
      let h = G.here scope codes code s depth place c a i e tt in
      let t = h.sound.typed.1 in
      let o = G.one_in scope codes code s depth place c a i h t.0 [] t.2 in
      let l = one_at h.sound.locals st.locals x t.0 h.sound.own t.1 in
      (o.low, local_low x l.0 l.1)

  pub local_set_goes : (x : ℕ) (cells : List ℕ) → slice_get code place.at ≡ Some (instr.LocalSet x) → cells ≡ slice_set s.cells (place.base - 1 - x) (slice_index s.cells place.sp) → go cells s.globals s.memory (place.sp + 1)
  unfolding act plain
  local_set_goes x cells e w =
      let i = instr.LocalSet x in
      let h = G.here scope codes code s depth place c a i e tt in
      let t = h.sound.typed.1 in
      let o = G.one_in scope codes code s depth place c a i h t.0 [] t.2 in
      let l = one_at h.sound.locals st.locals x t.0 h.sound.own t.1 in
      let z = slice_index s.cells place.sp in
      let st' : State = record st { values = o.back; locals = slice_set st.locals x z } in
      let n : length cells ≡ length s.cells = ap length w ∙ length-set s.cells (place.base - 1 - x) z in
      let low = o.low in
      let bc = base_counts in let vl = ap length o.is in
      let nf = length-append st.values (below_of c.labels) in let nb = length-append o.back (below_of c.labels) in
      let after : drop (place.sp + 1) s.cells ≡ (o.back ++ below_of c.labels) ++ (reverse st.locals ++ tail) = o.after ∙ sym (append_assoc o.back (below_of c.labels) (reverse st.locals ++ tail)) in
      let b : place.base ≡ place.sp + 1 + length (o.back ++ below_of c.labels) + length st.locals = omega arith in
      let d : drop (place.sp + 1) cells ≡ held (at h.rest st' c.labels c.frames) =
      ap (drop (place.sp + 1)) w ∙ local_set s.cells (o.back ++ below_of c.labels) st.locals tail (place.sp + 1) place.base x z after b l.3 ∙ append_assoc o.back (below_of c.labels) (reverse (slice_set st.locals x z) ++ tail) in
      let r : reduce scope.funcs c ≡ To (at h.rest st' c.labels c.frames) =
      S.on_one scope codes code s depth place c a i h t.0 [] o (λ y ys. if nat_lt x (length st.locals) then To (at h.rest (record st { values = ys; locals = slice_set st.locals x y }) c.labels c.frames) else Sticks) refl
      ∙ ap (λ q. if q then To (at h.rest (record st { values = o.back; locals = slice_set st.locals x o.x }) c.labels c.frames) else Sticks) (lt-ltb x (length st.locals) l.3)
      ∙ ap (λ y. To (at h.rest (record st { values = o.back; locals = slice_set st.locals x y }) c.labels c.frames)) (sym o.cell) in
      G.goes_on scope codes code s depth place c a h.rest st' cells s.globals s.memory (place.at + 1) (place.sp + 1) r h.stands
      (o.then_sound [] st' tt refl (set_at h.sound.locals st.locals x z t.0 h.sound.own t.1 o.fits) h.sound.shared h.sound.memory) (length-set st.locals x z) d (omega arith) n a.shows.globals_are a.shows.memory_is

  pub local_tee_there : (x : ℕ) → slice_get code place.at ≡ Some (instr.LocalTee x) → (place.sp < length s.cells) × (x < place.base)
  local_tee_there x e =
      let i = instr.LocalTee x in
      let h = G.here scope codes code s depth place c a i e tt in
      let t = h.sound.typed.1 in
      let o = G.one_in scope codes code s depth place c a i h t.0 (t.0 ∷ []) t.2 in
      let l = one_at h.sound.locals st.locals x t.0 h.sound.own t.1 in
      (o.low, local_low x l.0 l.1)

  pub local_tee_goes : (x : ℕ) (cells : List ℕ) → slice_get code place.at ≡ Some (instr.LocalTee x) → cells ≡ slice_set s.cells (place.base - 1 - x) (slice_index s.cells place.sp) → go cells s.globals s.memory place.sp
  unfolding act plain
  local_tee_goes x cells e w =
      let i = instr.LocalTee x in
      let h = G.here scope codes code s depth place c a i e tt in
      let t = h.sound.typed.1 in
      let o = G.one_in scope codes code s depth place c a i h t.0 (t.0 ∷ []) t.2 in
      let l = one_at h.sound.locals st.locals x t.0 h.sound.own t.1 in
      let z = slice_index s.cells place.sp in
      let st' : State = record st { locals = slice_set st.locals x z } in
      let n : length cells ≡ length s.cells = ap length w ∙ length-set s.cells (place.base - 1 - x) z in
      let low = o.low in
      let d : drop place.sp cells ≡ held (at h.rest st' c.labels c.frames) =
      ap (drop place.sp) w ∙ local_set s.cells (st.values ++ below_of c.labels) st.locals tail place.sp place.base x z holds base_counts l.3 ∙ append_assoc st.values (below_of c.labels) (reverse (slice_set st.locals x z) ++ tail) in
      let r : reduce scope.funcs c ≡ To (at h.rest st' c.labels c.frames) =
      S.on_one scope codes code s depth place c a i h t.0 (t.0 ∷ []) o (λ y ys. if nat_lt x (length st.locals) then To (at h.rest (record st { locals = slice_set st.locals x y }) c.labels c.frames) else Sticks) refl
      ∙ ap (λ q. if q then To (at h.rest (record st { locals = slice_set st.locals x o.x }) c.labels c.frames) else Sticks) (lt-ltb x (length st.locals) l.3)
      ∙ ap (λ y. To (at h.rest (record st { locals = slice_set st.locals x y }) c.labels c.frames)) (sym o.cell) in
      G.goes_on scope codes code s depth place c a h.rest st' cells s.globals s.memory (place.at + 1) place.sp r h.stands
      (o.then_sound (o.x ∷ []) st' (subst (IsOf t.0) o.cell o.fits, tt) o.is (set_at h.sound.locals st.locals x z t.0 h.sound.own t.1 o.fits) h.sound.shared h.sound.memory) (length-set st.locals x z) d (omega arith) n a.shows.globals_are a.shows.memory_is

  -- ---- globals

  global_type : (x : ℕ) (var : GlobalVar) → slice_get scope.vars x ≡ Some var → slice_get (map (λ var. var.ty) scope.vars) x ≡ Some var.ty
  global_type x var e = slice_get-map (λ var. var.ty) scope.vars x ∙ ap (option_map (λ var. var.ty)) e

  get_global : (x : ℕ) (e : slice_get code place.at ≡ Some (instr.GlobalGet x)) → let h = G.here scope codes code s depth place c a (instr.GlobalGet x) e tt in (v : ℕ) × (slice_get st.globals x ≡ Some v) × Gets (instr.GlobalGet x) h v
  unfolding act plain
  get_global x e =
      let i = instr.GlobalGet x in
      let h = G.here scope codes code s depth place c a i e tt in
      let t = h.sound.typed.1 in
      let k = G.none_in scope codes code s depth place c a i h (t.0.ty ∷ []) t.2 in
      let l = one_at (map (λ var. var.ty) scope.vars) st.globals x t.0.ty h.sound.shared (global_type x t.0 t.1) in (
        l.0,
        l.1,
        record {
          reduces = G.now scope codes code s depth place c a (Plain i h.rest) h.is ∙ ap (λ o. if_there o Sticks (λ x. To (at h.rest (push x st) c.labels c.frames))) l.1;
          sound = k.then_sound (l.0 ∷ []) (push l.0 st) (l.2, tt) refl h.sound.own h.sound.shared h.sound.memory;
        },
      )

  pub global_get_there : (x : ℕ) → slice_get code place.at ≡ Some (instr.GlobalGet x) → (0 < place.sp) × (x < length s.globals)
  global_get_there x e =
      let i = instr.GlobalGet x in
      let h = G.here scope codes code s depth place c a i e tt in
      let g = get_global x e in
      let w = slice_get_within st.globals x g.0 g.1 in
      (S.push_room scope codes code s depth place c a i h g.0 g.2.reduces, subst (λ l. x < length l) a.shows.globals_are w)

  pub global_get_goes : (x : ℕ) (cells : List ℕ) → slice_get code place.at ≡ Some (instr.GlobalGet x) → cells ≡ slice_set s.cells (place.sp - 1) (slice_index s.globals x) → go cells s.globals s.memory (place.sp - 1)
  global_get_goes x cells e w =
      let i = instr.GlobalGet x in
      let h = G.here scope codes code s depth place c a i e tt in
      let g = get_global x e in
      let v : slice_index s.globals x ≡ g.0 = get_or_from_slice_get s.globals x g.0 0 (ap (λ l. slice_get l x) (sym a.shows.globals_are) ∙ g.1) in
      S.put_more scope codes code s depth place c a i h g.0 cells (w ∙ ap (λ z. slice_set s.cells (place.sp - 1) z) v) g.2.reduces g.2.sound

  pub global_set_there : (x : ℕ) → slice_get code place.at ≡ Some (instr.GlobalSet x) → (place.sp < length s.cells) × (x < length s.globals)
  global_set_there x e =
      let i = instr.GlobalSet x in
      let h = G.here scope codes code s depth place c a i e tt in
      let t = h.sound.typed.1 in
      let o = G.one_in scope codes code s depth place c a i h t.0.ty [] t.3 in
      let l = one_at (map (λ var. var.ty) scope.vars) st.globals x t.0.ty h.sound.shared (global_type x t.0 t.1) in
      (o.low, subst (λ l. x < length l) a.shows.globals_are l.3)

  pub global_set_goes : (x : ℕ) (globals : List ℕ) → slice_get code place.at ≡ Some (instr.GlobalSet x) → globals ≡ slice_set s.globals x (slice_index s.cells place.sp) → go s.cells globals s.memory (place.sp + 1)
  unfolding act plain
  global_set_goes x globals e w =
      let i = instr.GlobalSet x in
      let h = G.here scope codes code s depth place c a i e tt in
      let t = h.sound.typed.1 in
      let o = G.one_in scope codes code s depth place c a i h t.0.ty [] t.3 in
      let l = one_at (map (λ var. var.ty) scope.vars) st.globals x t.0.ty h.sound.shared (global_type x t.0 t.1) in
      let z = slice_index s.cells place.sp in
      S.take_one scope codes code s depth place c a i h t.0.ty o (slice_set st.globals x z) globals (ap (λ l. slice_set l x z) a.shows.globals_are ∙ sym w)
      (set_at (map (λ var. var.ty) scope.vars) st.globals x z t.0.ty h.sound.shared (global_type x t.0 t.1) o.fits)
      (S.on_one scope codes code s depth place c a i h t.0.ty [] o (λ y ys. if nat_lt x (length st.globals) then To (at h.rest (record st { values = ys; globals = slice_set st.globals x y }) c.labels c.frames) else Sticks) refl
      ∙ ap (λ q. if q then To (at h.rest (record st { values = o.back; globals = slice_set st.globals x o.x }) c.labels c.frames) else Sticks) (lt-ltb x (length st.globals) l.3)
      ∙ ap (λ y. To (at h.rest (record st { values = o.back; globals = slice_set st.globals x y }) c.labels c.frames)) (sym o.cell))
