-- One reduction of the next instruction, and what the runner's stacks stand for after it.
use Rattle.std.proofs.Common.{◌≡◌, ℕ, ◌+◌, ◌<◌, ◌≤◌, List, [], ◌∷◌, ◌++◌, length, drop, Some, sym, ap, ◌∙◌, subst, arith, length-drop}
use Rattle.std.specs.Prelude.{slice_get, slice_index, reverse, map}
use Rattle.wasm_tree.specs.declared.module.ValType.{ValType}
use Rattle.wasm_tree.specs.declared.instr.Instr.{Instr}
use Rattle.wasm_tree.specs.declared.module.FuncBody.{FuncBody}
use Rattle.wasm_tree.specs.Reduce.{Seq, Plain, Func, State, Config, To, at, act, pieces}
use Rattle.wasm_tree.specs.Typed.{Takes}
use Rattle.wasm_steps.specs.Steps.{reduce}
use Rattle.wasm_runner.specs.declared.place.Place.{Place}
use Rattle.wasm_sound.specs.Kinds.{IsOf, AreOf}
use Rattle.wasm_sound.specs.Sound.{Scope, IsSound, most_memory}
use Rattle.wasm_runner.specs.Jumps.{Stands, rests}
use Rattle.wasm_runner.specs.Standing.{Stacks, IsAt, Shows, HasRoom, IsWithin, held, below_of, waiting, AreBlocks, cells_of_frames}
use Rattle.wasm_sound.specs.Reached.{Reaches, Stay, Reduced, Answered}
use Rattle.wasm_runner.specs.Steps.{Goes}
use Rattle.wasm_runner.proofs.Places.{IsPlain, drop_here, plain_pieces, from_onto}
use Rattle.wasm_runner.proofs.Typing.{Takes1, took}
use Rattle.wasm_runner.proofs.Holding.{first_cell}

-- room for what follows
pub room_after : (funcs : List Func) (n b k : ℕ) (c d : Config) → HasRoom funcs n b k c → reduce funcs c ≡ To d → HasRoom funcs n b k d
room_after funcs n b k c d r e = record { wherever = λ f l. r.wherever f (Reduced c d f e l) }

-- the same for a configuration that reduces alike
pub room_same : (funcs : List Func) (n b k : ℕ) (c d : Config) → HasRoom funcs n b k c → reduce funcs c ≡ reduce funcs d → IsWithin n b k d → HasRoom funcs n b k d
room_same funcs n b k c d r e w = record { wherever = by }
  where
    by : (f : Config) → Reaches funcs d f → IsWithin n b k f
    by f (Stay _) = w
    by f (Reduced _ g _ q l) = r.wherever f (Reduced c g f (e ∙ q) l)
    by f (Answered number memory _ g _ q l) = r.wherever f (Answered number memory c g f (e ∙ q) l)

pub room_now : (funcs : List Func) (n b k : ℕ) (c : Config) → HasRoom funcs n b k c → IsWithin n b k c
room_now funcs n b k c r = r.wherever c (Stay c)

abbrev pub with_cells : Stacks → (cells globals memory : List ℕ) → Stacks
with_cells s cells globals memory = record { cells = cells; blocks = s.blocks; callers = s.callers; globals = globals; memory = memory }

abbrev pub moved : Place → (at sp : ℕ) → Place
moved place at sp = record { at = at; sp = sp; lp = place.lp; base = place.base; floor = place.floor }

module _ (scope : Scope) (codes : List FuncBody) (code : List Instr) (s : Stacks) (depth : ℕ) (place : Place) (c : Config) (a : IsAt scope codes code s depth place c) where
  -- what is left of the innermost sequence, from the instruction that comes next
  pub record Here (i : Instr) : Type 0 where
    pub rest : Seq
    pub is : c.code ≡ Plain i rest
    pub stands : Stands (rest ∷ rests c.labels) (pieces (drop (place.at + 1) code))
    pub sound : IsSound scope (at (Plain i rest) c.state c.labels c.frames)

  pub here : (i : Instr) → slice_get code place.at ≡ Some i → IsPlain i → Here i
  here i h p =
      let e = ap pieces (drop_here code place.at i h) ∙ plain_pieces i (drop (place.at + 1) code) p in
      let t = from_onto (Plain i) c.code (rests c.labels) (pieces (drop (place.at + 1) code)) (subst (Stands (c.code ∷ rests c.labels)) e a.shows.stands) in
      record { rest = t.0; is = t.1; stands = t.2; sound = subst (λ q. IsSound scope (at q c.state c.labels c.frames)) t.1 a.sound }

  -- what the next reduction is, by the sequence's form
  pub now : (q : Seq) → c.code ≡ q → reduce scope.funcs c ≡ act scope.funcs q c.state c.labels c.frames
  now q e = ap (λ q. act scope.funcs q c.state c.labels c.frames) e

  pub sp_within : place.sp ≤ length s.cells
  sp_within = let e = a.shows.sp_is in omega arith

  -- to the same blocks and callers
  pub shown : (t : Seq) (st : State) (cells globals memory : List ℕ) (at' sp : ℕ) →
      Stands (t ∷ rests c.labels) (pieces (drop at' code)) → length st.locals ≡ length c.state.locals →
      drop sp cells ≡ held (at t st c.labels c.frames) → sp ≤ length cells → length cells ≡ length s.cells →
      st.globals ≡ globals → st.memory ≡ memory →
      Shows codes code (with_cells s cells globals memory) depth (moved place at' sp) (at t st c.labels c.frames)
  shown t st cells globals memory at' sp stands locals holds low same globals_are memory_are =
      let n = ap length holds in
      let m = length-drop sp cells in
      let base = a.shows.base_is in
      let base' : place.base + cells_of_frames c.frames ≡ length cells = omega arith in
      record {
        stands = stands;
        holds = holds;
        sp_is = omega arith;
        base_is = base';
        blocks_are = subst (λ x. AreBlocks x code (drop place.lp s.blocks) c.labels (length st.locals + cells_of_frames c.frames)) (sym same) (subst (λ x. AreBlocks (length s.cells) code (drop place.lp s.blocks) c.labels (x + cells_of_frames c.frames)) (sym locals) a.shows.blocks_are);
        floor_is = a.shows.floor_is;
        lp_is = a.shows.lp_is;
        callers_are = subst (λ x. Rattle.wasm_runner.specs.Standing.AreCallers x codes place.floor (drop place.floor s.blocks) (drop depth s.callers) c.frames) (sym same) a.shows.callers_are;
        depth_is = a.shows.depth_is;
        globals_are = globals_are;
        memory_is = memory_are;
      }

  pub goes_on : (t : Seq) (st : State) (cells globals memory : List ℕ) (at' sp : ℕ) →
      reduce scope.funcs c ≡ To (at t st c.labels c.frames) →
      Stands (t ∷ rests c.labels) (pieces (drop at' code)) → IsSound scope (at t st c.labels c.frames) → length st.locals ≡ length c.state.locals →
      drop sp cells ≡ held (at t st c.labels c.frames) → sp ≤ length cells → length cells ≡ length s.cells →
      st.globals ≡ globals → st.memory ≡ memory →
      Goes scope codes code (with_cells s cells globals memory) depth (moved place at' sp) c
  goes_on t st cells globals memory at' sp e stands sound locals holds low same globals_are memory_are =
      record {
        next = at t st c.labels c.frames;
        reduces = e;
        is = record {
          shows = shown t st cells globals memory at' sp stands locals holds low same globals_are memory_are;
          sound = sound;
          room = subst (λ x. HasRoom scope.funcs x (length s.blocks) (length s.callers) (at t st c.labels c.frames)) (sym same) (room_after scope.funcs (length s.cells) (length s.blocks) (length s.callers) c (at t st c.labels c.frames) a.room e);
        };
      }

  -- the operands below those that are taken, and what is below them
  abbrev pub under : List ℕ → List ℕ
  under back = back ++ (below_of c.labels ++ (reverse c.state.locals ++ waiting c.frames))

  -- an instruction that takes one operand
  pub record OneIn (type : ValType) (outs : List ValType) (t : Seq) (locals : List ValType) : Type 0 where
    pub x : ℕ
    pub back : List ℕ
    pub is : c.state.values ≡ x ∷ back
    pub low : place.sp < length s.cells
    pub cell : slice_index s.cells place.sp ≡ x
    pub fits : IsOf type (slice_index s.cells place.sp)
    pub after : drop (place.sp + 1) s.cells ≡ under back
    pub then_sound : (zs : List ℕ) (st' : State) → AreOf outs zs → st'.values ≡ zs ++ back → AreOf locals st'.locals → AreOf (map (λ var. var.ty) scope.vars) st'.globals → length st'.memory ≤ most_memory → IsSound scope (at t st' c.labels c.frames)

  pub one_in : (i : Instr) (h : Here i) (type : ValType) (outs : List ValType) → Takes (type ∷ []) outs h.sound.operands h.sound.typed.0 → OneIn type outs h.rest h.sound.locals
  one_in i h type outs t = from (took scope i h.rest c.state c.labels c.frames h.sound (type ∷ []) outs t)
    where
      from : Takes1 scope (type ∷ []) outs h.rest c.state c.labels c.frames h.sound.locals → OneIn type outs h.rest h.sound.locals
      from k = by k.front k.is k.ins_are
        where
          by : (front : List ℕ) → c.state.values ≡ front ++ k.back → AreOf (type ∷ []) front → OneIn type outs h.rest h.sound.locals
          by [] e f = absurd f
          by (x ∷ y ∷ xs) e f = absurd f.1
          by (x ∷ []) e f =
              let cell = first_cell s.cells place.sp x (under k.back) (a.shows.holds ∙ ap (λ vs. vs ++ (below_of c.labels ++ (reverse c.state.locals ++ waiting c.frames))) e) in
              record { x = x; back = k.back; is = e; low = cell.0; cell = cell.1; fits = subst (IsOf type) (sym cell.1) f.0; after = cell.2; then_sound = k.then_sound }

  -- an instruction that takes two operands: x and then y
  pub record TwoIn (first second : ValType) (outs : List ValType) (t : Seq) (locals : List ValType) : Type 0 where
    pub x : ℕ
    pub y : ℕ
    pub back : List ℕ
    pub is : c.state.values ≡ y ∷ x ∷ back
    pub low : place.sp + 1 < length s.cells
    pub cell_y : slice_index s.cells place.sp ≡ y
    pub cell_x : slice_index s.cells (place.sp + 1) ≡ x
    pub fits_x : IsOf first (slice_index s.cells (place.sp + 1))
    pub fits_y : IsOf second (slice_index s.cells place.sp)
    pub after : drop (place.sp + 1 + 1) s.cells ≡ under back
    pub then_sound : (zs : List ℕ) (st' : State) → AreOf outs zs → st'.values ≡ zs ++ back → AreOf locals st'.locals → AreOf (map (λ var. var.ty) scope.vars) st'.globals → length st'.memory ≤ most_memory → IsSound scope (at t st' c.labels c.frames)

  pub two_in : (i : Instr) (h : Here i) (first second : ValType) (outs : List ValType) → Takes (second ∷ first ∷ []) outs h.sound.operands h.sound.typed.0 → TwoIn first second outs h.rest h.sound.locals
  two_in i h first second outs t = from (took scope i h.rest c.state c.labels c.frames h.sound (second ∷ first ∷ []) outs t)
    where
      from : Takes1 scope (second ∷ first ∷ []) outs h.rest c.state c.labels c.frames h.sound.locals → TwoIn first second outs h.rest h.sound.locals
      from k = by k.front k.is k.ins_are
        where
          by : (front : List ℕ) → c.state.values ≡ front ++ k.back → AreOf (second ∷ first ∷ []) front → TwoIn first second outs h.rest h.sound.locals
          by [] e f = absurd f
          by (y ∷ []) e f = absurd f.1
          by (y ∷ x ∷ z ∷ xs) e f = absurd f.1.1
          by (y ∷ x ∷ []) e f =
              let one = first_cell s.cells place.sp y (x ∷ under k.back) (a.shows.holds ∙ ap (λ vs. vs ++ (below_of c.labels ++ (reverse c.state.locals ++ waiting c.frames))) e) in
              let two = first_cell s.cells (place.sp + 1) x (under k.back) one.2 in
              record { x = x; y = y; back = k.back; is = e; low = two.0; cell_y = one.1; cell_x = two.1; fits_x = subst (IsOf first) (sym two.1) f.1.0; fits_y = subst (IsOf second) (sym one.1) f.0; after = two.2; then_sound = k.then_sound }

  -- an instruction that takes none
  pub record NoneIn (outs : List ValType) (t : Seq) (locals : List ValType) : Type 0 where
    pub then_sound : (zs : List ℕ) (st' : State) → AreOf outs zs → st'.values ≡ zs ++ c.state.values → AreOf locals st'.locals → AreOf (map (λ var. var.ty) scope.vars) st'.globals → length st'.memory ≤ most_memory → IsSound scope (at t st' c.labels c.frames)

  pub none_in : (i : Instr) (h : Here i) (outs : List ValType) → Takes [] outs h.sound.operands h.sound.typed.0 → NoneIn outs h.rest h.sound.locals
  none_in i h outs t = from (took scope i h.rest c.state c.labels c.frames h.sound [] outs t)
    where
      from : Takes1 scope [] outs h.rest c.state c.labels c.frames h.sound.locals → NoneIn outs h.rest h.sound.locals
      from k = by k.front k.is k.ins_are
        where
          by : (front : List ℕ) → c.state.values ≡ front ++ k.back → AreOf [] front → NoneIn outs h.rest h.sound.locals
          by (x ∷ xs) e f = absurd f
          by [] e f = record { then_sound = λ zs st' o q. k.then_sound zs st' o (q ∙ ap (λ vs. zs ++ vs) e) }
