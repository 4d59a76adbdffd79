-- What opens and ends blocks, and the instructions that branch.
use Rattle.std.proofs.Common.{◌≡◌, ℕ, zero, suc, ◌+◌, ◌-◌, ◌/◌, ◌<◌, ◌≤◌, ◌^◌, List, [], ◌∷◌, ◌++◌, length, take, drop, Option, Some, None, Bool, true, false, refl, sym, ap, ◌∙◌, subst, arith, append_assoc, length-append, length-drop}
use Rattle.std.specs.Prelude.{slice_get, slice_set, slice_index, reverse, ◌==◌, if◌then◌else◌}
use Rattle.std.proofs.lemmas.List.{length-set}
use Rattle.wasm_tree.specs.declared.module.ValType.{ValType}
use Rattle.wasm_tree.specs.declared.module.ValType.TheVariants.{I32}
use Rattle.wasm_tree.specs.declared.instr.Instr.{Instr}
use Rattle.wasm_tree.specs.declared.instr.Instr.TheVariants as instr
use Rattle.wasm_tree.specs.declared.module.FuncBody.{FuncBody}
use Rattle.wasm_tree.specs.Reduce.{Seq, Plain, Func, State, Label, CallFrame, Config, Step, To, Traps, Sticks, at, with_values, push, on_top, on_two, if_there, load_at, store_at, write_bytes, page_size, act, plain, pieces}
use Rattle.wasm_steps.specs.Steps.{reduce}
use Rattle.wasm_runner.specs.declared.place.Place.{Place}
use Rattle.wasm_sound.specs.Kinds.{AreOf}
use Rattle.wasm_sound.specs.Sound.{Scope, IsSound}
use Rattle.wasm_runner.specs.Standing.{Stacks, IsAt, held, below_of, waiting}
use Rattle.wasm_runner.specs.Steps.{Goes}
use Rattle.wasm_runner.proofs.Holding.{first_cell}
use Rattle.wasm_runner.proofs.Going as G
use Rattle.wasm_runner.proofs.Going.{with_cells, moved}
use Rattle.wasm_runner.proofs.Simple as S
use Rattle.std.proofs.Common.{get_or, eqb}
use Rattle.std.proofs.lemmas.List.{get_or-drop, get_or-append-add, get_or-reverse, drop-set-add, set-append_left, set-append_right, reverse-append, length-reverse}
use Rattle.wasm_runner.specs.Standing.{cells_of_frames}
use Rattle.std.proofs.Common.{◌≢◌, inl, inr}
use Rattle.std.proofs.lemmas.List.{drop-drop, drop-append-le, take-append-le, drop-set-lt, drop_all}
use Rattle.wasm_tree.specs.Reduce.{Nil, InBlock, InLoop, InIf, arity_of, enter, leave, branch, give_back}
use Rattle.wasm_tree.specs.Typed.{Typed, Has, result_types}
use Rattle.wasm_runner.specs.declared.place.Block.{Block}
use Rattle.wasm_runner.specs.declared.step.Step.TheVariants as took
use Rattle.wasm_runner.specs.declared.jump.Jump.{Jump}
use Rattle.wasm_runner.specs.Jumps.{Stands, rests, beyond, otherwise, IsJump}
use Rattle.wasm_sound.specs.Sound.{context, AreLabels}
use Rattle.wasm_runner.specs.Standing.{AreBlocks, AreCallers, HasRoom, blocks_of}
use Rattle.wasm_runner.specs.Steps.{Took, GivesBack}
use Rattle.wasm_runner.proofs.Places.{drop_here, block_pieces, loop_pieces, if_pieces, else_pieces, end_pieces, from_closing, from_if, from_end, from_else}
use Rattle.wasm_runner.proofs.Typing.{Split, split, joined}
use Rattle.std.proofs.Common.{eqb}
use Rattle.std.proofs.lemmas.Bool.{eq-eqb, ne_eqb}
use Rattle.std.proofs.lemmas.Bool.Decides.{eqb_tells}
use Rattle.std.specs.Prelude.{unwrap_or}
use Rattle.std.specs.List.{AllByRecursion}
use Rattle.wasm_tree.specs.declared.instr.LabelTable.{LabelTable}
use Rattle.wasm_runner.proofs.Control as C
use Rattle.wasm_runner.proofs.Control.{with_blocks, suffix}

all_at : (P : ℕ → Type 0) (l : List ℕ) (i x : ℕ) → AllByRecursion P l → slice_get l i ≡ Some x → P x
all_at P [] zero x h e = absurd (cc)
all_at P [] (suc i) x h e = absurd (cc)
all_at P (y ∷ ys) zero x h e = let same : y ≡ x = cc in subst P same h.0
all_at P (y ∷ ys) (suc i) x h e = all_at P ys i x h.1 e

module _ (scope : Scope) (codes : List FuncBody) (code : List Instr) (s : Stacks) (depth : ℕ) (place : Place) (c : Config) (a : IsAt scope codes code s depth place c) where
  abbrev st : State
  st = c.state

  abbrev X : List ℕ
  X = reverse st.locals ++ waiting c.frames

  abbrev rest_cells : ℕ
  rest_cells = length st.locals + cells_of_frames c.frames

  -- ---- opening

  enter_room : (d : Config) → reduce scope.funcs c ≡ To d → length d.labels ≡ 1 + length c.labels → d.frames ≡ c.frames → 0 < place.lp
  enter_room d r n f =
      let w = G.room_now scope.funcs (length s.cells) (length s.blocks) (length s.callers) d (G.room_after scope.funcs (length s.cells) (length s.blocks) (length s.callers) c d a.room r) in
      let b = w.blocks_fit in let g = ap blocks_of f in let l = a.shows.lp_is in let k = a.shows.floor_is in
      omega arith

  -- the label that is opened over these operands
  abbrev opened : (arity : ℕ) (target rest : Seq) (vs : List ℕ) → Label
  opened arity target rest vs = record { arity = arity; target = target; below = vs; rest = rest }

  abbrev inside : (body : Seq) → Label → Config
  inside body label = at body (with_values st []) (label ∷ c.labels) c.frames

  pub record Enters (vs : List ℕ) (sp at' to arity : ℕ) : Type 0 where
    pub lies : C.Lies scope codes code s depth place c a vs sp
    pub body : Seq
    pub target : Seq
    pub rest : Seq
    pub reduces : reduce scope.funcs c ≡ To (inside body (opened arity target rest vs))
    pub body_stands : Stands (body ∷ rest ∷ rests c.labels) (pieces (drop at' code))
    pub target_stands : Stands (target ∷ rests c.labels) (pieces (drop to code))
    pub sound : IsSound scope (inside body (opened arity target rest vs))

  pub enters_room : (vs : List ℕ) (sp at' to arity : ℕ) → Enters vs sp at' to arity → 0 < place.lp
  enters_room vs sp at' to arity e = enter_room (inside e.body (opened arity e.target e.rest vs)) e.reduces (let z : length (opened arity e.target e.rest vs ∷ c.labels) ≡ 1 + length c.labels = omega arith in z) refl

  pub enters : (vs : List ℕ) (sp at' to arity : ℕ) (e : Enters vs sp at' to arity) (blocks : List Block) → blocks ≡ slice_set s.blocks (place.lp - 1) (record { arity = arity; target = to; height = sp }) →
      Goes scope codes code (with_blocks s blocks) depth (record { at = at'; sp = sp; lp = place.lp - 1; base = place.base; floor = place.floor }) c
  enters vs sp at' to arity e blocks w =
      let label = opened arity e.target e.rest vs in
      let mark : Block = record { arity = arity; target = to; height = sp } in
      let d = inside e.body label in
      let room = enters_room vs sp at' to arity e in
      let l = a.shows.lp_is in let k = a.shows.floor_is in
      let i : place.lp - 1 < length s.blocks = omega arith in
      let up : place.lp - 1 + 1 ≡ place.lp = omega arith in
      let n : length blocks ≡ length s.blocks = ap length w ∙ length-set s.blocks (place.lp - 1) mark in
      let marks : drop (place.lp - 1) blocks ≡ mark ∷ drop place.lp s.blocks = ap (drop (place.lp - 1)) w ∙ Rattle.std.proofs.lemmas.List.drop-set s.blocks (place.lp - 1) mark i ∙ ap (λ m. mark ∷ drop m s.blocks) up in
      let outer : drop place.floor blocks ≡ drop place.floor s.blocks = ap (drop place.floor) w ∙ drop-set-lt place.floor s.blocks (place.lp - 1) mark (omega arith) in
      let count = C.lies_count scope codes code s depth place c a vs sp e.lies in
      let hold : drop sp s.cells ≡ held d = e.lies.holds ∙ sym (append_assoc vs (below_of c.labels) X) in
      let hl = ap length hold in let hd = length-drop sp s.cells in let low = e.lies.low in
      record {
        next = d;
        reduces = e.reduces;
        is = record {
          shows = record {
            stands = e.body_stands;
            holds = hold;
            sp_is = omega arith;
            base_is = a.shows.base_is;
            blocks_are = subst (λ m. AreBlocks (length s.cells) code m (label ∷ c.labels) rest_cells) (sym marks) (record { arity = refl; height = count; leads = e.target_stands }, a.shows.blocks_are);
            floor_is = omega arith;
            lp_is = omega arith;
            callers_are = subst (λ m. AreCallers (length s.cells) codes place.floor m (drop depth s.callers) c.frames) (sym outer) a.shows.callers_are;
            depth_is = a.shows.depth_is;
            globals_are = a.shows.globals_are;
            memory_is = a.shows.memory_is;
          };
          sound = e.sound;
          room = subst (λ x. HasRoom scope.funcs (length s.cells) x (length s.callers) d) (sym n) (G.room_after scope.funcs (length s.cells) (length s.blocks) (length s.callers) c d a.room e.reduces);
        };
      }

  -- typed by the label that is opened
  within : (q : Seq) (o : IsSound scope (at q st c.labels c.frames)) (types : List ValType) (arity : ℕ) (body target rest : Seq) (vs : List ℕ) (below : List ValType) (ends : List ValType) →
      AreOf below vs → length types ≡ arity → length types ≤ 1 → Typed (context scope o.locals o.results) (types ∷ o.labels) body [] ends →
      Typed (context scope o.locals o.results) o.labels rest (ends ++ below) o.after → Typed (context scope o.locals o.results) o.labels target (types ++ below) o.after → IsSound scope (inside body (opened arity target rest vs))
  within q o types arity body target rest vs below ends vs_are n few t r g = record {
    locals = o.locals;
    results = o.results;
    few = o.few;
    operands = [];
    held = tt;
    own = o.own;
    shared = o.shared;
    memory = o.memory;
    labels = types ∷ o.labels;
    after = ends;
    typed = t;
    open_labels = (o.after, record { below = below; held = vs_are; arity = n; few = few; rest = r; target = g }, o.open_labels);
    callers = o.callers;
  }

  arity_is : (r : Option ValType) → (length (result_types r) ≡ arity_of r) × (length (result_types r) ≤ 1)
  arity_is None = (refl, omega arith)
  arity_is (Some t) = (refl, omega arith)

  sound_at : (q : Seq) → c.code ≡ q → IsSound scope (at q st c.labels c.frames)
  sound_at q e = subst (λ q. IsSound scope (at q c.state c.labels c.frames)) e a.sound

  stands_at : (i : Instr) → slice_get code place.at ≡ Some i → (ps : List Rattle.wasm_tree.specs.Reduce.Piece) → pieces (i ∷ drop (place.at + 1) code) ≡ ps → Stands (c.code ∷ rests c.labels) ps
  stands_at i e ps h = subst (Stands (c.code ∷ rests c.labels)) (ap pieces (drop_here code place.at i e) ∙ h) a.shows.stands

  pub block_enters : (r : Option ValType) (j : Jump) → slice_get code place.at ≡ Some (instr.Block r) → IsJump code place.at (instr.Block r) j → Enters st.values place.sp (place.at + 1) j.after (arity_of r)
  unfolding act
  block_enters r j e h =
      let f = from_closing (InBlock r) c.code (rests c.labels) (pieces (drop (place.at + 1) code)) (stands_at (instr.Block r) e _ (block_pieces r (drop (place.at + 1) code))) in
      let o = sound_at (InBlock r f.0 f.1) f.2 in
      let n = arity_is r in
      record {
        lies = C.lies_here scope codes code s depth place c a;
        body = f.0;
        target = f.1;
        rest = f.1;
        reduces = G.now scope codes code s depth place c a (InBlock r f.0 f.1) f.2;
        body_stands = f.3;
        target_stands = subst (Stands (f.1 ∷ rests c.labels)) (sym h) f.4;
        sound = within (InBlock r f.0 f.1) o (result_types r) (arity_of r) f.0 f.1 f.1 st.values o.operands (result_types r) o.held n.0 n.1 o.typed.0 o.typed.1 o.typed.1;
      }

  pub loop_enters : (r : Option ValType) → slice_get code place.at ≡ Some (instr.Loop r) → Enters st.values place.sp (place.at + 1) place.at 0
  unfolding act
  loop_enters r e =
      let f = from_closing (InLoop r) c.code (rests c.labels) (pieces (drop (place.at + 1) code)) (stands_at (instr.Loop r) e _ (loop_pieces r (drop (place.at + 1) code))) in
      let o = sound_at (InLoop r f.0 f.1) f.2 in
      record {
        lies = C.lies_here scope codes code s depth place c a;
        body = f.0;
        target = InLoop r f.0 f.1;
        rest = f.1;
        reduces = G.now scope codes code s depth place c a (InLoop r f.0 f.1) f.2;
        body_stands = f.3;
        target_stands = subst (λ q. Stands (q ∷ rests c.labels) (pieces (drop place.at code))) f.2 a.shows.stands;
        sound = within (InLoop r f.0 f.1) o [] 0 f.0 (InLoop r f.0 f.1) f.1 st.values o.operands (result_types r) o.held refl (omega arith) o.typed.0 o.typed.1 o.typed;
      }

  -- an `if`: by its operand, to either arm
  pub record Ifs (r : Option ValType) (j : Jump) : Type 0 where
    pub low : place.sp < length s.cells
    pub vs : List ℕ
    pub zero_arm : slice_index s.cells place.sp ≡ 0 → Enters vs (place.sp + 1) j.other j.after (arity_of r)
    pub other_arm : slice_index s.cells place.sp ≢ 0 → Enters vs (place.sp + 1) (place.at + 1) j.after (arity_of r)

  pub ifs : (r : Option ValType) (j : Jump) → slice_get code place.at ≡ Some (instr.If r) → IsJump code place.at (instr.If r) j → Ifs r j
  unfolding act
  ifs r j e h = by p.front p.is p.ins_are
    where
      f : (first second rest : Seq) × (c.code ≡ InIf r first second rest) × Stands (first ∷ rest ∷ rests c.labels) (pieces (drop (place.at + 1) code)) × Stands (second ∷ rest ∷ rests c.labels) (otherwise (pieces (drop (place.at + 1) code))) × Stands (rest ∷ rests c.labels) (beyond (pieces (drop (place.at + 1) code)))
      f = from_if (InIf r) c.code (rests c.labels) (pieces (drop (place.at + 1) code)) (stands_at (instr.If r) e _ (if_pieces r (drop (place.at + 1) code)))

      o : IsSound scope (at (InIf r f.0 f.1 f.2) st c.labels c.frames)
      o = sound_at (InIf r f.0 f.1 f.2) f.3

      p : Split (I32 ∷ []) o.typed.0 st.values
      p = split (I32 ∷ []) o.typed.0 st.values (subst (λ l. AreOf l st.values) o.typed.1 o.held)

      by : (front : List ℕ) → st.values ≡ front ++ p.back → AreOf (I32 ∷ []) front → Ifs r j
      by [] q g = absurd g
      by (x ∷ y ∷ xs) q g = absurd g.1
      by (x ∷ []) q g =
          let first = first_cell s.cells place.sp x (p.back ++ (below_of c.labels ++ X)) (a.shows.holds ∙ ap (λ vs. vs ++ (below_of c.labels ++ X)) q) in
          let low = first.0 in
          let n = arity_is r in
          let lies : C.Lies scope codes code s depth place c a p.back (place.sp + 1) = record { holds = first.2; low = omega arith } in
          let reduces : reduce scope.funcs c ≡ (if x == 0 then enter (arity_of r) f.2 f.1 f.2 st p.back c.labels c.frames else enter (arity_of r) f.2 f.0 f.2 st p.back c.labels c.frames) =
          G.now scope codes code s depth place c a (InIf r f.0 f.1 f.2) f.3 ∙ ap (λ vs. on_top vs (λ x xs. if x == 0 then enter (arity_of r) f.2 f.1 f.2 st xs c.labels c.frames else enter (arity_of r) f.2 f.0 f.2 st xs c.labels c.frames)) q in
          let after_stands = subst (Stands (f.2 ∷ rests c.labels)) (sym h.0) f.6 in
          record {
            low = low;
            vs = p.back;
            zero_arm = λ z. record {
              lies = lies;
              body = f.1;
              target = f.2;
              rest = f.2;
              reduces = reduces ∙ ap (λ b. if b then enter (arity_of r) f.2 f.1 f.2 st p.back c.labels c.frames else enter (arity_of r) f.2 f.0 f.2 st p.back c.labels c.frames) (eq-eqb x 0 (sym first.1 ∙ z));
              body_stands = subst (Stands (f.1 ∷ f.2 ∷ rests c.labels)) (sym h.1) f.5;
              target_stands = after_stands;
              sound = within (InIf r f.0 f.1 f.2) o (result_types r) (arity_of r) f.1 f.2 f.2 p.back o.typed.0 (result_types r) p.below_are n.0 n.1 o.typed.3 o.typed.4 o.typed.4;
            };
            other_arm = λ z. record {
              lies = lies;
              body = f.0;
              target = f.2;
              rest = f.2;
              reduces = reduces ∙ ap (λ b. if b then enter (arity_of r) f.2 f.1 f.2 st p.back c.labels c.frames else enter (arity_of r) f.2 f.0 f.2 st p.back c.labels c.frames) (ne_eqb x 0 (λ e. z (first.1 ∙ e)));
              body_stands = f.4;
              target_stands = after_stands;
              sound = within (InIf r f.0 f.1 f.2) o (result_types r) (arity_of r) f.0 f.2 f.2 p.back o.typed.0 (result_types r) p.below_are n.0 n.1 o.typed.2 o.typed.4 o.typed.4;
            };
          }

  -- ---- ends

  -- the end of a block leads to what stands there
  leaves : (ps : List Rattle.wasm_tree.specs.Reduce.Piece) (at' : ℕ) → pieces (drop at' code) ≡ ps → c.code ≡ Nil → Stands (rests c.labels) ps → place.lp < place.floor →
      Goes scope codes code s depth (record { at = at'; sp = place.sp; lp = place.lp + 1; base = place.base; floor = place.floor }) c
  unfolding act
  leaves ps at' ps_are e h low = by c.labels refl
    where
      by : (labels : List Label) → c.labels ≡ labels → Goes scope codes code s depth (record { at = at'; sp = place.sp; lp = place.lp + 1; base = place.base; floor = place.floor }) c
      by [] n = let f = a.shows.floor_is in let z = ap length n in absurd (omega arith)
      by (l ∷ ls) n = with_labels (sound_at Nil e).labels refl
        where
          o : IsSound scope (at Nil st c.labels c.frames)
          o = sound_at Nil e

          d : Config
          d = at l.rest (with_values st (st.values ++ l.below)) ls c.frames

          r : reduce scope.funcs c ≡ To d
          r = G.now scope codes code s depth place c a Nil e ∙ ap (λ k. leave st k c.frames) n

          with_labels : (lists : List (List ValType)) → o.labels ≡ lists → Goes scope codes code s depth (record { at = at'; sp = place.sp; lp = place.lp + 1; base = place.base; floor = place.floor }) c
          with_labels [] m = absurd (subst (λ k. AreLabels (context scope o.locals o.results) k c.labels o.after) m o.open_labels)
          with_labels (y ∷ ys) m =
              let k = subst (λ k. AreLabels (context scope o.locals o.results) k (l ∷ ls) o.after) m (subst (λ k. AreLabels (context scope o.locals o.results) o.labels k o.after) n o.open_labels) in
              let fl = a.shows.floor_is in let nl = ap length n in
              let hold : drop place.sp s.cells ≡ held d = a.shows.holds ∙ ap (λ k. st.values ++ (below_of k ++ X)) n ∙ ap (λ q. st.values ++ q) (append_assoc l.below (below_of ls) X) ∙ sym (append_assoc st.values l.below (below_of ls ++ X)) in
              let hl = ap length hold in let sp = a.shows.sp_is in let hh = ap length a.shows.holds in
              let one : place.lp + 1 ≡ place.lp + suc 0 = omega arith in
              let marks = subst (λ k. AreBlocks (length s.cells) code (drop place.lp s.blocks) k rest_cells) n a.shows.blocks_are in
              record {
                next = d;
                reduces = r;
                is = record {
                  shows = record {
                    stands = subst (Stands (l.rest ∷ rests ls)) (sym ps_are) (subst (λ k. Stands (rests k) ps) n h);
                    holds = hold;
                    sp_is = omega arith;
                    base_is = a.shows.base_is;
                    blocks_are = shorter (drop place.lp s.blocks) (drop (place.lp + 1) s.blocks) (sym (drop-drop 1 place.lp s.blocks)) marks;
                    floor_is = omega arith;
                    lp_is = a.shows.lp_is;
                    callers_are = a.shows.callers_are;
                    depth_is = a.shows.depth_is;
                    globals_are = a.shows.globals_are;
                    memory_is = a.shows.memory_is;
                  };
                  sound = record {
                    locals = o.locals;
                    results = o.results;
                    few = o.few;
                    operands = o.after ++ k.1.below;
                    held = joined o.after k.1.below st.values l.below (subst (λ q. AreOf q st.values) o.typed o.held) k.1.held;
                    own = o.own;
                    shared = o.shared;
                    memory = o.memory;
                    labels = ys;
                    after = k.0;
                    typed = k.1.rest;
                    open_labels = k.2;
                    callers = o.callers;
                  };
                  room = G.room_after scope.funcs (length s.cells) (length s.blocks) (length s.callers) c d a.room r;
                };
              }
            where
              shorter : (ms ns : List Block) → ns ≡ drop 1 ms → AreBlocks (length s.cells) code ms (l ∷ ls) rest_cells → AreBlocks (length s.cells) code ns ls rest_cells
              shorter [] ns q b = absurd b
              shorter (m ∷ ms) ns q b = subst (λ k. AreBlocks (length s.cells) code k ls rest_cells) (sym q) b.1

  pub end_goes : slice_get code place.at ≡ Some instr.End → place.lp ≢ place.floor → Goes scope codes code s depth (record { at = place.at + 1; sp = place.sp; lp = place.lp + 1; base = place.base; floor = place.floor }) c
  end_goes e ne =
      let f = from_end c.code (rests c.labels) (pieces (drop (place.at + 1) code)) (stands_at instr.End e _ (end_pieces (drop (place.at + 1) code))) in
      let up = C.floor_up scope codes code s depth place c a in
      leaves (pieces (drop (place.at + 1) code)) (place.at + 1) refl f.0 f.1 (omega arith)

  no_arm : true ≡ false → ⊥
  no_arm e = cc

  -- a first arm stands in a block
  pub else_low : slice_get code place.at ≡ Some instr.Else → place.lp < place.floor
  else_low e = by c.labels refl
    where
      by : (labels : List Label) → c.labels ≡ labels → place.lp < place.floor
      by (l ∷ ls) n = let f = a.shows.floor_is in let z = ap length n in omega arith
      by [] n = absurd (no_arm (subst (λ k. Stands (c.code ∷ rests k) (Rattle.wasm_tree.specs.Reduce.start_piece true (pieces (drop (place.at + 1) code)))) n (stands_at instr.Else e _ (else_pieces (drop (place.at + 1) code)))).1.0)

  pub else_goes : (j : Jump) → slice_get code place.at ≡ Some instr.Else → IsJump code place.at instr.Else j → Goes scope codes code s depth (record { at = j.after; sp = place.sp; lp = place.lp + 1; base = place.base; floor = place.floor }) c
  else_goes j e h =
      let f = from_else c.code (rests c.labels) (pieces (drop (place.at + 1) code)) (stands_at instr.Else e _ (else_pieces (drop (place.at + 1) code))) in
      leaves (drop 1 (pieces (drop (place.at + 1) code))) j.after h f.0 f.1 (else_low e)

  -- ---- the end of a function

  bottom : (labels : List Label) (lists : List (List ValType)) (o : IsSound scope (at Nil st c.labels c.frames)) → labels ≡ [] → AreLabels (context scope o.locals o.results) lists labels o.after → o.after ≡ reverse o.results
  bottom [] [] o e k = absurd k
  bottom [] (y ∷ ys) o e k = k.2
  bottom (l ∷ ls) lists o e k = cc

  pub end_leaves : slice_get code place.at ≡ Some instr.End → place.lp ≡ place.floor → GivesBack scope codes s depth place.base place.floor place.sp c
  unfolding act
  end_leaves e low =
      let f = from_end c.code (rests c.labels) (pieces (drop (place.at + 1) code)) (stands_at instr.End e _ (end_pieces (drop (place.at + 1) code))) in
      let o = sound_at Nil f.0 in
      let none : c.labels ≡ [] = no_labels c.labels (let fl = a.shows.floor_is in omega arith) in
      let typed : o.operands ≡ reverse o.results ++ [] = o.typed ∙ bottom c.labels o.labels o none o.open_labels ∙ sym (Rattle.std.proofs.Common.append-nil (reverse o.results)) in
      C.give scope codes code s depth place c a c st.values place.sp o.results [] (C.lies_here scope codes code s depth place c a)
      (G.now scope codes code s depth place c a Nil f.0 ∙ ap (λ k. leave st k c.frames) none) refl refl a.room o.few (subst (λ ts. AreOf ts st.values) typed o.held) o.callers o.shared o.memory
    where
      no_labels : (labels : List Label) → length labels ≡ 0 → labels ≡ []
      no_labels [] n = refl
      no_labels (l ∷ ls) n = absurd (omega arith)

  pub return_leaves : slice_get code place.at ≡ Some instr.Return → GivesBack scope codes s depth place.base place.floor place.sp c
  unfolding act plain
  return_leaves e =
      let h = G.here scope codes code s depth place c a instr.Return e tt in
      let t = h.sound.typed.1 in
      C.give scope codes code s depth place c a c st.values place.sp h.sound.results t.below (C.lies_here scope codes code s depth place c a)
      (G.now scope codes code s depth place c a (Plain instr.Return h.rest) h.is) refl refl a.room h.sound.few (subst (λ ts. AreOf ts st.values) t.had h.sound.held) h.sound.callers h.sound.shared h.sound.memory

  -- ---- branches

  -- what a branching instruction finds: the operands that are left, and the label's types
  pub record Finds (n : ℕ) (sp : ℕ) : Type 0 where
    pub q : Seq
    pub o : IsSound scope (at q st c.labels c.frames)
    pub vs : List ℕ
    pub b : C.Branches scope codes code s depth place c a o.labels n vs sp

  pub br_finds : (n : ℕ) → slice_get code place.at ≡ Some (instr.Br n) → Finds n place.sp
  unfolding act plain
  br_finds n e =
      let h = G.here scope codes code s depth place c a (instr.Br n) e tt in
      let t = h.sound.typed.1 in
      record {
        q = Plain (instr.Br n) h.rest;
        o = h.sound;
        vs = st.values;
        b = record {
          lies = C.lies_here scope codes code s depth place c a;
          reduces = G.now scope codes code s depth place c a (Plain (instr.Br n) h.rest) h.is;
          types = t.0;
          typed = t.1;
          below = t.2.below;
          held_are = subst (λ ts. AreOf ts st.values) t.2.had h.sound.held;
        };
      }

  -- the operand that is looked at
  record Tests (types : List ValType) : Type 0 where
    x : ℕ
    back : List ℕ
    is : st.values ≡ x ∷ back
    low : place.sp < length s.cells
    cell : slice_index s.cells place.sp ≡ x
    after : drop (place.sp + 1) s.cells ≡ back ++ (below_of c.labels ++ X)
    held_are : AreOf types back

  tests : (i : Instr) (h : G.Here scope codes code s depth place c a i) (types : List ValType) → h.sound.operands ≡ I32 ∷ types → Tests types
  tests i h types e = by p.front p.is p.ins_are
    where
      p : Split (I32 ∷ []) types st.values
      p = split (I32 ∷ []) types st.values (subst (λ l. AreOf l st.values) e h.sound.held)

      by : (front : List ℕ) → st.values ≡ front ++ p.back → AreOf (I32 ∷ []) front → Tests types
      by [] q g = absurd g
      by (x ∷ y ∷ xs) q g = absurd g.1
      by (x ∷ []) q g =
          let first = first_cell s.cells place.sp x (p.back ++ (below_of c.labels ++ X)) (a.shows.holds ∙ ap (λ vs. vs ++ (below_of c.labels ++ X)) q) in
          record { x = x; back = p.back; is = q; low = first.0; cell = first.1; after = first.2; held_are = p.below_are }

  -- `br_if`
  pub record BrIfs (n : ℕ) : Type 0 where
    pub low : place.sp < length s.cells
    pub passes : slice_index s.cells place.sp ≡ 0 → Goes scope codes code (with_cells s s.cells s.globals s.memory) depth (moved place (place.at + 1) (place.sp + 1)) c
    pub taken : slice_index s.cells place.sp ≢ 0 → Finds n (place.sp + 1)

  pub br_ifs : (n : ℕ) → slice_get code place.at ≡ Some (instr.BrIf n) → BrIfs n
  unfolding act plain
  br_ifs n e =
      let i = instr.BrIf n in
      let h = G.here scope codes code s depth place c a i e tt in
      let t = h.sound.typed.1 in
      let k = tests i h (t.0 ++ t.2.below) t.2.had in
      let one = G.one_in scope codes code s depth place c a i h I32 [] (record { below = t.0 ++ t.2.below; had = t.2.had; has = t.2.has }) in
      let low = k.low in
      record {
        low = k.low;
        passes = λ z. S.take_one scope codes code s depth place c a i h I32 one st.globals s.globals a.shows.globals_are h.sound.shared
            (S.on_one scope codes code s depth place c a i h I32 [] one (λ x xs. if x == 0 then To (at h.rest (with_values st xs) c.labels c.frames) else branch n (with_values st xs) c.labels c.frames) refl
            ∙ ap (λ b. if b then To (at h.rest (with_values st one.back) c.labels c.frames) else branch n (with_values st one.back) c.labels c.frames) (eq-eqb one.x 0 (sym one.cell ∙ z)));
        taken = λ z. record {
          q = Plain i h.rest;
          o = h.sound;
          vs = k.back;
          b = record {
            lies = record { holds = k.after; low = omega arith };
            reduces = G.now scope codes code s depth place c a (Plain i h.rest) h.is
                ∙ ap (λ vs. on_top vs (λ x xs. if x == 0 then To (at h.rest (with_values st xs) c.labels c.frames) else branch n (with_values st xs) c.labels c.frames)) k.is
                ∙ ap (λ b. if b then To (at h.rest (with_values st k.back) c.labels c.frames) else branch n (with_values st k.back) c.labels c.frames) (ne_eqb k.x 0 (λ e. z (k.cell ∙ e)));
            types = t.0;
            typed = t.1;
            below = t.2.below;
            held_are = k.held_are;
          };
        };
      }

  -- `br_table`
  pub record BrTables (table : LabelTable) : Type 0 where
    pub low : place.sp < length s.cells
    pub finds : (n : ℕ) → n ≡ unwrap_or (slice_get table.labels (slice_index s.cells place.sp)) table.other → Finds n (place.sp + 1)

  pub br_tables : (table : LabelTable) → slice_get code place.at ≡ Some (instr.BrTable table) → BrTables table
  unfolding act plain
  br_tables table e = record { low = k.low; finds = finds }
    where
      h : G.Here scope codes code s depth place c a (instr.BrTable table)
      h = G.here scope codes code s depth place c a (instr.BrTable table) e tt

      t : (types : List ValType) × (slice_get h.sound.labels table.other ≡ Some types) × AllByRecursion (λ label. slice_get h.sound.labels label ≡ Some types) table.labels × Has (I32 ∷ types) h.sound.operands
      t = h.sound.typed.1

      k : Tests (t.0 ++ t.3.below)
      k = tests (instr.BrTable table) h (t.0 ++ t.3.below) t.3.had

      label_typed : (o : Option ℕ) → slice_get table.labels k.x ≡ o → slice_get h.sound.labels (unwrap_or o table.other) ≡ Some t.0
      label_typed None q = t.1
      label_typed (Some n) q = all_at (λ label. slice_get h.sound.labels label ≡ Some t.0) table.labels k.x n t.2 q

      finds : (n : ℕ) → n ≡ unwrap_or (slice_get table.labels (slice_index s.cells place.sp)) table.other → Finds n (place.sp + 1)
      finds n q =
          let n_is : unwrap_or (slice_get table.labels k.x) table.other ≡ n = ap (λ x. unwrap_or (slice_get table.labels x) table.other) (sym k.cell) ∙ sym q in
          let low = k.low in
          record {
            q = Plain (instr.BrTable table) h.rest;
            o = h.sound;
            vs = k.back;
            b = record {
              lies = record { holds = k.after; low = omega arith };
              reduces = G.now scope codes code s depth place c a (Plain (instr.BrTable table) h.rest) h.is
                  ∙ ap (λ vs. on_top vs (λ x xs. branch (unwrap_or (slice_get table.labels x) table.other) (with_values st xs) c.labels c.frames)) k.is
                  ∙ ap (λ n. branch n (with_values st k.back) c.labels c.frames) n_is;
              types = t.0;
              typed = ap (slice_get h.sound.labels) (sym n_is) ∙ label_typed (slice_get table.labels k.x) refl;
              below = t.3.below;
              held_are = k.held_are;
            };
          }

  pub calls : (f : ℕ) → slice_get code place.at ≡ Some (instr.Call f) → Took scope codes code s depth place c (took.Call f)
  calls f e = (e, a)

  -- ---- what opens a block, as the runner does it

  pub block_room : (r : Option ValType) (j : Jump) → slice_get code place.at ≡ Some (instr.Block r) → IsJump code place.at (instr.Block r) j → 0 < place.lp
  block_room r j e h = enters_room st.values place.sp (place.at + 1) j.after (arity_of r) (block_enters r j e h)

  pub block_goes : (r : Option ValType) (j : Jump) (arity : ℕ) (blocks : List Block) → arity ≡ arity_of r → slice_get code place.at ≡ Some (instr.Block r) → IsJump code place.at (instr.Block r) j →
      blocks ≡ slice_set s.blocks (place.lp - 1) (record { arity = arity; target = j.after; height = place.sp }) →
      Goes scope codes code (with_blocks s blocks) depth (record { at = place.at + 1; sp = place.sp; lp = place.lp - 1; base = place.base; floor = place.floor }) c
  block_goes r j arity blocks n e h w =
      enters st.values place.sp (place.at + 1) j.after arity (subst (λ n. Enters st.values place.sp (place.at + 1) j.after n) (sym n) (block_enters r j e h)) blocks w

  pub loop_room : (r : Option ValType) → slice_get code place.at ≡ Some (instr.Loop r) → 0 < place.lp
  loop_room r e = enters_room st.values place.sp (place.at + 1) place.at 0 (loop_enters r e)

  pub loop_goes : (r : Option ValType) (blocks : List Block) → slice_get code place.at ≡ Some (instr.Loop r) →
      blocks ≡ slice_set s.blocks (place.lp - 1) (record { arity = 0; target = place.at; height = place.sp }) →
      Goes scope codes code (with_blocks s blocks) depth (record { at = place.at + 1; sp = place.sp; lp = place.lp - 1; base = place.base; floor = place.floor }) c
  loop_goes r blocks e w = enters st.values place.sp (place.at + 1) place.at 0 (loop_enters r e) blocks w

  pub if_there_low : (r : Option ValType) (j : Jump) → slice_get code place.at ≡ Some (instr.If r) → IsJump code place.at (instr.If r) j → (place.sp < length s.cells) × (0 < place.lp)
  if_there_low r j e h =
      let i = ifs r j e h in
      let x = slice_index s.cells place.sp in (
        i.low,
        elim (eqb_tells x 0) [
          | inl z ↦ enters_room i.vs (place.sp + 1) j.other j.after (arity_of r) (i.zero_arm z.1)
          | inr z ↦ enters_room i.vs (place.sp + 1) (place.at + 1) j.after (arity_of r) (i.other_arm z.1)
        ],
      )

  pub if_goes : (r : Option ValType) (j : Jump) (arity to : ℕ) (blocks : List Block) → arity ≡ arity_of r → slice_get code place.at ≡ Some (instr.If r) → IsJump code place.at (instr.If r) j →
      (slice_index s.cells place.sp ≡ 0 → to ≡ j.other) → (slice_index s.cells place.sp ≢ 0 → to ≡ place.at + 1) →
      blocks ≡ slice_set s.blocks (place.lp - 1) (record { arity = arity; target = j.after; height = place.sp + 1 }) →
      Goes scope codes code (with_blocks s blocks) depth (record { at = to; sp = place.sp + 1; lp = place.lp - 1; base = place.base; floor = place.floor }) c
  if_goes r j arity to blocks n e h at_zero other w =
      let i = ifs r j e h in
      let x = slice_index s.cells place.sp in
      elim (eqb_tells x 0) [
        | inl z ↦ enters i.vs (place.sp + 1) to j.after arity (subst (λ n. Enters i.vs (place.sp + 1) to j.after n) (sym n) (subst (λ m. Enters i.vs (place.sp + 1) m j.after (arity_of r)) (sym (at_zero z.1)) (i.zero_arm z.1))) blocks w
        | inr z ↦ enters i.vs (place.sp + 1) to j.after arity (subst (λ n. Enters i.vs (place.sp + 1) to j.after n) (sym n) (subst (λ m. Enters i.vs (place.sp + 1) m j.after (arity_of r)) (sym (other z.1)) (i.other_arm z.1))) blocks w
      ]
