-- Blocks, their ends, and branches.
use Rattle.std.proofs.Common.{◌≡◌, ℕ, zero, suc, ◌+◌, ◌-◌, ◌<◌, ◌≤◌, List, [], ◌∷◌, ◌++◌, length, take, drop, Some, refl, sym, ap, ◌∙◌, subst, arith, append_assoc, length-append, length-drop}
use Rattle.std.specs.Prelude.{slice_get, slice_set, slice_index, reverse, map}
use Rattle.std.proofs.lemmas.List.{length-set}
use Rattle.wasm_tree.specs.declared.module.ValType.{ValType}
use Rattle.wasm_tree.specs.declared.instr.Instr.{Instr}
use Rattle.wasm_tree.specs.declared.module.FuncBody.{FuncBody}
use Rattle.wasm_tree.specs.Reduce.{Seq, State, Label, CallFrame, Config, To, at, with_values, act}
use Rattle.wasm_steps.specs.Steps.{reduce}
use Rattle.wasm_runner.specs.declared.place.Place.{Place}
use Rattle.wasm_sound.specs.Kinds.{AreOf}
use Rattle.wasm_sound.specs.Sound.{Scope, IsSound, most_memory}
use Rattle.wasm_runner.specs.Standing.{Stacks, IsAt, held, below_of, waiting}
use Rattle.wasm_runner.specs.Steps.{Goes}
use Rattle.wasm_runner.proofs.Holding.{held_count, first_cell, written, pushed}
use Rattle.wasm_runner.proofs.Going as G
use Rattle.wasm_runner.proofs.Going.{with_cells, moved}
use Rattle.std.proofs.lemmas.List.{get_or-drop, length-reverse}
use Rattle.std.proofs.lemmas.Option.{slice_get_within, slice_get-get_or, get_or_from_slice_get}
use Rattle.wasm_tree.specs.Cells.{cells_below}
use Rattle.wasm_runner.specs.Standing.{cells_of_frames}
use Rattle.wasm_runner.proofs.Holding.{below_count}
use Rattle.std.proofs.Common.{◌≢◌, inl, inr}
use Rattle.std.proofs.lemmas.Bool.{cases_lt}
use Rattle.std.proofs.lemmas.List.{drop-drop, drop-append-le, take-append-le, drop_all}
use Rattle.wasm_tree.specs.Reduce.{Nil, branch, give_back}
use Rattle.wasm_tree.specs.Typed.{Context}
use Rattle.wasm_runner.specs.declared.place.Block.{Block}
use Rattle.wasm_runner.specs.declared.step.Step.{Step as Taken}
use Rattle.wasm_runner.specs.declared.step.Step.TheVariants as took
use Rattle.wasm_sound.specs.Sound.{context, IsLabel, AreLabels, AreFrames}
use Rattle.wasm_runner.specs.Standing.{IsBlock, AreBlocks, AreCallers, HasRoom, blocks_of}
use Rattle.wasm_runner.specs.Steps.{Took, GivesBack, Exits}
use Rattle.wasm_runner.proofs.Typing.{split, same_length, front_is, joined}
use Rattle.wasm_runner.proofs.Holding.{below_more}

-- what is below a place of the cells
pub suffix : (cells : List ℕ) (sp h : ℕ) (front back : List ℕ) → drop sp cells ≡ front ++ back → sp ≤ length cells → h + length back ≡ length cells → drop h cells ≡ back
suffix cells sp h front back e low n =
    let a = ap length e in let b = length-drop sp cells in let k = length-append front back in
    let up : sp + length front ≡ h = omega arith in
    let at_front = drop-append-le (length front) front back (omega arith) in
    ap (λ m. drop m cells) (sym up) ∙ sym (drop-drop-flip) ∙ ap (drop (length front)) e ∙ at_front ∙ ap (λ l. l ++ back) (drop_all (length front) front (omega arith))
  where
    drop-drop-flip : drop (length front) (drop sp cells) ≡ drop (sp + length front) cells
    drop-drop-flip = let x = drop-drop (length front) sp cells in x

-- a label among those around it, by its number, with its mark and its types
record Target (ctx : Context) (cells : ℕ) (code : List Instr) (marks : List Block) (n : ℕ) (labels : List Label) (rest : ℕ) (types : List ValType) : Type 0 where
  label : Label
  outer : List Label
  mark : Block
  marked : slice_get marks n ≡ Some mark
  goes : (st : State) (fs : List CallFrame) → branch n st labels fs ≡ To (at label.target (with_values st (take label.arity st.values ++ label.below)) outer fs)
  is : IsBlock cells code mark label outer rest
  outer_are : AreBlocks cells code (drop (suc n) marks) outer rest
  count : n + (1 + length outer) ≡ length labels
  pre : List ℕ
  below_is : below_of labels ≡ pre ++ (label.below ++ below_of outer)
  lists : List (List ValType)
  after : List ValType
  next : List ValType
  typed : IsLabel ctx types lists label after next
  around : AreLabels ctx lists outer next

target_of : (ctx : Context) (cells : ℕ) (code : List Instr) (marks : List Block) (n : ℕ) (labels : List Label) (rest : ℕ) (types : List ValType) (lists : List (List ValType)) (after : List ValType) →
    n < length labels → AreBlocks cells code marks labels rest → slice_get lists n ≡ Some types → AreLabels ctx lists labels after → Target ctx cells code marks n labels rest types
target_of ctx cells code marks n [] rest types lists after h b e t = absurd (omega arith)
target_of ctx cells code [] n (l ∷ ls) rest types lists after h b e t = absurd b
target_of ctx cells code (m ∷ ms) n (l ∷ ls) rest types [] after h b e t = absurd t
target_of ctx cells code (m ∷ ms) zero (l ∷ ls) rest types (y ∷ ys) after h b e t =
    let same : y ≡ types = cc in
    record { label = l; outer = ls; mark = m; marked = refl; goes = λ st fs. refl; is = b.0; outer_are = b.1; count = omega arith; pre = []; below_is = refl; lists = ys; after = after; next = t.0; typed = subst (λ y. IsLabel ctx y ys l after t.0) same t.1; around = t.2 }
target_of ctx cells code (m ∷ ms) (suc n) (l ∷ ls) rest types (y ∷ ys) after h b e t =
    let r = target_of ctx cells code ms n ls rest types ys t.0 (omega arith) b.1 e t.2 in
    let k = r.count in
    record {
      label = r.label;
      outer = r.outer;
      mark = r.mark;
      marked = r.marked;
      goes = r.goes;
      is = r.is;
      outer_are = r.outer_are;
      count = omega arith;
      pre = l.below ++ r.pre;
      below_is = ap (λ x. l.below ++ x) r.below_is ∙ sym (append_assoc l.below r.pre (r.label.below ++ below_of r.outer));
      lists = r.lists;
      after = r.after;
      next = r.next;
      typed = r.typed;
      around = r.around;
    }

-- past the labels a branch leads to the function's end, and takes its results along
leads_out : (ctx : Context) (n : ℕ) (labels : List Label) (types : List ValType) (lists : List (List ValType)) (after : List ValType) → length labels ≤ n → slice_get lists n ≡ Some types → AreLabels ctx lists labels after →
    (types ≡ reverse ctx.results) × ((st : State) (fs : List CallFrame) → branch n st labels fs ≡ To (at Nil st [] fs))
leads_out ctx n [] types [] after h e t = absurd t
leads_out ctx zero [] types (y ∷ ys) after h e t = let same : types ≡ y = cc in (same ∙ t.0, λ st fs. refl)
leads_out ctx (suc n) [] types (y ∷ ys) after h e t = absurd (none n (ap (λ l. slice_get l n) (sym t.1) ∙ e))
  where
    none : (n : ℕ) → slice_get [] n ≡ Some types → ⊥
    none zero e = cc
    none (suc n) e = cc
leads_out ctx zero (l ∷ ls) types lists after h e t = absurd (omega arith)
leads_out ctx (suc n) (l ∷ ls) types [] after h e t = absurd t
leads_out ctx (suc n) (l ∷ ls) types (y ∷ ys) after h e t = leads_out ctx n ls types ys t.0 (omega arith) e t.2

abbrev pub with_blocks : Stacks → List Block → Stacks
with_blocks s blocks = record { cells = s.cells; blocks = blocks; callers = s.callers; globals = s.globals; memory = s.memory }

module _ (scope : Scope) (codes : List FuncBody) (code : List Instr) (s : Stacks) (depth : ℕ) (place : Place) (c : Config) (a : IsAt scope codes code s depth place c) where
  abbrev st : State
  st = c.state

  abbrev X : List ℕ
  X = reverse st.locals ++ waiting c.frames

  abbrev rest_cells : ℕ
  rest_cells = length st.locals + cells_of_frames c.frames

  -- the next instruction leads there with the operands `vs`, which begin at `sp`
  pub record Lies (vs : List ℕ) (sp : ℕ) : Type 0 where
    pub holds : drop sp s.cells ≡ vs ++ (below_of c.labels ++ X)
    pub low : sp ≤ length s.cells

  pub lies_count : (vs : List ℕ) (sp : ℕ) → Lies vs sp → sp + (length vs + (cells_below c.labels + rest_cells)) ≡ length s.cells
  lies_count vs sp l =
      let a1 = ap length l.holds in let a2 = length-drop sp s.cells in let a3 = length-append vs (below_of c.labels ++ X) in let a4 = length-append (below_of c.labels) X in
      let a5 = length-append (reverse st.locals) (waiting c.frames) in let a6 = length-reverse st.locals in let a7 = below_count c.labels in let a8 = Rattle.wasm_runner.proofs.Holding.waiting_count c.frames in
      let a9 = l.low in omega arith

  pub lies_here : Lies st.values place.sp
  lies_here = record { holds = a.shows.holds; low = G.sp_within scope codes code s depth place c a }

  -- ---- giving back

  pub give : (d : Config) (vs : List ℕ) (sp : ℕ) (results below : List ValType) → Lies vs sp → reduce scope.funcs d ≡ give_back d.state d.frames → d.state ≡ with_values st vs → d.frames ≡ c.frames →
      HasRoom scope.funcs (length s.cells) (length s.blocks) (length s.callers) d → length results ≤ 1 → AreOf (reverse results ++ below) vs → AreFrames scope results c.frames →
      AreOf (map (λ var. var.ty) scope.vars) st.globals → length st.memory ≤ most_memory → GivesBack scope codes s depth place.base place.floor sp d
  give d vs sp results below l r e f room few typed callers shared memory =
      let p = split (reverse results) below vs typed in
      let n = length-reverse results in
      let vl = ap length p.is in let va = length-append p.front p.back in let fl = same_length (reverse results) p.front p.ins_are in
      let is : take (length results) vs ≡ p.front = ap (λ k. take k vs) (sym n) ∙ ap (take (length (reverse results))) p.is ∙ front_is (reverse results) p.front p.back p.ins_are in
      let values : d.state.values ≡ vs = ap (λ (x : State). x.values) e in
      let few_there : length results ≤ length vs = omega arith in
      let k = lies_count vs sp l in let b = a.shows.base_is in
      record {
        reduces = r;
        results = results;
        few = few;
        given = subst (λ v. AreOf (reverse results) (take (length results) v)) (sym values) (subst (AreOf (reverse results)) (sym is) p.ins_are);
        shown = ap (take (length results)) l.holds ∙ take-append-le (length results) vs (below_of c.labels ++ X) few_there ∙ ap (take (length results)) (sym values);
        low = omega arith;
        callers = subst (AreFrames scope results) (sym f) callers;
        waits = suffix s.cells sp place.base (vs ++ (below_of c.labels ++ reverse st.locals)) (waiting c.frames)
            (l.holds ∙ sym (append_assoc vs (below_of c.labels ++ reverse st.locals) (waiting c.frames) ∙ ap (λ q. vs ++ q) (append_assoc (below_of c.labels) (reverse st.locals) (waiting c.frames)))) l.low
            (let w = Rattle.wasm_runner.proofs.Holding.waiting_count c.frames in omega arith) ∙ ap waiting (sym f);
        base_is = subst (λ fs. place.base + cells_of_frames fs ≡ length s.cells) (sym f) b;
        lp_is = subst (λ fs. place.floor + blocks_of fs ≡ length s.blocks) (sym f) a.shows.lp_is;
        callers_are = subst (AreCallers (length s.cells) codes place.floor (drop place.floor s.blocks) (drop depth s.callers)) (sym f) a.shows.callers_are;
        depth_is = subst (λ fs. depth + length fs ≡ length s.callers) (sym f) a.shows.depth_is;
        globals_are = ap (λ (x : State). x.globals) e ∙ a.shows.globals_are;
        memory_is = ap (λ (x : State). x.memory) e ∙ a.shows.memory_is;
        shared = subst (λ (x : State). AreOf (map (λ var. var.ty) scope.vars) x.globals) (sym e) shared;
        memory = subst (λ (x : State). length x.memory ≤ most_memory) (sym e) memory;
        room = room;
      }

  -- ---- branches

  nil_gives : (vs : List ℕ) → reduce scope.funcs (at Nil (with_values st vs) [] c.frames) ≡ give_back (with_values st vs) c.frames
  unfolding act
  nil_gives vs = refl

  pub record Branches (o : List (List ValType)) (n : ℕ) (vs : List ℕ) (sp : ℕ) : Type 0 where
    pub lies : Lies vs sp
    pub reduces : reduce scope.funcs c ≡ branch n (with_values st vs) c.labels c.frames
    pub types : List ValType
    pub typed : slice_get o n ≡ Some types
    pub below : List ValType
    pub held_are : AreOf (types ++ below) vs

  block_at : (n : ℕ) (mark : Block) → slice_get (drop place.lp s.blocks) n ≡ Some mark → slice_get s.blocks (place.lp + n) ≡ Some mark
  block_at n mark e =
      let w = slice_get_within (drop place.lp s.blocks) n mark e in
      let l = length-drop place.lp s.blocks in
      slice_get-get_or s.blocks (place.lp + n) mark (omega arith) ∙ ap Some (sym (get_or-drop place.lp s.blocks n mark) ∙ get_or_from_slice_get (drop place.lp s.blocks) n mark mark e)

  -- a branch to a label
  module _ (q : Seq) (o : IsSound scope (at q st c.labels c.frames)) (n : ℕ) (vs : List ℕ) (sp : ℕ) (b : Branches o.labels n vs sp) where
    abbrev ctx : Context
    ctx = context scope o.locals o.results

    target : n < length c.labels → Target ctx (length s.cells) code (drop place.lp s.blocks) n c.labels rest_cells b.types
    target h = target_of ctx (length s.cells) code (drop place.lp s.blocks) n c.labels rest_cells b.types o.labels o.after h a.shows.blocks_are b.typed o.open_labels

    -- the operands that go along
    along : (t : Target ctx (length s.cells) code (drop place.lp s.blocks) n c.labels rest_cells b.types) → (xs : List ℕ) × AreOf b.types xs × (take t.label.arity vs ≡ xs) × (length xs ≡ t.label.arity) × ((back : List ℕ) × (vs ≡ xs ++ back))
    along t =
        let p = split b.types b.below vs b.held_are in
        let k = t.typed.arity in
        (p.front, p.ins_are, ap (λ m. take m vs) (sym k) ∙ ap (take (length b.types)) p.is ∙ front_is b.types p.front p.back p.ins_are, same_length b.types p.front p.ins_are ∙ k, (p.back, p.is))

    height_is : (t : Target ctx (length s.cells) code (drop place.lp s.blocks) n c.labels rest_cells b.types) →
        (drop t.mark.height s.cells ≡ t.label.below ++ (below_of t.outer ++ X)) × (sp + length vs + length t.pre ≡ t.mark.height) × (t.mark.height ≤ length s.cells)
    height_is t =
        let back = t.label.below ++ (below_of t.outer ++ X) in
        let shape : below_of c.labels ++ X ≡ t.pre ++ back = ap (λ l. l ++ X) t.below_is ∙ append_assoc t.pre (t.label.below ++ below_of t.outer) X ∙ ap (λ l. t.pre ++ l) (append_assoc t.label.below (below_of t.outer) X) in
        let all : drop sp s.cells ≡ (vs ++ t.pre) ++ back = b.lies.holds ∙ ap (λ l. vs ++ l) shape ∙ sym (append_assoc vs t.pre back) in
        let a1 = length-append t.label.below (below_of t.outer ++ X) in let a2 = length-append (below_of t.outer) X in
        let a5 = length-append (reverse st.locals) (waiting c.frames) in let a6 = length-reverse st.locals in let a7 = below_count t.outer in let a8 = Rattle.wasm_runner.proofs.Holding.waiting_count c.frames in
        let hh = t.is.height in
        let n' : t.mark.height + length back ≡ length s.cells = omega arith in
        let l1 = ap length all in let l2 = length-append (vs ++ t.pre) back in let l3 = length-append vs t.pre in let l4 = length-drop sp s.cells in let l5 = b.lies.low in
        (suffix s.cells sp t.mark.height (vs ++ t.pre) back all l5 n', omega arith, omega arith)

    pub marked_at : n < length c.labels → (m : Block) → slice_get s.blocks (place.lp + n) ≡ Some m → m.arity ≢ 0 → (0 < m.height) × (m.height ≤ length s.cells) × (sp < length s.cells)
    marked_at h m e ne =
        let t = target h in
        let same : t.mark ≡ m = let x = block_at n t.mark t.marked in cc in
        let w = along t in let g = height_is t in
        let ar = t.is.arity in
        let am = ap (λ (k : Block). k.arity) same in
        let hm = ap (λ (k : Block). k.height) same in
        let vl = ap length w.4.1 in let va = length-append w.0 w.4.0 in
        let some : 0 < length vs = let p : t.mark.arity ≢ 0 = subst (λ (k : Block). k.arity ≢ 0) (sym same) ne in let wl = w.3 in omega arith in
        let up = g.1 in let lo = g.2 in
        (omega arith, omega arith, omega arith)

    pub taken_at : (m : Block) → slice_get s.blocks (place.lp + n) ≡ Some m → place.lp + n < place.floor → m.arity ≢ 0 → (0 < m.height) × (m.height ≤ length s.cells) × (sp < length s.cells)
    taken_at m e low ne = marked_at (let fl = a.shows.floor_is in omega arith) m e ne

    arrives : (t : Target ctx (length s.cells) code (drop place.lp s.blocks) n c.labels rest_cells b.types) (xs : List ℕ) → AreOf b.types xs → take t.label.arity vs ≡ xs → (cells : List ℕ) (to : ℕ) →
        drop to cells ≡ xs ++ (t.label.below ++ (below_of t.outer ++ X)) → to ≤ length cells → length cells ≡ length s.cells →
        Goes scope codes code (with_cells s cells s.globals s.memory) depth (record { at = t.mark.target; sp = to; lp = place.lp + n + 1; base = place.base; floor = place.floor }) c
    arrives t xs xs_are e cells to hold low same =
        let st' : State = with_values st (xs ++ t.label.below) in
        let d : Config = at t.label.target st' t.outer c.frames in
        let r : reduce scope.funcs c ≡ To d = b.reduces ∙ t.goes (with_values st vs) c.frames ∙ ap (λ l. To (at t.label.target (with_values st (l ++ t.label.below)) t.outer c.frames)) e in
        let k = t.count in let fl = a.shows.floor_is in let ba = a.shows.base_is in
        let hold' : drop to cells ≡ held d = hold ∙ sym (append_assoc xs t.label.below (below_of t.outer ++ X)) in
        let hl = ap length hold' in let hd = length-drop to cells in
        let more : place.lp + n + 1 ≡ place.lp + suc n = omega arith in
        let blocks : AreBlocks (length s.cells) code (drop (place.lp + n + 1) s.blocks) t.outer rest_cells =
        subst (λ m. AreBlocks (length s.cells) code m t.outer rest_cells) (drop-drop (suc n) place.lp s.blocks ∙ ap (λ m. drop m s.blocks) (sym more)) t.outer_are in
        record {
          next = d;
          reduces = r;
          is = record {
            shows = record {
              stands = t.is.leads;
              holds = hold';
              sp_is = omega arith;
              base_is = omega arith;
              blocks_are = subst (λ x. AreBlocks x code (drop (place.lp + n + 1) s.blocks) t.outer rest_cells) (sym same) blocks;
              floor_is = omega arith;
              lp_is = a.shows.lp_is;
              callers_are = subst (λ x. AreCallers x codes place.floor (drop place.floor s.blocks) (drop depth s.callers) c.frames) (sym same) a.shows.callers_are;
              depth_is = a.shows.depth_is;
              globals_are = a.shows.globals_are;
              memory_is = a.shows.memory_is;
            };
            sound = record {
              locals = o.locals;
              results = o.results;
              few = o.few;
              operands = b.types ++ t.typed.below;
              held = joined b.types t.typed.below xs t.label.below xs_are t.typed.held;
              own = o.own;
              shared = o.shared;
              memory = o.memory;
              labels = t.lists;
              after = t.next;
              typed = t.typed.target;
              open_labels = t.around;
              callers = o.callers;
            };
            room = subst (λ x. HasRoom scope.funcs x (length s.blocks) (length s.callers) d) (sym same) (G.room_after scope.funcs (length s.cells) (length s.blocks) (length s.callers) c d a.room r);
          };
        }

    exits : length c.labels ≤ n → Exits scope codes s depth place.base place.floor sp c
    exits h =
        let l = leads_out ctx n c.labels b.types o.labels o.after h b.typed o.open_labels in
        let d : Config = at Nil (with_values st vs) [] c.frames in
        let r : reduce scope.funcs c ≡ To d = b.reduces ∙ l.1 (with_values st vs) c.frames in
        record {
          next = d;
          reduces = r;
          is = give d vs sp o.results b.below b.lies (nil_gives vs) refl refl (G.room_after scope.funcs (length s.cells) (length s.blocks) (length s.callers) c d a.room r) o.few
              (subst (λ ts. AreOf (ts ++ b.below) vs) l.0 b.held_are) o.callers o.shared o.memory;
        }

    -- what a branch does
    pub branch_took : (cells : List ℕ) (result : Taken) →
        (place.floor ≤ place.lp + n → (result ≡ took.Exit sp) × (cells ≡ s.cells)) →
        ((m : Block) → slice_get s.blocks (place.lp + n) ≡ Some m → place.lp + n < place.floor → m.arity ≡ 0 → (result ≡ took.Go m.target m.height (place.lp + n + 1)) × (cells ≡ s.cells)) →
        ((m : Block) → slice_get s.blocks (place.lp + n) ≡ Some m → place.lp + n < place.floor → m.arity ≢ 0 → (result ≡ took.Go m.target (m.height - 1) (place.lp + n + 1)) × (cells ≡ slice_set s.cells (m.height - 1) (slice_index s.cells sp))) →
        Took scope codes code (with_cells s cells s.globals s.memory) depth place c result
    branch_took cells result out bare with_value = elim (cases_lt n (length c.labels)) [
      | inl h ↦ inside h
      | inr h ↦ outside h
    ]
      where
        P : List ℕ → Taken → Type 0
        P cells result = Took scope codes code (with_cells s cells s.globals s.memory) depth place c result

        set_to : (cells' : List ℕ) (result' : Taken) → (result ≡ result') × (cells ≡ cells') → Took scope codes code (with_cells s cells' s.globals s.memory) depth place c result' → Took scope codes code (with_cells s cells s.globals s.memory) depth place c result
        set_to cells' result' e p =
            subst (λ r. Took scope codes code (with_cells s cells s.globals s.memory) depth place c r) (sym e.0)
            (subst (λ l. Took scope codes code (with_cells s l s.globals s.memory) depth place c result') (sym e.1) p)

        outside : length c.labels ≤ n → Took scope codes code (with_cells s cells s.globals s.memory) depth place c result
        outside h =
            let fl = a.shows.floor_is in
            set_to s.cells (took.Exit sp) (out (omega arith)) (exits h)

        inside : n < length c.labels → Took scope codes code (with_cells s cells s.globals s.memory) depth place c result
        inside h = by t.label.arity refl
          where
            t : Target ctx (length s.cells) code (drop place.lp s.blocks) n c.labels rest_cells b.types
            t = target h

            by : (arity : ℕ) → t.label.arity ≡ arity → Took scope codes code (with_cells s cells s.globals s.memory) depth place c result
            by zero e =
                let fl = a.shows.floor_is in
                let ar = t.is.arity in
                let w = along t in let g = height_is t in
                let none : w.0 ≡ [] = empty w.0 (w.3 ∙ e) in
                set_to s.cells (took.Go t.mark.target t.mark.height (place.lp + n + 1)) (bare t.mark (block_at n t.mark t.marked) (omega arith) (ar ∙ e))
                (arrives t w.0 w.1 w.2 s.cells t.mark.height (g.0 ∙ ap (λ l. l ++ (t.label.below ++ (below_of t.outer ++ X))) (sym none)) g.2 refl)
              where
                empty : (xs : List ℕ) → length xs ≡ 0 → xs ≡ []
                empty [] e = refl
                empty (x ∷ xs) e = absurd (omega arith)
            by (suc k) e =
                let fl = a.shows.floor_is in
                let ar = t.is.arity in
                let w = along t in let g = height_is t in
                let ne : t.mark.arity ≢ 0 = λ z. let y = ar in absurd (omega arith) in
                let few = t.typed.few in let ta = t.typed.arity in
                let one = single w.0 (w.3 ∙ e ∙ (let z : suc k ≡ 1 = omega arith in z)) in
                let first = first_cell s.cells sp one.0 (w.4.0 ++ (below_of c.labels ++ X)) (b.lies.holds ∙ ap (λ l. l ++ (below_of c.labels ++ X)) (w.4.1 ∙ ap (λ l. l ++ w.4.0) one.1)) in
                let bounds = marked_at h t.mark (block_at n t.mark t.marked) ne in
                let i : t.mark.height - 1 < length s.cells = let b1 = bounds.0 in let b2 = bounds.1 in omega arith in
                let up : t.mark.height - 1 + 1 ≡ t.mark.height = let b1 = bounds.0 in omega arith in
                let z = slice_index s.cells sp in
                let n' = length-set s.cells (t.mark.height - 1) z in
                let hold : drop (t.mark.height - 1) (slice_set s.cells (t.mark.height - 1) z) ≡ w.0 ++ (t.label.below ++ (below_of t.outer ++ X)) =
                written s.cells (t.mark.height - 1) z i ∙ ap (λ m. z ∷ drop m s.cells) up ∙ ap (λ l. z ∷ l) g.0 ∙ ap (λ v. v ∷ (t.label.below ++ (below_of t.outer ++ X))) first.1 ∙ ap (λ l. l ++ (t.label.below ++ (below_of t.outer ++ X))) (sym one.1) in
                set_to (slice_set s.cells (t.mark.height - 1) z) (took.Go t.mark.target (t.mark.height - 1) (place.lp + n + 1)) (with_value t.mark (block_at n t.mark t.marked) (omega arith) ne)
                (arrives t w.0 w.1 w.2 (slice_set s.cells (t.mark.height - 1) z) (t.mark.height - 1) hold (omega arith) n')
              where
                single : (xs : List ℕ) → length xs ≡ 1 → (x : ℕ) × (xs ≡ x ∷ [])
                single [] e = absurd (omega arith)
                single (x ∷ []) e = (x, refl)
                single (x ∷ y ∷ xs) e = absurd (omega arith)

  pub floor_up : place.lp ≤ place.floor
  floor_up = let f = a.shows.floor_is in omega arith

  pub floor_within : place.floor ≤ length s.blocks
  floor_within = let f = a.shows.lp_is in omega arith
