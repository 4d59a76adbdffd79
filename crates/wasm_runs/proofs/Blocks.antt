-- Frames in blocks: from one stretch of `frames` to the parts of a run.
use Rattle.std.proofs.Common.{◌≡◌, ◌≢◌, ℕ, zero, suc, ◌+◌, ◌-◌, ◌*◌, ◌<◌, ◌≤◌, List, [], ◌∷◌, ◌++◌, length, take, drop, true, false, Option, Some, None, refl, sym, ap, ◌∙◌, subst, append-nil, arith, inl, inr, zero-add}
use Rattle.std.specs.Prelude.{unwrap_or}
use Rattle.std.specs.List.{AllByRecursion}
use Rattle.std.proofs.lemmas.Bool.{cases_lt, eq-eqb}
use Rattle.std.proofs.lemmas.Bool.Decides.{eqb_tells}
use Rattle.std.proofs.Math.Nat.{mul-add}
use Rattle.std.proofs.lemmas.List.{take-append-drop}
use Rattle.cm_base.specs.declared.play.Item.{Item}
use Rattle.cm_base.specs.Parts.{Inputs, Frame}
use Rattle.cm_base.specs.Players.{Left, Goes, Spent, Traps, Source}
use Rattle.cm_base.specs.Tasks.{AreInputs}
use Rattle.wasm_tree.specs.declared.module.Module.{Module}
use Rattle.wasm_tree.specs.declared.interface.Interface.{Interface}
use Rattle.wasm_tree.specs.declared.interface.Interface.TheVariants.{Blocks}
use Rattle.wasm_tree.specs.Calls.{heard}
use Rattle.wasm_tree.specs.HostRun.{Machine, Block, Instance, call_left, no_more, frame_told, stretch, marked, block_end, new_block, frame_part, module_player}
use Rattle.wasm_tree.specs.Instance.{funcs_of}
use Rattle.wasm_tree.specs.Keeps.{IsFront}
use Rattle.wasm_tree.specs.Reduce.{Config, exec, follow}
use Rattle.wasm_tree.specs.Section.{CmajorSection}
use Rattle.wasm_runs.specs.Blocks.{Waiting, StretchMarks, BlockEnds, BlocksKeep, Related}
use Rattle.wasm_runs.specs.Calling.{Keeping, CallKeeps, CallEnds, IsFree}
use Rattle.wasm_runs.specs.Follows.{Follows, KeepsPart}
use Rattle.wasm_runs.proofs.Calls.{trace_of, adds_frame, from_trace}
use Rattle.wasm_runs.proofs.Fronts.{front_of, front_then}
use Rattle.wasm_runs.proofs.Growth.{stretch_grows}
use Rattle.wasm_runs.proofs.Heard.{hears_last, hears_spent, hears_more}

abbrev machine_of : Module → CmajorSection → ℕ → Machine
machine_of m section steps = record { «module» = m; section = section; steps = steps }

-- ---- marks

-- where frames are left, the call waits
mark_waits : (m : Module) (section : CmajorSection) (steps frame : ℕ) (block : Block) (instance : Instance) (memory : List ℕ) (next : Config) (told : List Item) → block.told + 1 ≢ block.count →
    marked (machine_of m section steps) frame block instance memory next told
    ≡ Goes (record instance { trace = frame_told section.slots block.told frame memory told; block = Some (record { next = next; told = block.told + 1; count = block.count }) })
mark_waits m section steps frame block instance memory next told more =
    elim (eqb_tells (block.told + 1) block.count) [
      | inl same ↦ absurd (more same.1)
      | inr apart ↦ rw apart.0 refl
    ]

-- after the last frame the call ends
mark_ends : (m : Module) (section : CmajorSection) (steps frame : ℕ) (block : Block) (instance : Instance) (memory : List ℕ) (next : Config) (told : List Item) → block.told + 1 ≡ block.count →
    marked (machine_of m section steps) frame block instance memory next told
    ≡ block_end (machine_of m section steps) frame next (record instance { trace = frame_told section.slots block.told frame memory told })
mark_ends m section steps frame block instance memory next told last = rw (eq-eqb (block.told + 1) block.count last) refl

-- fewer reductions than one turn is worth are fewer than any turns are worth
enough_worth : (cost n count : ℕ) → count < cost → count < cost * (n + 1)
enough_worth cost n count few = let e : cost * (n + 1) ≡ cost * n + cost * 1 = mul-add cost n 1 in omega (arith, e)

-- the end of a call, with more reductions than it takes
end_goes : {World : Type 0} (Kept : Keeping World) (told : World → List Item) (m : Module) (section : CmajorSection) (cost steps frame : ℕ) (next : Config) (world : World) (instance : Instance) →
    (ends : BlockEnds Kept (funcs_of m) cost instance.current world next) → told world ≡ instance.trace → ends.count < steps →
    (after : Instance) × (block_end (machine_of m section steps) frame next instance ≡ Goes after) × (IsFree Kept told world after)
unfolding heard
end_goes Kept told m section cost steps frame next world instance ends same enough = (
  record instance { globals = ends.globals; memory = ends.memory; block = None; trace = instance.trace ++ [] },
  ap (call_left instance no_more)
      (hears_last (funcs_of m) section.slots false (frame + 1) ends.count steps [] next ends.last [] instance.trace ends.leads refl enough
      ∙ ap (λ step. heard section.slots false (frame + 1) (follow step (exec (funcs_of m) (steps - suc ends.count))) (instance.trace ++ [])) ends.is),
  record { block = refl; tells = same ∙ sym (append-nil instance.trace); kept = ends.kept },
)

-- and with no more
end_spent : {World : Type 0} (Kept : Keeping World) (m : Module) (section : CmajorSection) (cost steps frame : ℕ) (next : Config) (world : World) (instance : Instance) →
    (ends : BlockEnds Kept (funcs_of m) cost instance.current world next) → steps ≤ ends.count →
    (so_far : List Item) × (block_end (machine_of m section steps) frame next instance ≡ Spent (record instance { trace = so_far })) × (IsFront so_far instance.trace)
end_spent Kept m section cost steps frame next world instance ends few =
    let out = hears_spent (funcs_of m) section.slots false (frame + 1) ends.count steps [] next ends.last [] instance.trace ends.leads refl few in
    (out.so_far, ap (call_left instance no_more) out.is, front_then out.front (front_of (append-nil instance.trace)))

-- ---- one stretch

-- a stretch that comes to its mark
stretch_marks : {World : Type 0} (Kept : Keeping World) (Waits : Waiting World) (told : World → List Item) (m : Module) (section : CmajorSection) (cost most frame steps : ℕ) (others : List Inputs) (block : Block) (world : World) (instance : Instance) →
    (ends : CallEnds (funcs_of m) section.slots frame most block.next instance.trace (StretchMarks Kept Waits told (funcs_of m) section.slots cost frame instance.current others block.told world)) → ends.count < steps →
    stretch (machine_of m section steps) frame block instance (heard section.slots true frame (exec (funcs_of m) steps block.next) instance.trace)
    ≡ marked (machine_of m section steps) frame block instance ends.after.memory ends.after.next (instance.trace ++ ends.items)
unfolding heard
stretch_marks Kept Waits told m section cost most frame steps others block world instance ends enough =
    ap (stretch (machine_of m section steps) frame block instance)
    (hears_last (funcs_of m) section.slots true frame ends.count steps ends.es block.next ends.last ends.items instance.trace ends.leads ends.heard enough
    ∙ ap (λ step. heard section.slots true frame (follow step (exec (funcs_of m) (steps - suc ends.count))) (instance.trace ++ ends.items)) ends.after.is)

-- the part of the relation that the law keeps for each block
abbrev Counts : Block → Inputs → List Inputs → Type 0
Counts block inputs others = block.count ≡ block.told + length (inputs ∷ others)

-- what a stretch leaves
abbrev stretched : Module → CmajorSection → ℕ → ℕ → Block → Instance → Left Instance
stretched m section steps frame block instance = stretch (machine_of m section steps) frame block instance (heard section.slots true frame (exec (funcs_of m) steps block.next) instance.trace)

-- a mark with frames left
goes_waiting : {World : Type 0} (Kept : Keeping World) (Waits : Waiting World) (told : World → List Item) (m : Module) (section : CmajorSection) (cost most frame steps : ℕ) (inputs next_inputs : Inputs) (others later : List Inputs) (block : Block) (world : World) (instance : Instance) →
    Counts block inputs (next_inputs ∷ others) →
    (ends : CallEnds (funcs_of m) section.slots frame most block.next instance.trace (StretchMarks Kept Waits told (funcs_of m) section.slots cost frame instance.current (next_inputs ∷ others) block.told world)) → ends.count < steps →
    (after : Instance) × (stretched m section steps frame block instance ≡ Goes after) × (Related Kept Waits told (next_inputs ∷ (others ++ later)) world after)
goes_waiting Kept Waits told m section cost most frame steps inputs next_inputs others later block world instance counts ends enough =
    let more : block.told + 1 ≢ block.count = λ e. absurd (omega (arith, e, counts)) in (
      record instance {
        trace = frame_told section.slots block.told frame ends.after.memory (instance.trace ++ ends.items);
        block = Some (record { next = ends.after.next; told = block.told + 1; count = block.count });
      },
      stretch_marks Kept Waits told m section cost most frame steps (next_inputs ∷ others) block world instance ends enough
          ∙ mark_waits m section steps frame block instance ends.after.memory ends.after.next (instance.trace ++ ends.items) more,
      inr (record {
        block = record { next = ends.after.next; told = block.told + 1; count = block.count };
        is = refl;
        tells = ends.after.tells;
        inputs = next_inputs;
        others = others;
        later = later;
        comes = refl;
        counts = omega (arith, counts);
        waits = ends.after.goes_on;
      }),
    )

-- the last mark
ends_after_mark : {World : Type 0} (Kept : Keeping World) (Waits : Waiting World) (told : World → List Item) (m : Module) (section : CmajorSection) (cost most frame steps : ℕ) (inputs : Inputs) (block : Block) (world : World) (instance : Instance) →
    Counts block inputs [] →
    (ends : CallEnds (funcs_of m) section.slots frame most block.next instance.trace (StretchMarks Kept Waits told (funcs_of m) section.slots cost frame instance.current [] block.told world)) → ends.count < steps →
    stretched m section steps frame block instance
    ≡ block_end (machine_of m section steps) frame ends.after.next (record instance { trace = frame_told section.slots block.told frame ends.after.memory (instance.trace ++ ends.items) })
ends_after_mark Kept Waits told m section cost most frame steps inputs block world instance counts ends enough =
    stretch_marks Kept Waits told m section cost most frame steps [] block world instance ends enough
    ∙ mark_ends m section steps frame block instance ends.after.memory ends.after.next (instance.trace ++ ends.items) (omega (arith, counts))

-- forward, by what is left of the block
goes_forth : {World : Type 0} (Kept : Keeping World) (Waits : Waiting World) (told : World → List Item) (m : Module) (section : CmajorSection) (cost frame n : ℕ) (inputs : Inputs) (others later : List Inputs) (block : Block) (world : World) (instance : Instance) →
    Counts block inputs others →
    CallEnds (funcs_of m) section.slots frame (cost * (n + 1)) block.next instance.trace (StretchMarks Kept Waits told (funcs_of m) section.slots cost frame instance.current others block.told world) →
    Follows (Related Kept Waits told (others ++ later)) told trace_of (Goes world) (stretched m section (cost * (n + 1)) frame block instance)
goes_forth Kept Waits told m section cost frame n inputs [] later block world instance counts ends =
    let now = record instance { trace = frame_told section.slots block.told frame ends.after.memory (instance.trace ++ ends.items) } in
    let done = end_goes Kept told m section cost (cost * (n + 1)) frame ends.after.next world now ends.after.goes_on ends.after.tells (enough_worth cost n ends.after.goes_on.count ends.after.goes_on.few) in
    subst (λ other. Follows (Related Kept Waits told ([] ++ later)) told trace_of (Goes world) other)
    (sym (ends_after_mark Kept Waits told m section cost (cost * (n + 1)) frame (cost * (n + 1)) inputs block world instance counts ends ends.few ∙ done.1)) (inl done.2)
goes_forth Kept Waits told m section cost frame n inputs (next_inputs ∷ others) later block world instance counts ends =
    let done = goes_waiting Kept Waits told m section cost (cost * (n + 1)) frame (cost * (n + 1)) inputs next_inputs others later block world instance counts ends ends.few in
    subst (λ other. Follows (Related Kept Waits told (next_inputs ∷ (others ++ later))) told trace_of (Goes world) other) (sym done.1) done.2

-- backward
goes_back : {World : Type 0} (Kept : Keeping World) (Waits : Waiting World) (told : World → List Item) (m : Module) (section : CmajorSection) (cost most frame steps : ℕ) (inputs : Inputs) (others later : List Inputs) (block : Block) (world : World) (instance : Instance) →
    Counts block inputs others →
    (ends : CallEnds (funcs_of m) section.slots frame most block.next instance.trace (StretchMarks Kept Waits told (funcs_of m) section.slots cost frame instance.current others block.told world)) → ends.count < steps →
    Follows (λ y x. Related Kept Waits told (others ++ later) x y) trace_of told (stretched m section steps frame block instance) (Goes world)
goes_back Kept Waits told m section cost most frame steps inputs [] later block world instance counts ends enough =
    let now = record instance { trace = frame_told section.slots block.told frame ends.after.memory (instance.trace ++ ends.items) } in
    let is = ends_after_mark Kept Waits told m section cost most frame steps inputs block world instance counts ends enough in
    elim (cases_lt ends.after.goes_on.count steps) [
      | inl h ↦
          let done = end_goes Kept told m section cost steps frame ends.after.next world now ends.after.goes_on ends.after.tells h in
          subst (λ other. Follows (λ y x. Related Kept Waits told ([] ++ later) x y) trace_of told other (Goes world)) (sym (is ∙ done.1)) (inl done.2)
      | inr h ↦
          let few : steps ≤ ends.after.goes_on.count = omega arith in
          let done = end_spent Kept m section cost steps frame ends.after.next world now ends.after.goes_on few in
          subst (λ other. Follows (λ y x. Related Kept Waits told ([] ++ later) x y) trace_of told other (Goes world)) (sym (is ∙ done.1)) (front_then done.2 (front_of (sym ends.after.tells)))
    ]
goes_back Kept Waits told m section cost most frame steps inputs (next_inputs ∷ others) later block world instance counts ends enough =
    let done = goes_waiting Kept Waits told m section cost most frame steps inputs next_inputs others later block world instance counts ends enough in
    subst (λ other. Follows (λ y x. Related Kept Waits told (next_inputs ∷ (others ++ later)) x y) trace_of told other (Goes world)) (sym done.1) done.2

-- what a stretch owes against what the frame of the source leaves
abbrev Stretch : {World : Type 0} → Keeping World → Waiting World → (World → List Item) → Module → CmajorSection → ℕ → ℕ → ℕ → List Inputs → Block → Instance → Left World → Type 0
Stretch Kept Waits told m section cost frame n others block instance left =
    CallKeeps (funcs_of m) section.slots frame cost n block.next instance.trace told (StretchMarks Kept Waits told (funcs_of m) section.slots cost frame instance.current others block.told) left

-- with the reductions that the turns are worth, it follows the source
stretch_forth : {World : Type 0} (Kept : Keeping World) (Waits : Waiting World) (told : World → List Item) (m : Module) (section : CmajorSection) (cost frame n : ℕ) (inputs : Inputs) (others later : List Inputs) (block : Block) (instance : Instance) →
    Counts block inputs others → (left : Left World) → Stretch Kept Waits told m section cost frame n others block instance left →
    Follows (Related Kept Waits told (others ++ later)) told trace_of left (stretched m section (cost * (n + 1)) frame block instance)
stretch_forth Kept Waits told m section cost frame n inputs others later block instance counts (Goes world) keeps =
    goes_forth Kept Waits told m section cost frame n inputs others later block world instance counts keeps
stretch_forth Kept Waits told m section cost frame n inputs others later block instance counts (Spent world) keeps =
    front_then (front_of keeps.tells)
    (front_then (hears_more (funcs_of m) section.slots true frame keeps.count (cost * (n + 1)) keeps.es block.next keeps.last keeps.items instance.trace keeps.leads keeps.heard keeps.few)
    (stretch_grows (machine_of m section (cost * (n + 1))) frame block instance (heard section.slots true frame (exec (funcs_of m) (cost * (n + 1)) block.next) instance.trace)))
stretch_forth Kept Waits told m section cost frame n inputs others later block instance counts (Traps world) keeps = absurd keeps

-- with as many turns as reductions, the source follows it
stretch_back : {World : Type 0} (Kept : Keeping World) (Waits : Waiting World) (told : World → List Item) (m : Module) (section : CmajorSection) (cost frame steps : ℕ) (inputs : Inputs) (others later : List Inputs) (block : Block) (instance : Instance) →
    Counts block inputs others → (left : Left World) → Stretch Kept Waits told m section cost frame steps others block instance left →
    Follows (λ y x. Related Kept Waits told (others ++ later) x y) trace_of told (stretched m section steps frame block instance) left
stretch_back Kept Waits told m section cost frame steps inputs others later block instance counts (Goes world) keeps =
    elim (cases_lt keeps.count steps) [
      | inl h ↦ goes_back Kept Waits told m section cost (cost * (steps + 1)) frame steps inputs others later block world instance counts keeps h
      | inr h ↦
          let few : steps ≤ keeps.count = omega arith in
          let out = hears_spent (funcs_of m) section.slots true frame keeps.count steps keeps.es block.next keeps.last keeps.items instance.trace keeps.leads keeps.heard few in
          subst (λ result. Follows (λ y x. Related Kept Waits told (others ++ later) x y) trace_of told (stretch (machine_of m section steps) frame block instance result) (Goes world)) (sym out.is)
          (front_then out.front (front_then (adds_frame section.slots block.told frame keeps.after.memory _) (front_of (sym keeps.after.tells))))
    ]
stretch_back Kept Waits told m section cost frame steps inputs others later block instance counts (Spent world) keeps =
    let out = hears_spent (funcs_of m) section.slots true frame keeps.count steps keeps.es block.next keeps.last keeps.items instance.trace keeps.leads keeps.heard keeps.enough in
    subst (λ result. Follows (λ y x. Related Kept Waits told (others ++ later) x y) trace_of told (stretch (machine_of m section steps) frame block instance result) (Spent world)) (sym out.is)
    (front_then out.front (front_of (sym keeps.tells)))
stretch_back Kept Waits told m section cost frame steps inputs others later block instance counts (Traps world) keeps = absurd keeps

-- ---- parts of a run in blocks

-- a frame whose part is this stretch
stretch_keeps : {World : Type 0} (Kept : Keeping World) (Waits : Waiting World) (m : Module) (section : CmajorSection) (source : Source World) (size frame : ℕ) (inputs : Inputs) (others later coming : List Inputs) (block : Block) (world : World) (instance : Instance) →
    BlocksKeep Kept Waits m section size source → AreInputs source.ends inputs → source.player.told world ≡ instance.trace → Counts block inputs others → Waits world instance.current (inputs ∷ others) block.next block.told →
    coming ≡ others ++ later → ((steps : ℕ) → (module_player m section).perform steps (Frame frame inputs) coming instance ≡ stretched m section steps frame block instance) →
    KeepsPart source.cost (Related Kept Waits source.player.told coming) source.player (module_player m section) (Frame frame inputs) coming world instance
stretch_keeps Kept Waits m section source size frame inputs others later coming block world instance keeps fit same counts waits comes is =
    let owed = λ (n : ℕ). from_trace (funcs_of m) section.slots frame source.cost n block.next source.player.told (StretchMarks Kept Waits source.player.told (funcs_of m) section.slots source.cost frame instance.current others block.told)
    (source.player.perform n (Frame frame inputs) coming world) same (keeps.stretches n frame inputs others coming world instance.current block.next block.told fit waits) in
    record {
      forth = λ n.
          subst (λ c. Follows (Related Kept Waits source.player.told c) source.player.told trace_of (source.player.perform n (Frame frame inputs) coming world) ((module_player m section).perform (source.cost * (n + 1)) (Frame frame inputs) coming instance)) (sym comes)
          (subst (λ other. Follows (Related Kept Waits source.player.told (others ++ later)) source.player.told trace_of (source.player.perform n (Frame frame inputs) coming world) other) (sym (is (source.cost * (n + 1))))
          (stretch_forth Kept Waits source.player.told m section source.cost frame n inputs others later block instance counts (source.player.perform n (Frame frame inputs) coming world) (owed n)));
      back = λ steps.
          subst (λ c. Follows (λ y x. Related Kept Waits source.player.told c x y) trace_of source.player.told ((module_player m section).perform steps (Frame frame inputs) coming instance) (source.player.perform steps (Frame frame inputs) coming world)) (sym comes)
          (subst (λ other. Follows (λ y x. Related Kept Waits source.player.told (others ++ later) x y) trace_of source.player.told other (source.player.perform steps (Frame frame inputs) coming world)) (sym (is steps))
          (stretch_back Kept Waits source.player.told m section source.cost frame steps inputs others later block instance counts (source.player.perform steps (Frame frame inputs) coming world) (owed steps)));
    }

-- a part of a fitting list
fit_first : (P : Inputs → Type 0) (count : ℕ) (all : List Inputs) → AllByRecursion P all → AllByRecursion P (take count all)
fit_first P zero all fit = tt
fit_first P (suc count) [] fit = tt
fit_first P (suc count) (x ∷ all) fit = (fit.0, fit_first P count all fit.1)

few_first : (count : ℕ) (all : List Inputs) → length (take count all) ≤ count
few_first zero all = omega arith
few_first (suc count) [] = omega arith
few_first (suc count) (x ∷ all) = omega (arith, few_first count all)

-- a frame where no call waits, and where one does
pub frame_keeps : {World : Type 0} (Kept : Keeping World) (Waits : Waiting World) (m : Module) (section : CmajorSection) (source : Source World) (size : ℕ) → section.interface ≡ Blocks (suc size) →
    BlocksKeep Kept Waits m section (suc size) source → (frame : ℕ) (inputs : Inputs) (coming : List Inputs) (world : World) (instance : Instance) →
    AreInputs source.ends inputs → AllByRecursion (AreInputs source.ends) coming → Related Kept Waits source.player.told (inputs ∷ coming) world instance →
    KeepsPart source.cost (Related Kept Waits source.player.told coming) source.player (module_player m section) (Frame frame inputs) coming world instance
frame_keeps Kept Waits m section source size interface keeps frame inputs coming world instance fit all (inl free) =
    let others = take size coming in
    let block = new_block (machine_of m section 0) (suc size) (inputs ∷ coming) instance in
    let few : length (inputs ∷ others) ≤ suc size = omega (arith, few_first size coming) in
    stretch_keeps Kept Waits m section source (suc size) frame inputs others (drop size coming) coming block world instance keeps fit free.tells (sym (zero-add (length (inputs ∷ others))))
    (keeps.begins inputs others world instance.current instance.globals instance.memory (fit, fit_first (AreInputs source.ends) size coming all) few free.kept)
    (sym (take-append-drop size coming))
    (λ steps.
    ap (λ (i : Interface). frame_part i (machine_of m section steps) frame inputs coming instance) interface
    ∙ ap (λ (o : Option Block). stretched m section steps frame (unwrap_or o block) instance) free.block)
frame_keeps Kept Waits m section source size interface keeps frame inputs coming world instance fit all (inr waiting) =
    let same_inputs : waiting.inputs ≡ inputs = cc (waiting.comes) in
    let same_coming : coming ≡ waiting.others ++ waiting.later = cc (waiting.comes) in
    stretch_keeps Kept Waits m section source (suc size) frame inputs waiting.others waiting.later coming waiting.block world instance keeps fit waiting.tells
    waiting.counts
    (subst (λ x. Waits world instance.current (x ∷ waiting.others) waiting.block.next waiting.block.told) same_inputs waiting.waits)
    same_coming
    (λ steps.
    ap (λ (i : Interface). frame_part i (machine_of m section steps) frame inputs coming instance) interface
    ∙ ap (λ (o : Option Block). stretched m section steps frame (unwrap_or o (new_block (machine_of m section 0) (suc size) (inputs ∷ coming) instance)) instance) waiting.is)
