-- The module that passes its input through keeps the patch that does so, call by call.
use Rattle.std.proofs.Common.{◌≡◌, ◌≢◌, false, ℕ, zero, suc, ◌+◌, ◌*◌, ◌≤◌, List, [], ◌∷◌, ◌++◌, length, refl, sym, ◌∙◌, ap, subst, ℤ, arith, inr, inl, lit≤, append-nil}
use Rattle.std.specs.Prelude.{FitsSigned, codes, replicate}
use Rattle.std.specs.Int.{w32}
use Rattle.std.proofs.lemmas.List.{length-replicate}
use Rattle.cm_base.specs.declared.host.HostEnd.{HostEnd}
use Rattle.cm_base.specs.declared.host.Flow.TheVariants.{Input, Output}
use Rattle.cm_base.specs.declared.host.Kind.{Kind}
use Rattle.cm_base.specs.declared.host.Kind.TheVariants as kinds
use Rattle.cm_base.specs.declared.play.Item.{Item}
use Rattle.cm_base.specs.declared.play.Item.TheVariants as item
use Rattle.cm_base.specs.HostEnds.{IsLawful}
use Rattle.cm_base.specs.Parts.{Inputs, Frame}
use Rattle.cm_base.specs.Players.{Left, Goes, Spent, Source}
use Rattle.cm_base.specs.Tasks.{IsTaken}
use Rattle.cm_tree.specs.declared.file.File.{File}
use Rattle.cm_meaning.specs.Calls.{depth_of}
use Rattle.cm_meaning.specs.Linked.{Linked}
use Rattle.cm_meaning.specs.Scopes.{param_names, unit_names}
use Rattle.cm_meaning.specs.Stores.{Store}
use Rattle.cm_meaning.specs.TypeOf.{Knowledge}
use Rattle.cm_meaning.specs.Types.{is_place}
use Rattle.cm_meaning.specs.World.{World, Sources, Todo}
use Rattle.cm_meaning.specs.PatchRun.{perform, patch_source}
use Rattle.patch_sizes.specs.PatchSizes.{cost}
use Rattle.through_meaning.specs.Parts.{Parts, host_stream}
use Rattle.through_meaning.proofs.Formed.{Worked}
use Rattle.through_meaning.proofs.Sized.{cost_is}
use Rattle.through_meaning.proofs.Steps.{linked_of, world_with, frame_inputs, next_rest, next_store, source_of, source_is}
use Rattle.wasm_tree.specs.HostRun.{frame_told, zeros_of}
use Rattle.wasm_tree.specs.Instance.{call_of, funcs_of, first_globals, first_memory}
use Rattle.wasm_tree.specs.Keeps.{KeepsRuns}
use Rattle.wasm_tree.specs.Reduce.{Nil, at, pieces, act}
use Rattle.wasm_tree.specs.Section.{ends_of}
use Rattle.wasm_tree.specs.Slots.{write_inputs}
use Rattle.wasm_tree.specs.Stopped.{KeepsStopped, kept_current, restored_current}
use Rattle.wasm_steps.proofs.Compose.{stay}
use Rattle.wasm_runs.specs.Calling.{CallKeeps, CallReturns, InitKeeps, SinglesKeep, OwesSingles, CanResume}
use Rattle.wasm_runs.proofs.Singles.{singles_keep, singles_stopped}
use Rattle.module_build.specs.Through.{through_module, through_section, through_slots}
use Rattle.module_build.proofs.PatchGrows.{patch_grows}
use Rattle.module_build.proofs.Source.{IsReady, inputs_form, source_goes, source_spent}
use Rattle.module_build.proofs.Target.{Kept, no_current, eight, frame_returns}

-- what `Keeps` says of this module besides that it is valid
pub record Keeping (described input output : List ℕ) (source : Source World) : Type 0 where
  pub endpoints : ends_of (through_section input output) ≡ source.ends
  pub delay : (through_section input output).latency ≡ source.latency
  pub runs : KeepsRuns source (through_module described) (through_section input output)
  pub stopped : KeepsStopped source (through_module described) (through_section input output)

-- ---- one frame

-- a call of `frame` against what the frame of the patch leaves
abbrev Frames : List File → Parts → List ℕ → List ℕ → List ℕ → ℕ → ℕ → List ℕ → List ℕ → List (List ℤ) → List Item → Inputs → Left World → Type 0
Frames files parts described input output n frame globals memory current trace inputs left =
    CallKeeps (funcs_of (through_module described)) (through_slots input output) frame 4352 n
    (call_of (through_module described) (codes "frame") [] globals (write_inputs (through_slots input output) inputs current memory))
    trace (λ w. w.trace) (CallReturns (Kept files parts input output) (λ w. w.trace) current (frame_told (through_slots input output) 0 frame)) left

-- with a turn
frame_goes : (files : List File) (parts : Parts) (described input output : List ℕ) (n frame : ℕ) (globals memory : List ℕ) (current : List (List ℤ)) (v : ℤ) (inputs now : List (List ℤ)) (streams : Inputs) (history : List Sources) (trace : List Item) → FitsSigned w32 v → 8 ≤ length memory → globals ≡ [] → current ≡ no_current →
    Frames files parts described input output (suc n) frame globals memory current trace (frame_inputs v)
    (Goes (world_with (next_rest files parts input output) next_store inputs now streams history frame (trace ++ item.Frame frame (v ∷ []) ∷ [])))
frame_goes files parts described input output n frame globals memory current v inputs now streams history trace fits room no_globals still =
    let e = eight memory room in
    let world = world_with (next_rest files parts input output) next_store inputs now streams history frame (trace ++ item.Frame frame (v ∷ []) ∷ []) in
    subst (λ bytes. Frames files parts described input output (suc n) frame globals bytes current trace (frame_inputs v) (Goes world)) (sym e.is)
    (frame_returns files parts described input output v frame (4352 * (suc n + 1)) globals e.b0 e.b1 e.b2 e.b3 e.b4 e.b5 e.b6 e.b7 e.rest current trace world fits (omega arith) refl
    (λ after long_enough. record { rest = next_rest files parts input output; store = next_store; ready = inr (refl, refl); inputs = inputs; streams = streams; history = history; frame = frame; is = refl; room = long_enough; no_globals = no_globals; still = still }))

-- without one
frame_lacks : (files : List File) (parts : Parts) (described input output : List ℕ) (frame : ℕ) (globals memory : List ℕ) (current : List (List ℤ)) (v : ℤ) (stop : World) (trace : List Item) → stop.trace ≡ trace →
    Frames files parts described input output 0 frame globals memory current trace (frame_inputs v) (Spent stop)
frame_lacks files parts described input output frame globals memory current v stop trace same = record {
  count = 0;
  es = [];
  last = _;
  items = [];
  leads = stay _;
  enough = omega arith;
  few = omega arith;
  heard = refl;
  tells = same ∙ sym (append-nil trace);
}

-- with any turns
frame_at : (files : List File) (parts : Parts) (described input output : List ℕ) (k : Knowledge) → input ≢ output → is_place parts.input.name parts.output.name ≡ false → (depth n frame : ℕ) (rest : List Todo) (store : Store) → IsReady files parts input output rest store →
    (v : ℤ) (inputs now : List (List ℤ)) (streams : Inputs) (history : List Sources) (was : ℕ) (trace : List Item) (current : List (List ℤ)) (globals memory : List ℕ) → FitsSigned w32 v → 8 ≤ length memory → globals ≡ [] → current ≡ no_current →
    Frames files parts described input output n frame globals memory current trace (frame_inputs v) (perform (linked_of files parts input output k) depth n (Frame frame (frame_inputs v)) (world_with rest store inputs now streams history was trace))
frame_at files parts described input output k names places depth zero frame rest store ready v inputs now streams history was trace current globals memory fits room no_globals still =
    let spent = source_spent files parts input output k rest store ready depth frame was v inputs now streams history trace in
    subst (Frames files parts described input output 0 frame globals memory current trace (frame_inputs v)) (sym spent.1) (frame_lacks files parts described input output frame globals memory current v spent.0 trace spent.2)
frame_at files parts described input output k names places depth (suc n) frame rest store ready v inputs now streams history was trace current globals memory fits room no_globals still =
    subst (Frames files parts described input output (suc n) frame globals memory current trace (frame_inputs v)) (sym (source_goes files parts input output k names places rest store ready depth n frame was v inputs now streams history trace fits))
    (frame_goes files parts described input output n frame globals memory current v _ now _ _ trace fits room no_globals still)

-- each frame
frames_keep : (files : List File) (parts : Parts) (described input output : List ℕ) (k : Knowledge) → input ≢ output → is_place parts.input.name parts.output.name ≡ false →
    SinglesKeep (Kept files parts input output) (through_module described) (through_section input output) (source_of files parts input output k)
frames_keep files parts described input output k names places n frame inputs coming world current globals memory are kept =
    let l = linked_of files parts input output k in
    let form = inputs_form input output inputs are in
    subst (λ given. Frames files parts described input output n frame globals memory current world.trace given (perform l (depth_of l) n (Frame frame given) world)) (sym form.1)
    (subst (λ w. Frames files parts described input output n frame globals memory current world.trace (frame_inputs form.0) (perform l (depth_of l) n (Frame frame (frame_inputs form.0)) w)) (sym kept.is)
    (frame_at files parts described input output k names places (depth_of l) n frame kept.rest kept.store kept.ready form.0 kept.inputs world.current kept.streams kept.history kept.frame world.trace current globals memory form.2 kept.room kept.no_globals kept.still))

-- ---- the other calls

abbrev ends_of_form : (input output : List ℕ) → List HostEnd
ends_of_form input output = host_stream Input input ∷ host_stream Output output ∷ []

-- neither endpoint takes values or events
no_kind : (input output : List ℕ) (endpoint : ℕ) (value : List ℤ) (kind : Kind) → kind ≢ kinds.Stream → IsTaken kind (ends_of_form input output) endpoint value → ⊥
no_kind input output zero value kind other taken =
    let same : host_stream Input input ≡ taken.end = cc (taken.found) in other (sym taken.takes.right_kind ∙ sym (ap (λ (e : HostEnd). e.kind) same))
no_kind input output (suc zero) value kind other taken =
    let same : host_stream Output output ≡ taken.end = cc (taken.found) in other (sym taken.takes.right_kind ∙ sym (ap (λ (e : HostEnd). e.kind) same))
no_kind input output (suc (suc endpoint)) value kind other taken = cc (taken.found)

zeros_are_long : (n : ℕ) → 8 ≤ n → 8 ≤ length {A = ℕ} (replicate n 0)
zeros_are_long n h = rw (length-replicate {A = ℕ} n 0) h

-- the memory at the start has room for both slots
room : (described : List ℕ) → 8 ≤ length (first_memory (through_module described))
room described = zeros_are_long 65536 (lit≤ tt)

-- `init` is one reduction and changes nothing
init_keeps : (files : List File) (parts : Parts) (described input output : List ℕ) (k : Knowledge) → InitKeeps (Kept files parts input output) (through_module described) (through_section input output) (source_of files parts input output k)
    (zeros_of (ends_of (through_section input output))) (first_globals (through_module described)) (first_memory (through_module described))
unfolding pieces act param_names unit_names
init_keeps files parts described input output k n coming = record {
  count = 0;
  es = [];
  last = at Nil (record { values = []; locals = []; globals = []; memory = first_memory (through_module described) }) [] [];
  items = [];
  leads = stay _;
  few = omega arith;
  heard = refl;
  after = record {
    globals = [];
    memory = first_memory (through_module described);
    is = refl;
    tells = refl;
    kept = record { rest = _; store = _; ready = inl (refl, refl); inputs = _; streams = _; history = []; frame = 0; is = refl; room = room described; no_globals = refl; still = refl };
  };
}

-- ---- whole runs

-- what the module owes in all
calls_owed : (files : List File) (parts : Parts) (described input output : List ℕ) (k : Knowledge) → input ≢ output → is_place parts.input.name parts.output.name ≡ false → IsLawful (ends_of_form input output) →
    OwesSingles (Kept files parts input output) (through_module described) (through_section input output) (source_of files parts input output k)
calls_owed files parts described input output k names places lawful =
    let l = linked_of files parts input output k in
    record {
      interface = refl;
      lawful = lawful;
      endpoints = refl;
      nothing_told = refl;
      init = init_keeps files parts described input output k;
      calls = record {
        grows = patch_grows l (depth_of l);
        sets = λ endpoint value world current globals memory taken kept. absurd (no_kind input output endpoint value kinds.Value (λ e. cc (e)) taken);
        sends = λ n frame endpoint value inputs coming world current globals memory taken are kept. absurd (no_kind input output endpoint value kinds.Event (λ e. cc (e)) taken);
      };
      frames = frames_keep files parts described input output k names places;
    }

-- there are no globals and no value inputs
can_resume : (files : List File) (parts : Parts) (described input output : List ℕ) (k : Knowledge) → CanResume (Kept files parts input output) (through_module described) (through_section input output) (source_of files parts input output k)
can_resume files parts described input output k = record {
  ignores = λ n part coming world. refl;
  globals = λ world current globals memory kept. sym kept.no_globals;
  current = λ world current globals memory kept.
      subst (λ c. restored_current (ends_of_form input output) (kept_current (ends_of_form input output) c) ≡ c) (sym kept.still) refl;
}

-- the patch as a source, with its cost as it is worked out
costs : (files : List File) (parts : Parts) (input output : List ℕ) (k : Knowledge) → input ≢ output → is_place parts.input.name parts.output.name ≡ false →
    patch_source (linked_of files parts input output k) (cost (linked_of files parts input output k)) ≡ source_of files parts input output k
costs files parts input output k names places =
    ap (patch_source (linked_of files parts input output k)) (cost_is files parts input output k names places) ∙ source_is files parts input output k

-- the module keeps it
pub through_keeps : (described input output : List ℕ) (patch : Linked) → Worked input output patch → IsLawful (ends_of_form input output) →
    Keeping described input output (patch_source patch (cost patch))
through_keeps described input output patch w lawful =
    let source = source_of w.files w.parts input output w.known in
    let owed = calls_owed w.files w.parts described input output w.known w.names w.places lawful in
    subst (Keeping described input output) (sym (ap (λ l. patch_source l (cost l)) w.is ∙ costs w.files w.parts input output w.known w.names w.places)) (record {
      endpoints = refl;
      delay = refl;
      runs = singles_keep (Kept w.files w.parts input output) (through_module described) (through_section input output) source owed;
      stopped = singles_stopped (Kept w.files w.parts input output) (through_module described) (through_section input output) source owed (can_resume w.files w.parts described input output w.known);
    })
