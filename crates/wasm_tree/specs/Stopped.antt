-- Runs that are stopped after their last frame, kept as a snapshot, and resumed over another script: docs/MODULE.md,
-- "Stopped runs".
use Rattle.std.specs.Prelude.{ℕ, ◌≡◌, ◌+◌, ◌*◌, List, [], ◌∷◌, ◌++◌, length, take, drop, map, replicate, if◌then◌else◌, None, ℤ, pos}
use Rattle.std.specs.Int.{w32, w64, cast_signed, cast_unsigned}
use Rattle.cm_base.specs.declared.host.HostEnd.{HostEnd}
use Rattle.cm_base.specs.declared.play.Item.{Item}
use Rattle.cm_base.specs.declared.play.Item.TheVariants as item
use Rattle.cm_base.specs.declared.play.Saved.{Saved}
use Rattle.cm_base.specs.declared.play.Setting.{Setting}
use Rattle.cm_base.specs.declared.play.Script.{Script}
use Rattle.cm_base.specs.declared.play.Snapshot.{Snapshot}
use Rattle.cm_base.specs.Parts.{Task, given_at, first_of, is_stream_input, frames_from}
use Rattle.cm_base.specs.Players.{Stop, AtEnd, Ended, Outcome, Source, source_run}
use Rattle.cm_base.specs.Scripts.{IsScriptFor, AreSaved}
use Rattle.wasm_tree.specs.declared.module.ValType.{ValType}
use Rattle.wasm_tree.specs.declared.module.ValType.TheVariants.{I32, I64}
use Rattle.wasm_tree.specs.declared.module.GlobalVar.{GlobalVar}
use Rattle.wasm_tree.specs.declared.module.Module.{Module}
use Rattle.wasm_tree.specs.HostRun.{Instance, module_play, module_stops, host_stops}
use Rattle.wasm_tree.specs.Instance.{constant_of}
use Rattle.wasm_tree.specs.Section.{CmajorSection, ends_of}
use Rattle.wasm_tree.specs.Slots.{is_value_input, others_of}

-- ---- two scripts as one

-- the streams of the first for all of its frames, missing values being zero, and then those of the second
abbrev pub joined_streams : List HostEnd → (frames : ℕ) → (first second : List (List ℤ)) → List (List ℤ)
joined_streams [] frames first second = []
joined_streams (end ∷ ends) frames first second =
    (if is_stream_input end then given_at 0 (frames * length end.shape) (first_of first) ++ first_of second else [])
    ∷ joined_streams ends frames (drop 1 first) (drop 1 second)

abbrev pub later_setting : (frames : ℕ) → Setting → Setting
later_setting frames setting = record setting { frame = frames + setting.frame }

-- the second script begins where the first ends
abbrev pub joined_scripts : List HostEnd → (first second : Script) → Script
joined_scripts ends first second =
    record {
      frames = first.frames + second.frames;
      streams = joined_streams ends first.frames first.streams second.streams;
      values = first.values ++ map (later_setting first.frames) second.values;
      events = first.events ++ map (later_setting first.frames) second.events;
    }

abbrev pub later_item : (frames : ℕ) → Item → Item
later_item frames (item.Event frame endpoint value) = item.Event (frames + frame) endpoint value
later_item frames (item.Frame frame values) = item.Frame (frames + frame) values

-- a trace, and then that of a run that begins so many frames later
abbrev pub joined_traces : (frames : ℕ) → (first second : List Item) → List Item
joined_traces frames first second = first ++ map (later_item frames) second

-- ---- snapshots

abbrev pub signed_of : ValType → ℕ → ℤ
signed_of I32 bits = cast_signed w32 bits
signed_of I64 bits = cast_signed w64 bits

abbrev pub bits_of : ValType → ℤ → ℕ
bits_of I32 z = cast_unsigned w32 z
bits_of I64 z = cast_unsigned w64 z

-- the mutable globals, in order
abbrev pub kept_globals : List GlobalVar → List ℕ → List ℤ
kept_globals [] globals = []
kept_globals (var ∷ vars) [] = []
kept_globals (var ∷ vars) (bits ∷ globals) = (if var.mutable then signed_of var.ty bits ∷ [] else []) ++ kept_globals vars globals

abbrev pub first_or_zero : List ℤ → ℤ
first_or_zero [] = pos 0
first_or_zero (z ∷ zs) = z

-- all globals: the mutable ones from the list, the others with their first values
abbrev pub restored_globals : List GlobalVar → List ℤ → List ℕ
restored_globals [] kept = []
restored_globals (var ∷ vars) kept =
    (if var.mutable then bits_of var.ty (first_or_zero kept) else constant_of var.value) ∷ restored_globals vars (if var.mutable then drop 1 kept else kept)

-- the scalars of the value inputs, in declaration order
abbrev pub kept_current : List HostEnd → List (List ℤ) → List ℤ
kept_current [] current = []
kept_current (end ∷ ends) current = (if is_value_input end then first_of current else []) ++ kept_current ends (others_of current)

-- the current values of all endpoints: those of value inputs from the list, the others as they are at the start
abbrev pub restored_current : List HostEnd → List ℤ → List (List ℤ)
restored_current [] kept = []
restored_current (end ∷ ends) kept =
    (if is_value_input end then take (length end.shape) kept else replicate (length end.shape) (pos 0))
    ∷ restored_current ends (if is_value_input end then drop (length end.shape) kept else kept)

abbrev pub snapshot_of : Module → CmajorSection → Instance → Snapshot
snapshot_of m section instance =
    record { memory = instance.memory; globals = kept_globals m.globals instance.globals; current = kept_current (ends_of section) instance.current }

abbrev pub restored_instance : Module → CmajorSection → Snapshot → Instance
restored_instance m section snapshot =
    record {
      globals = restored_globals m.globals snapshot.globals;
      memory = snapshot.memory;
      current = restored_current (ends_of section) snapshot.current;
      block = None;
      trace = [];
    }

-- the snapshot at the end of a run over all frames of the script that ends
pub record IsSnapshotAfter (m : Module) (section : CmajorSection) (saved : List Saved) (script : Script) (steps : ℕ) (snapshot : Snapshot) : Type 0 where
  pub instance : Instance
  pub ends : host_stops m section saved script script.frames steps ≡ AtEnd instance
  pub is : snapshot ≡ snapshot_of m section instance

-- ---- resumed runs

-- no inits and no starting values: the frames alone, from 0
abbrev pub resumed_tasks : CmajorSection → Script → (frames : ℕ) → List Task
resumed_tasks section script frames = frames_from (ends_of section) script 0 frames

abbrev pub resumed_run : Module → CmajorSection → Snapshot → Script → (frames steps : ℕ) → Outcome
resumed_run m section snapshot script frames steps = module_play m section (resumed_tasks section script frames) (restored_instance m section snapshot) steps

-- where it stops, for the snapshot that it leaves
abbrev pub resumed_stops : Module → CmajorSection → Snapshot → Script → (frames steps : ℕ) → Stop Instance
resumed_stops m section snapshot script frames steps = module_stops m section (resumed_tasks section script frames) (restored_instance m section snapshot) steps

-- The run over the first script ends, the one that is resumed from its snapshot over the second ends too, and
-- the outcome is that of a run that ends with both traces joined.
pub record Resumes (m : Module) (section : CmajorSection) (saved : List Saved) (first second : Script) (steps : ℕ) (outcome : Outcome) : Type 0 where
  pub instance : Instance
  pub stopped : host_stops m section saved first first.frames steps ≡ AtEnd instance
  pub resumed : (resumed_run m section (snapshot_of m section instance) second second.frames steps).ending ≡ Ended
  pub is : outcome
      ≡ record { trace = joined_traces first.frames instance.trace (resumed_run m section (snapshot_of m section instance) second second.frames steps).trace; ending = Ended }

-- what `run` does over both scripts joined, the module does when it is stopped between them and resumed
pub record KeepsResumed (cost : ℕ) (run : ℕ → Outcome) (m : Module) (section : CmajorSection) (saved : List Saved) (first second : Script) : Type 0 where
  -- a run of the source that ends is one that the module stops and resumes
  pub forward : (n : ℕ) → (run n).ending ≡ Ended → Resumes m section saved first second (cost * (n + 1)) (run n)
  -- where the module's run and the resumed one end, the source's ends with both traces joined
  pub backward : (steps : ℕ) (instance : Instance) → host_stops m section saved first first.frames steps ≡ AtEnd instance →
      (resumed_run m section (snapshot_of m section instance) second second.frames steps).ending ≡ Ended → Resumes m section saved first second steps (run steps)

-- every two scripts for the endpoints, of any length, and saved parameters in their ranges
abbrev pub KeepsStopped : {World : Type 0} → Source World → Module → CmajorSection → Type 0
KeepsStopped source m section =
    (saved : List Saved) (first second : Script) → AreSaved source.ends saved → IsScriptFor source.ends first → IsScriptFor source.ends second →
    KeepsResumed source.cost (source_run source saved (joined_scripts source.ends first second) (first.frames + second.frames)) m section saved first second
