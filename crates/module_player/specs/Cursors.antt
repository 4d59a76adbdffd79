-- Where a run is in its script: docs/MODULE.md, "How a run goes".
use Rattle.std.specs.Prelude.{ℕ, ◌≡◌, ◌<◌, ◌≤◌, ◌+◌, ◌-◌, ◌++◌, List, [], ◌∷◌, length, take, drop, slice_set, ℤ}
use Rattle.cm_base.specs.declared.play.Script.{Script}
use Rattle.cm_base.specs.declared.play.Setting.{Setting}
use Rattle.cm_base.specs.declared.host.HostEnd.{HostEnd}
use Rattle.cm_base.specs.Parts.{Task, settings_at, frames_from, following}
use Rattle.cm_base.specs.Scripts.{AreFrom}
use Rattle.module_player.specs.declared.run.Cursor.{Cursor}
use Rattle.module_player.specs.Given.{inputs_from}

-- what is set or sent from this frame on is what stands from this place on
pub record IsPlace (settings : List Setting) (frame place : ℕ) : Type 0 where
  pub within : place ≤ length settings
  pub rise : AreFrom frame (drop place settings)
  pub same : (later : ℕ) → frame ≤ later → settings_at later settings ≡ settings_at later (drop place settings)

-- the current values after these are set, one after another
abbrev pub after_settings : List Setting → List (List ℤ) → List (List ℤ)
after_settings [] current = current
after_settings (setting ∷ settings) current = after_settings settings (slice_set current setting.endpoint setting.value)

-- before a frame of the script
pub record IsCursor (script : Script) (cursor : Cursor) : Type 0 where
  pub frame : cursor.frame ≤ script.frames
  pub values : IsPlace script.values cursor.frame cursor.value
  pub events : IsPlace script.events cursor.frame cursor.event

-- the tasks of the frames that are left
abbrev pub tasks_left : List HostEnd → Script → (frame : ℕ) → List Task
tasks_left ends script frame = frames_from ends script frame (script.frames - frame)

-- the frame of the first of these, or else this one
abbrev pub next_of : ℕ → List Setting → ℕ
next_of frames [] = frames
next_of frames (setting ∷ settings) = setting.frame

-- So many frames from one on go on with nothing set or sent between, in a block of at most so many frames, and no more do:
-- a call of `frames` is for these.
pub record IsBlock (ends : List HostEnd) (script : Script) (block frame count : ℕ) : Type 0 where
  pub some : 0 < count
  pub few : count ≤ block
  pub within : frame + count ≤ script.frames
  pub full : take block (inputs_from ends script.streams frame count ++ following (tasks_left ends script (frame + count))) ≡ inputs_from ends script.streams frame count
