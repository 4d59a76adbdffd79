-- How the run of a module is told, line by line: docs/COMMANDS.md, "Lines of a run".
use Rattle.std.specs.Prelude.{◌≡◌, ◌++◌, List, [], ◌∷◌, true, false, Result, Ok, Err}
use Rattle.cm_base.specs.declared.host.HostEnd.{HostEnd}
use Rattle.cm_base.specs.declared.play.Item.{Item}
use Rattle.cm_base.specs.declared.play.Script.{Script}
use Rattle.cm_base.specs.Parts.{At as Place, InInit, InFrame, at_of, frames_from}
use Rattle.cm_base.specs.Players.{Ending, Ended, Out, Trapped, Outcome, Stop, AtEnd, outcome_of}
use Rattle.item_lines.specs.declared.telling.Told.{Told}
use Rattle.item_lines.specs.declared.telling.Told.TheVariants as told
use Rattle.item_lines.specs.Telling.{Outside, Tells, AreTold, is_heard}
use Rattle.module_player.specs.declared.came.At.{At}
use Rattle.module_player.specs.declared.came.At.TheVariants as at
use Rattle.module_player.specs.declared.came.Came.{Came}
use Rattle.module_player.specs.declared.came.Came.TheVariants as came
use Rattle.module_player.specs.Playing.{Playing, goes, instance_of}
use Rattle.wasm_tree.specs.HostRun.{Instance}
use Rattle.wasm_tree.specs.Section.{ends_of}
use Rattle.wasm_valid.specs.Checked.{Checked}
use Rattle.run_lines.specs.declared.ending.RunEnd.{RunEnd}
use Rattle.run_lines.specs.declared.ending.RunEnd.TheVariants as run

-- the name of a part of a run
abbrev pub named : Place → At
named InInit = at.Init
named (InFrame frame) = at.Frame frame

-- the end of a run that ends so by its definition
abbrev pub end_of : Ending → RunEnd
end_of Ended = run.Ended
end_of (Out part) = run.StepsSpent (named (at_of part))
end_of (Trapped part) = run.Trapped (named (at_of part))

-- the end of a run at an item of which this became; one that was heard doesn't end it
abbrev pub end_at : Told → RunEnd
end_at told.Heard = run.Ended
end_at told.PutFailed = run.PutFailed
end_at told.PutLacksMemory = run.NoMemory
end_at told.LineLacksMemory = run.NoMemory
end_at (told.ListenerFailed number) = run.ListenerFailed number
end_at (told.ListenerLacksMemory number) = run.NoMemory

-- the end of a run that came out so, where this became of its last item
abbrev pub end_by : Came → Told → RunEnd
end_by came.Ended last = run.Ended
end_by (came.StepsSpent at) last = run.StepsSpent at
end_by (came.Trapped at) last = run.Trapped at
end_by came.Stopped last = end_at last

-- What stands with the end of a run that is to have this outcome by its definition.
pub data RunTells (ends : List HostEnd) (due : Outcome) (before after : Outside) (end : RunEnd) : Type 0 where
  -- its whole trace was told, and it ended as it is to
  Whole : end ≡ end_of due.ending → AreTold ends due.trace before after → RunTells ends due before after end
  -- its trace was told up to an item that wasn't heard
  Cut : (first : List Item) → (item : Item) → (others : List Item) → (between : Outside) → (answer : Told) → due.trace ≡ first ++ (item ∷ others) →
      AreTold ends first before between → Tells ends item between after answer → is_heard answer ≡ false → end ≡ end_at answer → RunTells ends due before after end
  -- without memory before its first call nothing was told
  NotBegun : end ≡ run.NoMemory → after ≡ before → RunTells ends due before after end

-- ---- runs that go on with a player

-- where the run of a script stops that goes on with this player, and begins with nothing told
abbrev pub script_stops : Playing → Script → Stop Instance
script_stops p script = goes p (frames_from (ends_of p.of.section) script 0 script.frames) (instance_of p [])

abbrev pub due_of : Stop Instance → Outcome
due_of stop = outcome_of (λ instance. instance.trace) stop

-- a player of this module that stands where a run came to its end
pub record IsLeft (stop : Stop Instance) (checked : Checked) (p : Playing) : Type 0 where
  pub trace : List Item
  pub ends : stop ≡ AtEnd (instance_of p trace)
  pub of : p.of ≡ checked
  pub live : p.live ≡ true

-- how a run ended that left something at its end, and else how
abbrev pub end_in : {X : Type 0} → Result X RunEnd → RunEnd
end_in (Ok left) = run.Ended
end_in (Err end) = end
