-- How a patch runs within a bound on its turns, and what is due for `render`: docs/COMMANDS.md, "render" and "The order of work".
use Rattle.std.specs.Prelude.{ℕ, ◌≡◌, ◌+◌, ◌*◌, ◌⊎◌, List, Option, Some, IfSome}
use Rattle.cm_base.specs.declared.play.Saved.{Saved}
use Rattle.cm_base.specs.declared.play.Script.{Script}
use Rattle.cm_base.specs.Parts.{Part, at_of, part_at, tasks_of}
use Rattle.cm_base.specs.Players.{Ended, Out, Trapped, Outcome, PartSpent, source_run, source_part}
use Rattle.cm_base.specs.Scripts.{AreSaved}
use Rattle.cm_io.specs.Files.{Files}
use Rattle.cm_meaning.specs.Linked.{Linked}
use Rattle.cm_meaning.specs.PatchRun.{host_ends, patch_source}
use Rattle.item_lines.specs.Telling.{Outside}
use Rattle.patch_sizes.specs.PatchSizes.{cost}
use Rattle.run_lines.specs.declared.ending.RunEnd.{RunEnd}
use Rattle.run_lines.specs.Runs.{RunTells, named}
use Rattle.wasm_tree.specs.Keeps.{IsFront}
use Rattle.commands.specs.declared.status.Status.{Status}
use Rattle.commands.specs.declared.status.Status.TheVariants as status
use Rattle.commands.specs.Patch.{MeanPatch, PatchOf, NoPatch}
use Rattle.commands.specs.Playing.{HasScript, NoScript}
use Rattle.commands.specs.Restoring.{NoSaved, SavedFor}
use Rattle.commands.specs.Statuses.{status_of_patch_run}

-- ---- the run of a patch

-- the run of a patch over a script with so many turns for each part, from saved parameters on
abbrev pub patch_run : Linked → List Saved → Script → (turns : ℕ) → Outcome
patch_run patch saved script turns = source_run (patch_source patch (cost patch)) saved script script.frames turns

-- how many reductions a part is given where it has so many turns; no part takes more turns than reductions
abbrev pub reductions_for : Linked → (turns : ℕ) → ℕ
reductions_for patch turns = cost patch * (turns + 1)

-- the patch needs more turns than these in this part, where it comes to it with so many turns as there are reductions
pub record LacksTurns (patch : Linked) (saved : List Saved) (script : Script) (turns : ℕ) (part : Part) : Type 0 where
  pub number : ℕ
  pub is_part : part_at number (tasks_of (host_ends patch) saved script script.frames) ≡ Some part
  pub spent : source_part (patch_source patch (cost patch)) saved script script.frames (reductions_for patch turns) turns number ≡ PartSpent

-- A run of the patch that has so many turns in each part, and may have more, as many as there are reductions.
pub record RunsWithin (patch : Linked) (saved : List Saved) (script : Script) (turns : ℕ) (run : Outcome) : Type 0 where
  -- with so many turns the patch's run ends, and this is it
  pub enough : (patch_run patch saved script turns).ending ≡ Ended → run ≡ patch_run patch saved script turns
  -- this run ends, and is the patch's
  pub ended : run.ending ≡ Ended → patch_run patch saved script (reductions_for patch turns) ≡ run
  -- it tells at least what the patch tells with so many turns, and nothing that it doesn't tell with more
  pub reached : IsFront (patch_run patch saved script turns).trace run.trace
  pub told : IsFront run.trace (patch_run patch saved script (reductions_for patch turns)).trace
  -- where it is out of turns, the patch needs more
  pub lacks : (part : Part) → run.ending ≡ Out part → LacksTurns patch saved script turns part
  pub never_traps : (part : Part) → run.ending ≡ Trapped part → ⊥

-- ---- what is due

-- What is due for the run. Where the patch needs more turns than it is given, it may have as many as there are reductions.
pub data IsRunDue (patch : Linked) (saved : List Saved) (script : Script) (turns : ℕ) : Status → Type 0 where
  RunEnds : (patch_run patch saved script (reductions_for patch turns)).ending ≡ Ended → IsRunDue patch saved script turns status.Ok
  OutOfTurns : (part : Part) → ((patch_run patch saved script turns).ending ≡ Ended → ⊥) → LacksTurns patch saved script turns part →
      IsRunDue patch saved script turns (status.TurnsSpent (named (at_of part)))

-- what is due for the script, where there are a patch and the parameters to begin with: it isn't of its form for the patch's endpoints, or the run decides
abbrev pub IsScriptDue : Files → (input : List ℕ) → (turns : ℕ) → Linked → List Saved → Status → Type 0
IsScriptDue files input turns patch saved due =
    NoScript files input (host_ends patch) due ⊎ ((script : Script) × HasScript files input (host_ends patch) script × IsRunDue patch saved script turns due)

-- what is due for the state, where there is a patch: it has no parameters, or the script decides
abbrev pub IsStateDue : Files → (input : List ℕ) → (turns : ℕ) → (state : Option (List ℕ)) → Linked → Status → Type 0
IsStateDue files input turns state patch due =
    NoSaved files state due ⊎ ((saved : List Saved) × SavedFor state (Some files) (host_ends patch) saved × IsScriptDue files input turns patch saved due)

-- what is due for `render`
abbrev pub IsRenderDue : Files → (manifest input : List ℕ) → (turns : ℕ) → (state : Option (List ℕ)) → Status → Type 0
IsRenderDue files manifest input turns state due =
    NoPatch files manifest due ⊎ ((patch : Linked) × PatchOf files manifest patch × IsStateDue files input turns state patch due)

-- ---- what is told

-- a run of a patch is told, and the answer is that of its end
pub record PatchIsTold (patch : Linked) (saved : List Saved) (script : Script) (turns : ℕ) (before after : Outside) (answer : Status) : Type 0 where
  pub run : Outcome
  pub within : RunsWithin patch saved script turns run
  pub end : RunEnd
  pub answered : answer ≡ status_of_patch_run end
  pub tells : RunTells (host_ends patch) run before after end

-- The run of a patch over a script is told, from saved parameters in their ranges on, the patch being what some texts mean. Where files are told,
-- they held the patch, the script and the state that is named.
pub record RenderRuns (held : Option Files) (manifest input : List ℕ) (turns : ℕ) (state : Option (List ℕ)) (before after : Outside) (answer : Status) : Type 0 where
  pub texts : List (List ℕ)
  pub patch : Linked
  pub means : MeanPatch texts patch
  pub saved : List Saved
  pub in_range : AreSaved (host_ends patch) saved
  pub script : Script
  pub has_patch : IfSome held (λ files. PatchOf files manifest patch)
  pub has_saved : SavedFor state held (host_ends patch) saved
  pub has_script : IfSome held (λ files. HasScript files input (host_ends patch) script)
  pub told : PatchIsTold patch saved script turns before after answer
