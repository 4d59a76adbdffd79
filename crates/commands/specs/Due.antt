-- The status that is due by the words and by what the folder holds: docs/COMMANDS.md, "The order of work".
use Rattle.std.specs.Prelude.{ℕ, ◌≡◌, ◌⊎◌, List, MatchOption}
use Rattle.cm_io.specs.Files.{Files}
use Rattle.cm_meaning.specs.Linked.{Linked}
use Rattle.commands.specs.declared.status.Status.{Status}
use Rattle.commands.specs.declared.status.Status.TheVariants as status
use Rattle.commands.specs.Patch.{PatchOf, NoPatch}
use Rattle.commands.specs.Playing.{IsPlayDue}
use Rattle.commands.specs.Rendering.{IsRenderDue}
use Rattle.commands.specs.Resuming.{IsResumeDue}
use Rattle.commands.specs.Words.{Command, Compile, Render, Play, Resume, command_of}

-- of `compile`: there is no patch, or its module can be made; of `render`: there is no patch, no state or no script, or the
-- run decides; of `play` and `resume`: there is no module to run or no script, or the run decides
abbrev pub IsDueFor : Command → Files → Status → Type 0
IsDueFor (Compile manifest out) files due = NoPatch files manifest due ⊎ ((patch : Linked) × PatchOf files manifest patch × (due ≡ status.Ok))
IsDueFor (Render manifest input turns state) files due = IsRenderDue files manifest input turns state due
IsDueFor (Play wasm input steps) files due = IsPlayDue files wasm input steps due
IsDueFor (Resume state input steps new) files due = IsResumeDue files state input steps due

-- the status is due
abbrev pub IsDue : Files → List (List ℕ) → Status → Type 0
IsDue files words due = MatchOption (command_of words) (due ≡ status.Usage) (λ command. IsDueFor command files due)
