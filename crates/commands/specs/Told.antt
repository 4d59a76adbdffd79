-- What commands tell, by their answers: docs/COMMANDS.md, "Lines of a run" and "Listeners".
use Rattle.std.specs.Prelude.{◌≡◌, ◌⊎◌, Option, Some, None}
use Rattle.cm_io.specs.Files.{Files}
use Rattle.item_lines.specs.Telling.{Outside}
use Rattle.commands.specs.declared.status.Status.{Status}
use Rattle.commands.specs.Playing.{IsBefore, PlayRuns}
use Rattle.commands.specs.Rendering.{RenderRuns}
use Rattle.commands.specs.Resuming.{ResumeRuns}
use Rattle.commands.specs.Words.{Command, Compile, Render, Play, Resume}

-- what a command puts to the output and has the listeners hear, by its answer and by what the folder held
abbrev pub TellsFor : Command → Option Files → (before after : Outside) → Status → Type 0
TellsFor (Compile manifest out) held before after answer = after ≡ before
TellsFor (Render manifest input turns state) held before after answer = (IsBefore answer × (after ≡ before)) ⊎ RenderRuns held manifest input turns state before after answer
TellsFor (Play wasm input steps) held before after answer = (IsBefore answer × (after ≡ before)) ⊎ PlayRuns held wasm input steps before after answer
TellsFor (Resume state input steps new) held before after answer = (IsBefore answer × (after ≡ before)) ⊎ ResumeRuns held state input steps new before after answer

-- words of no command tell nothing
abbrev pub TellsWords : Option Command → Option Files → (before after : Outside) → Status → Type 0
TellsWords None held before after answer = after ≡ before
TellsWords (Some command) held before after answer = TellsFor command held before after answer
