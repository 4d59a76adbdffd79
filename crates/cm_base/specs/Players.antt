-- What carries out the tasks of a run, and what comes of it: docs/MODULE.md, "How a run goes". A patch is a
-- player whose budgets are counted in turns, and a module is one whose budgets are counted in reductions. Here a
-- part is a part of a run, and a source is what a module is compiled from.
use Rattle.std.specs.Prelude.{ℕ, zero, suc, List, [], ◌∷◌, ℤ}
use Rattle.cm_base.specs.declared.host.HostEnd.{HostEnd}
use Rattle.cm_base.specs.declared.play.Item.{Item}
use Rattle.cm_base.specs.declared.play.Saved.{Saved}
use Rattle.cm_base.specs.declared.play.Script.{Script}
use Rattle.cm_base.specs.Parts.{Inputs, Part, Task, Set, Begin, following, tasks_of}

-- what a part leaves: a world to go on from, or the world in which the run stops because the part's budget is
-- spent or because it traps
pub data Left (World : Type 0) : Type 0 where
  Goes : (world : World) → Left World
  Spent : (world : World) → Left World
  Traps : (world : World) → Left World

-- What carries out tasks. `perform` takes the budget of the part first, and is also given what the inputs carry
-- in the frames that follow with nothing between; `told` is the trace so far.
pub record Player (World : Type 0) : Type 0 where
  pub set : (endpoint : ℕ) → (value : List ℤ) → World → World
  pub perform : (budget : ℕ) → Part → (following : List Inputs) → World → Left World
  pub told : World → List Item

-- ---- runs

-- where a run stops: after its last task, or in a part whose budget is spent or which traps; and the last world
pub data Stop (World : Type 0) : Type 0 where
  AtEnd : (world : World) → Stop World
  OutIn : (part : Part) → (world : World) → Stop World
  TrappedIn : (part : Part) → (world : World) → Stop World

-- the world in which the run stops, wherever it does
abbrev pub last_world : {World : Type 0} → Stop World → World
last_world (AtEnd world) = world
last_world (OutIn part world) = world
last_world (TrappedIn part world) = world

abbrev pub after_part : {World : Type 0} → Part → Left World → (World → Stop World) → Stop World
after_part part (Goes world) go = go world
after_part part (Spent world) go = OutIn part world
after_part part (Traps world) go = TrappedIn part world

-- the tasks one after another, until a part doesn't end; each part has this budget
unfoldable pub stops : {World : Type 0} → Player World → ℕ → List Task → World → Stop World
stops player budget [] world = AtEnd world
stops player budget (Set endpoint value ∷ tasks) world = stops player budget tasks (player.set endpoint value world)
stops player budget (Begin part ∷ tasks) world = after_part part (player.perform budget part (following tasks) world) (stops player budget tasks)

-- how a run ends: after its last task, or in a part
pub data Ending : Type 0 where
  Ended : Ending
  Out : (part : Part) → Ending
  Trapped : (part : Part) → Ending

-- what a run tells and how it ends
pub record Outcome : Type 0 where
  pub trace : List Item
  pub ending : Ending

-- the same of where a run stops, by what a world tells
abbrev pub outcome_of : {World : Type 0} → (World → List Item) → Stop World → Outcome
outcome_of told (AtEnd world) = record { trace = told world; ending = Ended }
outcome_of told (OutIn part world) = record { trace = told world; ending = Out part }
outcome_of told (TrappedIn part world) = record { trace = told world; ending = Trapped part }

abbrev pub play : {World : Type 0} → Player World → ℕ → List Task → World → Outcome
play player budget tasks world = outcome_of player.told (stops player budget tasks world)

-- ---- one part of a run

-- how a part of a run comes out; it isn't begun where one before it doesn't end
pub data PartEnd : Type 0 where
  NotBegun : PartEnd
  PartEnds : PartEnd
  PartSpent : PartEnd
  PartTraps : PartEnd

abbrev pub part_end : {World : Type 0} → Left World → PartEnd
part_end (Goes world) = PartEnds
part_end (Spent world) = PartSpent
part_end (Traps world) = PartTraps

abbrev pub when_ended : {World : Type 0} → Left World → (World → PartEnd) → PartEnd
when_ended (Goes world) go = go world
when_ended (Spent world) go = NotBegun
when_ended (Traps world) go = NotBegun

-- the part of this number, counted from 0: each part before it has the budget `before`, and it has `own`
unfoldable pub play_part : {World : Type 0} → Player World → (before own number : ℕ) → List Task → World → PartEnd
play_part player before own number [] world = NotBegun
play_part player before own number (Set endpoint value ∷ tasks) world = play_part player before own number tasks (player.set endpoint value world)
play_part player before own zero (Begin part ∷ tasks) world = part_end (player.perform own part (following tasks) world)
play_part player before own (suc number) (Begin part ∷ tasks) world =
    when_ended (player.perform before part (following tasks) world) (play_part player before own number tasks)

-- ---- sources

-- What a module is compiled from, at any level of the compiler: its endpoints in order, its latency, how many
-- reductions a turn is worth, what carries out its runs, and the world with which a run begins.
pub record Source (World : Type 0) : Type 0 where
  pub ends : List HostEnd
  pub latency : ℕ
  pub cost : ℕ
  pub player : Player World
  pub first : World

-- the run of a source over so many frames, with a budget of so many turns for each part
abbrev pub source_run : {World : Type 0} → Source World → List Saved → Script → (frames turns : ℕ) → Outcome
source_run source saved script frames turns = play source.player turns (tasks_of source.ends saved script frames) source.first

-- how the part of this number comes out, by the budgets of the parts before it and its own
abbrev pub source_part : {World : Type 0} → Source World → List Saved → Script → (frames before own number : ℕ) → PartEnd
source_part source saved script frames before own number =
    play_part source.player before own number (tasks_of source.ends saved script frames) source.first
