-- A module whose run is played, task by task: docs/MODULE.md, "How a run goes".
use Rattle.std.specs.Prelude.{ℕ, ◌≡◌, ◌++◌, List, [], Bool, true, None, ℤ}
use Rattle.cm_base.specs.declared.play.Item.{Item}
use Rattle.cm_base.specs.declared.play.Saved.{Saved}
use Rattle.cm_base.specs.declared.play.Script.{Script}
use Rattle.cm_base.specs.Parts.{Task}
use Rattle.cm_base.specs.Players.{Stop, AtEnd, stops}
use Rattle.wasm_tree.specs.HostRun.{Instance, host_stops, module_player}
use Rattle.wasm_tree.specs.Section.{Slot}
use Rattle.wasm_tree.specs.Valid.{Valid}
use Rattle.wasm_runner.specs.Running.{Running}
use Rattle.wasm_valid.specs.Checked.{Checked}
use Rattle.module_player.specs.declared.came.Came.{Came}
use Rattle.module_player.specs.Coming.{Comes}

-- the module, the budget of a part, and what an instance holds between two parts
pub record Playing : Type 0 where
  pub of : Checked
  pub steps : ℕ
  pub globals : List ℕ
  pub memory : List ℕ
  pub live : Bool
  pub current : List (List ℤ)

abbrev pub playing : Running → (steps : ℕ) → (current : List (List ℤ)) → Playing
playing r steps current = record { of = r.of; steps = steps; globals = r.globals; memory = r.memory; live = r.live; current = current }

-- what its parts hold belongs to one valid module
pub record IsPlaying (of : Checked) (given outputs : List Slot) : Type 0 where
  pub valid : Valid of.of of.section
  pub writes : given ≡ of.section.slots
  pub reads : outputs ≡ of.section.slots

-- the same module and budget
pub record IsSame (p q : Playing) : Type 0 where
  pub of : q.of ≡ p.of
  pub steps : q.steps ≡ p.steps

-- an instance between two parts, after this trace
abbrev pub instance_of : Playing → List Item → Instance
instance_of p trace = record { globals = p.globals; memory = p.memory; current = p.current; block = None; trace = trace }

-- the module with what an instance holds, ready for its next part
abbrev pub resumed : Checked → (steps : ℕ) → Instance → Playing
resumed checked steps instance =
    record { of = checked; steps = steps; globals = instance.globals; memory = instance.memory; live = true; current = instance.current }

-- where the run stops that goes on with these tasks
abbrev pub goes : Playing → List Task → Instance → Stop Instance
goes p tasks = stops (module_player p.of.of p.of.section) p.steps tasks

-- How the run comes out from these tasks up to those that are left, whatever was told before: a run from `tasks` and `p`
-- that comes through is the run from `left` and `q`.
abbrev pub ComesTo : {Teller : Type 0} → (tells : Teller → Item → Bool → Teller → Type 0) → Playing → (tasks left : List Task) → (before : Teller) → Came → Playing → (after : Teller) → Type 0
ComesTo tells p tasks left before came q after =
    (trace : List Item) → Comes tells trace (goes p left) (goes p tasks (instance_of p trace)) before came q.globals q.memory q.current after

-- the same of some tasks, whatever tasks are left after them
abbrev pub ComesOf : {Teller : Type 0} → (tells : Teller → Item → Bool → Teller → Type 0) → Playing → (tasks : List Task) → (before : Teller) → Came → Playing → (after : Teller) → Type 0
ComesOf tells p tasks before came q after = (left : List Task) → ComesTo tells p (tasks ++ left) left before came q after

-- How the run of a module over a script comes out: where it stops by its definition, and all that it tells is told, or told
-- up to an item at which the teller stops.
pub record IsPlayed {Teller : Type 0} (tells : Teller → Item → Bool → Teller → Type 0) (of : Checked) (saved : List Saved) (script : Script) (steps : ℕ) (before : Teller) (came : Came) (after : Teller) : Type 0 where
  pub globals : List ℕ
  pub memory : List ℕ
  pub current : List (List ℤ)
  pub comes : Comes tells [] AtEnd (host_stops of.of of.section saved script script.frames steps) before came globals memory current after
