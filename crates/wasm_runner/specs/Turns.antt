-- How the run of a call with its host comes from one activation to another.
use Rattle.std.specs.Prelude.{◌+◌, ◌*◌, ◌<◌, ◌≤◌, ℕ, ℤ, List}
use Rattle.wasm_tree.specs.declared.module.FuncBody.{FuncBody}
use Rattle.wasm_tree.specs.Reduce.{Config, exec}
use Rattle.wasm_sound.specs.Sound.{Scope, IsScope}
use Rattle.wasm_runner.specs.declared.function.Function.{Function}
use Rattle.wasm_runner.specs.declared.host.HostAnswer.{HostAnswer}
use Rattle.wasm_runner.specs.declared.host.Ended.{Ended}
use Rattle.wasm_runner.specs.declared.place.Block.{Block}
use Rattle.wasm_runner.specs.declared.place.Caller.{Caller}
use Rattle.wasm_runner.specs.declared.calls.Activation.{Activation}
use Rattle.wasm_runner.specs.declared.run.Turn.{Turn}
use Rattle.wasm_runner.specs.declared.run.Turn.TheVariants as turn
use Rattle.wasm_runner.specs.Standing.{Stacks}
use Rattle.wasm_runner.specs.Activations.{IsProgram, IsActive, IsCalling, stacks}
use Rattle.wasm_runner.specs.Following.{Follows}

-- what a host's calls may do
abbrev pub Emits : Type 0 → Type 1
Emits Host = Host → ℤ → List ℕ → HostAnswer → Host → Type 0

-- The run comes to this activation, with these reductions left and this host: what follows from there follows from the
-- configuration before.
pub record Proceeds {Host : Type 0} (emits : Emits Host) (scope : Scope) (codes : List FuncBody) (steps : ℕ) (s : Stacks) (now : Activation) (left : ℕ) (after : Host) (c : Config) (first : ℕ) (before : Host) : Type 0 where
  pub next : Config
  pub is : IsActive scope codes s now next
  pub fewer : left ≤ steps
  pub follows : (ended : Ended) (globals memory : List ℕ) (last : Host) →
      Follows emits scope.funcs steps (exec scope.funcs left next) after ended globals memory last →
      Follows emits scope.funcs steps (exec scope.funcs first c) before ended globals memory last

-- how many reductions may still come, at most
abbrev pub ahead : {Host : Type 0} → (renewable : Host → ℕ) → (steps left : ℕ) → Host → ℕ
ahead renewable steps left host = renewable host * (steps + 1) + left

-- it ended so, or it comes to an activation with fewer reductions ahead
abbrev pub Turned : {Host : Type 0} → Emits Host → (renewable : Host → ℕ) → Scope → List FuncBody → (steps : ℕ) → Stacks → (before after : Host) → Config → (left : ℕ) → Turn → Type 0
Turned emits renewable scope codes steps s before after c left (turn.Ends ended) =
    Follows emits scope.funcs steps (exec scope.funcs left c) before ended s.globals s.memory after
Turned emits renewable scope codes steps s before after c left (turn.Goes now rest) =
    Proceeds emits scope codes steps s now rest after c left before × (ahead renewable steps rest after < ahead renewable steps left before)

-- some configuration calls the host
pub record AsksSomewhere (cells memory : List ℕ) (now : Activation) : Type 0 where
  pub scope : Scope
  pub codes : List FuncBody
  pub typed : IsScope scope
  pub blocks : List Block
  pub callers : List Caller
  pub globals : List ℕ
  pub c : Config
  pub is : IsCalling scope codes (stacks cells blocks callers globals memory) now 0 c

-- the module's functions are prepared so, and some configuration runs
pub record RunsSomewhere (codes : List FuncBody) (functions : List Function) (s : Stacks) (now : Activation) : Type 0 where
  pub scope : Scope
  pub program : IsProgram scope codes functions
  pub c : Config
  pub is : IsActive scope codes s now c
