-- A call of a module with its host: Core Specification 1.0, 4.5.5. Where the run of a call asks the host, the host's
-- answer says how it goes on.
use Rattle.std.specs.Prelude.{ℕ, ℤ, List}
use Rattle.wasm_tree.specs.Reduce.{Func, Config, Run, Done, Trapped, Out, Emits, exec}
use Rattle.wasm_runner.specs.declared.host.HostAnswer.{HostAnswer}
use Rattle.wasm_runner.specs.declared.host.HostAnswer.TheVariants as answer
use Rattle.wasm_runner.specs.declared.host.Ended.{Ended}
use Rattle.wasm_runner.specs.declared.host.Ended.TheVariants as ended

-- The run with this host ends so, and with that host. Where it is done it leaves these globals and this memory. With
-- `Fresh` the call goes on with its whole budget of `steps` reductions from where the host was called.
pub data Follows {Host : Type 0} (emits : Host → ℤ → List ℕ → HostAnswer → Host → Type 0) (funcs : List Func) (steps : ℕ) :
    Run → Host → Ended → (globals memory : List ℕ) → Host → Type 0 where
  Returns : (globals memory : List ℕ) (host : Host) →
      Follows emits funcs steps (Done globals memory) host ended.Done globals memory host
  Fails : (globals memory : List ℕ) (host : Host) →
      Follows emits funcs steps Trapped host ended.Trapped globals memory host
  Lacks : (globals memory : List ℕ) (host : Host) →
      Follows emits funcs steps Out host ended.StepsSpent globals memory host
  Goes : (number : ℤ) (now : List ℕ) (next : Config) (rest : Run) (host after last : Host) (end : Ended) (globals memory : List ℕ) →
      emits host number now answer.Go after → Follows emits funcs steps rest after end globals memory last →
      Follows emits funcs steps (Emits number now next rest) host end globals memory last
  Renews : (number : ℤ) (now : List ℕ) (next : Config) (rest : Run) (host after last : Host) (end : Ended) (globals memory : List ℕ) →
      emits host number now answer.Fresh after → Follows emits funcs steps (exec funcs steps next) after end globals memory last →
      Follows emits funcs steps (Emits number now next rest) host end globals memory last
  Stops : (number : ℤ) (now : List ℕ) (next : Config) (rest : Run) (host after : Host) (globals memory : List ℕ) →
      emits host number now answer.Stop after →
      Follows emits funcs steps (Emits number now next rest) host ended.Stopped globals memory after
  Refuses : (number : ℤ) (now : List ℕ) (next : Config) (rest : Run) (host after : Host) (globals memory : List ℕ) →
      emits host number now answer.Trap after →
      Follows emits funcs steps (Emits number now next rest) host ended.Trapped globals memory after
