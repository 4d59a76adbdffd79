-- How often a host gives the budget of a call anew.
use Rattle.std.specs.Prelude.{ℕ}
use Rattle.wasm_runner.specs.declared.host.HostAnswer.{HostAnswer}
use Rattle.wasm_runner.specs.declared.host.HostAnswer.TheVariants as answer

abbrev pub renewals : HostAnswer → ℕ
renewals answer.Go = 0
renewals answer.Stop = 0
renewals answer.Trap = 0
renewals answer.Fresh = 1
