use Rattle.std.proofs.Common.{◌+◌, ◌-◌, ◌*◌, length}
use Rattle.wasm_runner.proofs.Running.{FromAnywhere}
use Rattle.wasm_runner.proofs.code.run_code.Given as goal

abbrev pub invariant-code : goal.invariant-code
invariant-code l =
    FromAnywhere l.code l.fn.cells l.fn.blocks l.fn.globals l.fn.memory l.from l.steps l.cells l.blocks l.globals l.memory (record { at = l.at; sp = l.sp; lp = l.lp; base = l.from.base; floor = l.from.floor }) l.left

abbrev pub decreases-code : goal.decreases-code
decreases-code l = l.left * (length l.code + 1) + (length l.code - l.at)
