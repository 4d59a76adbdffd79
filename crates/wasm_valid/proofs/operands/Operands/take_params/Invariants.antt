use Rattle.std.proofs.Common.{◌≡◌, ◌<◌, ◌-◌, length, take}
use Rattle.std.specs.Prelude.{reverse}
use Rattle.wasm_valid.specs.Checking.{take_all}
use Rattle.wasm_valid.specs.Frames.{changed}
use Rattle.wasm_valid.proofs.operands.Operands.take_params.Given as goal

abbrev pub invariant-loop-taken : goal.invariant-loop-taken
invariant-loop-taken l = record {
  open_ : 0 < length l.self;
  same : changed (take_all (reverse (take (length l.params - l.taken) l.params))) l.self ≡ changed (take_all (reverse l.params)) l.fn.self;
}
