use Rattle.std.proofs.Common.{◌≡◌, ◌<◌, length, drop}
use Rattle.wasm_valid.specs.Checking.{take_all}
use Rattle.wasm_valid.specs.Frames.{changed}
use Rattle.wasm_valid.proofs.operands.Operands.take_all.Given as goal

abbrev pub invariant-loop-ty : goal.invariant-loop-ty
invariant-loop-ty l = record {
  open_ : 0 < length l.self;
  same : changed (take_all (drop l.ty-index l.types)) l.self ≡ changed (take_all l.types) l.fn.self;
}
