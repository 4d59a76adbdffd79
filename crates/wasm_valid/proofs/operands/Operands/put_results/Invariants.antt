use Rattle.std.proofs.Common.{◌≡◌, ◌<◌, length, take}
use Rattle.std.specs.Prelude.{reverse}
use Rattle.wasm_valid.specs.Frames.{with_all}
use Rattle.wasm_valid.proofs.operands.Operands.put_results.Given as goal

abbrev pub invariant-loop-ty : goal.invariant-loop-ty
invariant-loop-ty l = record {
  open_ : 0 < length l.self;
  same : l.self ≡ with_all (reverse (take l.ty-index l.results)) l.fn.self;
}
