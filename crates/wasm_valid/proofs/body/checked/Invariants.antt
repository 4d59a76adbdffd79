use Rattle.std.proofs.Common.{◌≡◌, drop}
use Rattle.wasm_valid.specs.Bodies.{context_of}
use Rattle.wasm_valid.specs.Checking.{after_all, at_begin, IsRoomy}
use Rattle.wasm_valid.proofs.PassLemmas.{StaysBelow}
use Rattle.wasm_valid.proofs.body.checked.Given as goal

abbrev pub invariant-loop-instr : goal.invariant-loop-instr
invariant-loop-instr l = record {
  same : after_all (context_of l.scope.«module».now l.scope.ty.now l.scope.runs.now) l.scope.gives l.operands (drop l.instr-index l.code) ≡ after_all (context_of l.scope.«module».now l.scope.ty.now l.scope.runs.now) l.scope.gives (at_begin l.scope.gives) l.code;
  room : IsRoomy l.cells l.marks l.operands;
  below : StaysBelow (context_of l.scope.«module».now l.scope.ty.now l.scope.runs.now) l.scope.gives l.operands (drop l.instr-index l.code) l.cells l.marks l.code (at_begin l.scope.gives);
}
