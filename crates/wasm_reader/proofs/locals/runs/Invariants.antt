use Rattle.std.proofs.Common.{◌≡◌, ◌-◌, ◌≤◌}
use Rattle.wasm_tree.specs.Spelled.{most_locals}
use Rattle.wasm_reader.specs.Reading.{runs_from}
use Rattle.wasm_reader.proofs.Steps.{with_front}
use Rattle.wasm_reader.proofs.locals.runs.Given as goal

abbrev pub invariant-loop : goal.invariant-loop
invariant-loop l = record {
  read : with_front l.runs (runs_from (l.count - l.counter) l.before l.cursor) ≡ runs_from l.count 0 l.fn.cursor;
  few : l.before ≤ most_locals;
}
