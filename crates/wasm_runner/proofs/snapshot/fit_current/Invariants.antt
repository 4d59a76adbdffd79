use Rattle.std.proofs.Common.{◌↔◌, drop}
use Rattle.cm_base.specs.Scripts.{HasShape}
use Rattle.wasm_runner.specs.Snapshots.{kept_kinds}
use Rattle.wasm_runner.proofs.snapshot.fit_current.Given as goal

abbrev pub invariant-loop-end : goal.invariant-loop-end
invariant-loop-end l = HasShape (kept_kinds l.ends) l.current ↔ HasShape (kept_kinds (drop l.end-index l.ends)) l.rest
