use Rattle.std.proofs.Common.{map, take}
use Rattle.scope_walk.specs.Meant.{step_as}
use Rattle.path_names.specs.Walking.{IsReady, TakesAll}
use Rattle.path_names.proofs.path_names.follow.Given as goal

abbrev pub invariant-loop-step : goal.invariant-loop-step
invariant-loop-step l = record {
  ready : IsReady l.walk;
  taken : TakesAll l.fn.walk l.walk (map step_as (take l.step-index l.steps));
}
