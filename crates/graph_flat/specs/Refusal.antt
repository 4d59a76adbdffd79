-- What a refusal says.
use Rattle.std.specs.Prelude.{◌≡◌, []}
use Rattle.cm_base.specs.declared.cause.Cause.{Cause}
use Rattle.cm_base.specs.declared.place.Place.{Place}
use Rattle.cm_base.specs.declared.failure.Fail.{Fail}
use Rattle.cm_base.specs.declared.failure.Fail.TheVariants as fail
use Rattle.cm_core.specs.declared.program.Program.{Program}
use Rattle.cm_core.specs.GraphFaults.{GraphFault}

abbrev pub refusal : Cause → Place → Fail
refusal cause place = fail.Refused (record { cause = cause; place = place; cycle = [] })

-- what stands with a failure: a fault of the graphs, and no cycle; want of memory may come at any time
abbrev pub IsRefusal : Program → Fail → Type 0
IsRefusal p (fail.Refused r) = GraphFault p r.cause r.place × (r.cycle ≡ [])
IsRefusal p fail.NoMemory = Unit {0}
