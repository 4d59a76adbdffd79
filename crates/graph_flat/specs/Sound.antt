-- Written connections without a fault.
use Rattle.cm_base.specs.declared.cause.Cause.{Cause}
use Rattle.cm_base.specs.declared.place.Place.{Place}
use Rattle.cm_core.specs.declared.program.Program.{Program}
use Rattle.cm_core.specs.declared.link.Link.{Link}
use Rattle.cm_core.specs.GraphFaults.{LinkFault}

abbrev pub IsSoundLink : Program → Link → Type 0
IsSoundLink p l = (cause : Cause) (place : Place) → ¬ LinkFault p l cause place
