-- A cause at a place, and lists of them.
use Rattle.std.specs.Prelude.{Bool, true, false, List, [], ◌∷◌}
use Rattle.cm_base.specs.declared.cause.Cause.{Cause}
use Rattle.cm_base.specs.declared.place.Place.{Place}

pub record Fault : Type 0 where
  pub cause : Cause
  pub place : Place

abbrev pub fault : Cause → Place → Fault
fault cause place = record { cause = cause; place = place }

abbrev pub one : Cause → Place → List Fault
one cause place = fault cause place ∷ []

-- a fault where this doesn't hold
abbrev pub unless : Bool → Cause → Place → List Fault
unless true cause place = []
unless false cause place = one cause place
