-- What a phase of the compiler answers: a value, a refusal, or want of memory.
use Rattle.std.specs.Prelude.{[], Result, Ok, Err}
use Rattle.cm_base.specs.declared.cause.Cause.{Cause}
use Rattle.cm_base.specs.declared.failure.Fail.{Fail}
use Rattle.cm_base.specs.declared.failure.Fail.TheVariants as fail
use Rattle.cm_base.specs.declared.failure.Refused.{Refused}
use Rattle.cm_base.specs.declared.place.Place.{Place}

-- a refusal with this cause at this place, without a cycle
abbrev pub refusal : Cause → Place → Refused
refusal cause place = record { cause = cause; place = place; cycle = [] }

-- a fact for a refusal
abbrev pub IfRefused : {X : Type 0} → Result X Fail → (Refused → Type 0) → Type 0
IfRefused (Ok x) P = Unit {0}
IfRefused (Err (fail.Refused refused)) P = P refused
IfRefused (Err fail.NoMemory) P = Unit {0}

-- a value and a fact for it, or want of memory
abbrev pub IsOkUnlessMemory : {X : Type 0} → Result X Fail → (X → Type 0) → Type 0
IsOkUnlessMemory (Ok x) P = P x
IsOkUnlessMemory (Err (fail.Refused refused)) P = ⊥
IsOkUnlessMemory (Err fail.NoMemory) P = Unit {0}
