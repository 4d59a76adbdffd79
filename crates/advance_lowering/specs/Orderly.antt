-- What holds of the bodies of all lawful units: docs/LANGUAGE.md, "Statements".
use Rattle.std.specs.Prelude.{◌≡◌, true, List}
use Rattle.cm_core.specs.declared.core_type.StructType.{StructType}
use Rattle.cm_core.specs.declared.unit.Unit.{Unit as CoreUnit}
use Rattle.cm_core.specs.Code.{body_of}
use Rattle.cm_core.specs.Lawful.{IsUnit}
use Rattle.advance_lowering.specs.Blocks.{is_orderly}

-- in each lawful unit the declarations of main are of locals, and the parts of its `for`s only hand on
abbrev pub LawfulMainsAreOrderly : Type 0
LawfulMainsAreOrderly = (structs : List StructType) (unit : CoreUnit) → IsUnit structs unit → is_orderly (body_of unit.main) ≡ true
