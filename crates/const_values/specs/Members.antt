-- Fields of constant structs.
use Rattle.std.specs.Prelude.{List, is_some}
use Rattle.cm_base.specs.declared.cause.Cause.TheVariants as cause
use Rattle.cm_tree.specs.declared.path.Word.{Word}
use Rattle.cm_types.specs.Meant.{meant_type, meant_value}
use Rattle.cm_meaning.specs.Faults.{Fault, unless}
use Rattle.cm_meaning.specs.Conversions.{Valued}
use Rattle.cm_meaning.specs.TypeOf.{member_type}
use Rattle.const_values.specs.declared.members.Lent.{Lent}

-- the value that is lent
abbrev pub lent_valued : Lent → Valued
lent_valued l = record { ty = meant_type l.ty.now; value = meant_value l.value.now }

-- a struct has the field
abbrev pub member_faults : Word → Valued → List Fault
member_faults w a = unless (is_some (member_type w.text a.ty)) cause.NoMember w.place
