use Rattle.std.proofs.Common.{List, length, ap, sym, ◌∙◌, subst}
use Rattle.cm_types.specs.declared.cm_type.CmType.{CmType as CodeType}
use Rattle.cm_types.specs.declared.cm_type.FieldType.{FieldType}
use Rattle.cm_types.specs.Lawful.{IsLawfulType, AreLawfulTypes}
use Rattle.cm_types.specs.Meant.{meant_type, meant_fields, meant-Single}
use Rattle.cm_meaning.specs.Types.{Array, Record}
use Rattle.const_values.proofs.Fits.{passed_failure}
use Rattle.const_values.proofs.Constructed.{told_zero, told_single, array_is, struct_is, struct_count, told_array, told_struct, no_parts}
use Rattle.const_values.proofs.construct.constructed.Goals as goal

pub returns-in_default : goal.returns-in_default
returns-in_default c = told_zero (meant_type c.args.ty.now) c.args.given.now c.in_ok-zero.field-0 c.in_default.ensures.cases c.in_ok-zero.ensures

pub scalar-requires-clause-lawful : goal.scalar-requires-clause-lawful
scalar-requires-clause-lawful c = subst IsLawfulType (ap meant_type c.in-Single.is ∙ meant-Single c.in-Single.kind) c.requires.lawful

pub array-requires-clause-lawful : goal.array-requires-clause-lawful
array-requires-clause-lawful c =
    subst (λ (u : CodeType). IsLawfulType (meant_type u)) (sym c.get.ensures) (subst IsLawfulType (array_is c.args.ty.now c.in-Array.count c.in-Array.element c.in-Array.is) c.requires.lawful).1

pub returns-in_err-array-in-Array : goal.returns-in_err-array-in-Array
returns-in_err-array-in-Array c =
    no_parts c.args.ty.now (Array c.in-Array.count (meant_type c.get.result.now)) c.args.given.now c.from_residual-in_err-array-in-Array.result c.in_err-array-in-Array.field-0.0
    (array_is c.args.ty.now c.in-Array.count c.in-Array.element c.in-Array.is ∙ ap (λ (u : CodeType). Array c.in-Array.count (meant_type u)) (sym c.get.ensures))
    (passed_failure c.from_residual-in_err-array-in-Array.result c.in_err-array-in-Array.field-0.0 c.from_residual-in_err-array-in-Array.ensures) c.in_err-array-in-Array.ensures

pub structure-requires-clause-lawful : goal.structure-requires-clause-lawful
structure-requires-clause-lawful c =
    subst (λ (fs : List FieldType). AreLawfulTypes (meant_fields fs)) (sym c.as_slice.ensures) (subst IsLawfulType (struct_is c.args.ty.now c.in-Record.field-0 c.in-Record.fields c.in-Record.is) c.requires.lawful)

pub structure-requires-clause-count : goal.structure-requires-clause-count
structure-requires-clause-count c =
    struct_count c.args.ty.now c.in-Record.field-0 c.in-Record.fields c.args.given.now c.in-Some.first.now c.in-Some.field-0-1.now c.in-Record.is c.requires.count c.in-Some.ensures.cases.0
    ∙ ap (λ (fs : List FieldType). length fs) (sym c.as_slice.ensures)

pub returns-in_err-structure-in-Record : goal.returns-in_err-structure-in-Record
returns-in_err-structure-in-Record c =
    no_parts c.args.ty.now (Record c.in-Record.field-0 (meant_fields c.as_slice.result.now)) c.args.given.now c.from_residual-in_err-structure-in-Record.result c.in_err-structure-in-Record.field-0.0
    (struct_is c.args.ty.now c.in-Record.field-0 c.in-Record.fields c.in-Record.is ∙ ap (λ (fs : List FieldType). Record c.in-Record.field-0 (meant_fields fs)) (sym c.as_slice.ensures))
    (passed_failure c.from_residual-in_err-structure-in-Record.result c.in_err-structure-in-Record.field-0.0 c.from_residual-in_err-structure-in-Record.ensures) c.in_err-structure-in-Record.ensures

pub returns-in-Single : goal.returns-in-Single
returns-in-Single c = told_single c.args.ty.now c.in-Single.kind c.args.given.now c.in-Some.first.now c.in-Some.field-0-1.now c.scalar.result c.in-Single.is c.requires.count c.in-Some.ensures.cases.0 c.scalar.ensures

pub returns-in_ok-array-in-Array : goal.returns-in_ok-array-in-Array
returns-in_ok-array-in-Array c =
    told_array c.args.ty.now c.in-Array.count (meant_type c.get.result.now) c.args.given.now c.in-Some.first.now c.in-Some.field-0-1.now c.in_ok-array-in-Array.field-0
    (array_is c.args.ty.now c.in-Array.count c.in-Array.element c.in-Array.is ∙ ap (λ (u : CodeType). Array c.in-Array.count (meant_type u)) (sym c.get.ensures))
    c.requires.count c.in-Some.ensures.cases.0 c.in_ok-array-in-Array.ensures

pub returns-in_ok-structure-in-Record : goal.returns-in_ok-structure-in-Record
returns-in_ok-structure-in-Record c =
    told_struct c.args.ty.now c.in-Record.field-0 (meant_fields c.as_slice.result.now) c.args.given.now c.in-Some.first.now c.in-Some.field-0-1.now c.in_ok-structure-in-Record.field-0
    (struct_is c.args.ty.now c.in-Record.field-0 c.in-Record.fields c.in-Record.is ∙ ap (λ (fs : List FieldType). Record c.in-Record.field-0 (meant_fields fs)) (sym c.as_slice.ensures))
    c.in-Some.ensures.cases.0 c.in_ok-structure-in-Record.ensures
