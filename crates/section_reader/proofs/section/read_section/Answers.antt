use Rattle.std.proofs.Common.{refl, subst, sym}
use Rattle.wasm_reader.specs.declared.fault.ReadFail.{ReadFail}
use Rattle.wasm_reader.specs.Reading.{Fails}
use Rattle.section_reader.specs.Reading.{whole_at}
use Rattle.section_reader.proofs.RawLaws.{Accepted, is_said, read_as, refused_none, fault_none}
use Rattle.section_reader.proofs.section.read_section.Goals as goal

pub returns-in-Err-Fault-clause-only : goal.returns-in-Err-Fault-clause-only
returns-in-Err-Fault-clause-only c section = fault_none c.in-Err-Fault.field-0-0 section c.args.bytes.now (subst (λ (e : ReadFail). Fails e (whole_at c.args.bytes.now)) c.in-Err-Fault.field-0-is c.in-Err-Fault.ensures)

pub returns-then-not-are_few-clause-only : goal.returns-then-not-are_few-clause-only
returns-then-not-are_few-clause-only c section =
    refused_none c.in-Ok.read.0 c.in-Ok.read.1.items section c.args.bytes.now c.in-Ok.ensures
    (λ few. absurd (cc (c.if-not-are_few.ensures.1 (subst Accepted (sym c.deref.ensures.value) few))))

pub returns-clause-found : goal.returns-clause-found
returns-clause-found c =
    let few : Accepted c.in-Ok.read.1.items = subst Accepted c.deref.ensures.value (c.if-not-are_few.ensures.0 refl) in
    is_said c.in_ok-made.field-0 c.in-Ok.read.0 c.in-Ok.read.1.items c.args.bytes.now c.in-Ok.ensures few.0 few.1 c.in_ok-made.ensures.said c.in_ok-made.ensures.paired

pub returns-clause-only : goal.returns-clause-only
returns-clause-only c section = read_as c.in_ok-made.field-0 c.in-Ok.read.0 c.in-Ok.read.1.items section c.args.bytes.now c.in-Ok.ensures c.in_ok-made.ensures.said
