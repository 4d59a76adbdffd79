use Rattle.std.proofs.Common.{arith, refl}
use Rattle.std.proofs.lemmas.Result.{err_from_is_err_and}
use Rattle.wasm_reader.specs.Reading.{place_at}
use Rattle.wasm_reader.proofs.Steps.{fails-first}
use Rattle.wasm_reader.proofs.Instructions.{behind-load, behind-store, behind-none, not_memory}
use Rattle.wasm_reader.proofs.instr.memory.Goals as goal

pub returns-in_err-place : goal.returns-in_err-place
returns-in_err-place c =
    let p = err_from_is_err_and c.from_residual.result c.from_residual.ensures.1 in
    rw (p.1, p.2, behind-load c.args.start c.args.opcode c.in-Some.op c.args.cursor.now c.in-Some.ensures.some) (fails-first c.in_err-place.field-0.0 (place_at c.args.cursor.now) _ refl c.in_err-place.ensures refl)

pub returns-in-Some : goal.returns-in-Some
returns-in-Some c = rw (behind-load c.args.start c.args.opcode c.in-Some.op c.args.cursor.now c.in-Some.ensures.some, c.in_ok-place.ensures) refl

pub returns-in_err-place-2 : goal.returns-in_err-place-2
returns-in_err-place-2 c =
    let p = err_from_is_err_and c.from_residual-in_err-place-2.result c.from_residual-in_err-place-2.ensures.1 in
    rw (p.1, p.2, behind-store c.args.start c.args.opcode c.in-Some-store.op c.args.cursor.now c.in-Some-store.ensures.some) (fails-first c.in_err-place-2.field-0.0 (place_at c.args.cursor.now) _ refl c.in_err-place-2.ensures refl)

pub returns-in-Some-store : goal.returns-in-Some-store
returns-in-Some-store c = rw (behind-store c.args.start c.args.opcode c.in-Some-store.op c.args.cursor.now c.in-Some-store.ensures.some, c.in_ok-place-2.ensures) refl

pub returns-in_default-opcode : goal.returns-in_default-opcode
returns-in_default-opcode c =
    rw c.at.ensures (behind-none c.args.start c.args.opcode c.args.cursor.now
    (not_memory c.args.opcode c.requires.other c.in_default.ensures.none c.in_default-store.ensures.none c.requires.high (λ e. absurd (omega arith)) (λ e. absurd (omega arith)) (λ e. absurd (omega arith))))
