use Rattle.std.proofs.Common.{◌≡◌, length, refl, arith}
use Rattle.std.proofs.lemmas.Bool.{ne_eqb, eq-eqb}
use Rattle.wasm_reader.specs.Reading.{module_at, sections_at, section_then, last_at}
use Rattle.wasm_reader.proofs.Ends.{ok_is}
use Rattle.wasm_reader.proofs.reader.module.Goals as goal

pub returns-then-len : goal.returns-then-len
unfolding module_at sections_at section_then last_at
returns-then-len c =
    let h = rw c.new-cursor.ensures at c.in_ok-header.ensures in
    let t = rw (c.new.ensures, c.new-2.ensures) at c.in_ok-types.ensures in
    let none : length c.customs.new.cursor ≡ 0 = omega arith in
    let other : length c.in_ok-functions.functions ≡ length c.in_ok-codes.codes → ⊥ = λ (e : length c.in_ok-functions.functions ≡ length c.in_ok-codes.codes). absurd (omega arith) in
    rw (c.at-then-len.ensures, h, t, c.in_ok-imports.ensures, c.in_ok-functions.ensures, c.in_ok-memory.ensures, c.in_ok-globals.ensures, c.in_ok-exports.ensures, c.in_ok-codes.ensures, c.in_ok-segments.ensures, c.in_ok-customs.ensures, eq-eqb _ 0 none, ne_eqb _ _ other) refl

pub returns : goal.returns
unfolding module_at sections_at section_then last_at
returns c =
    let h = rw c.new-cursor.ensures at c.in_ok-header.ensures in
    let t = rw (c.new.ensures, c.new-2.ensures) at c.in_ok-types.ensures in
    let none : length c.customs.new.cursor ≡ 0 = omega arith in
    let same : length c.in_ok-functions.functions ≡ length c.in_ok-codes.codes = omega arith in
    rw (h, t, c.in_ok-imports.ensures, c.in_ok-functions.ensures, c.in_ok-memory.ensures, c.in_ok-globals.ensures, c.in_ok-exports.ensures, c.in_ok-codes.ensures, c.in_ok-segments.ensures, c.in_ok-customs.ensures, eq-eqb _ 0 none, eq-eqb _ _ same, ok_is _ _ c.in_ok-customs-2.ensures) refl
