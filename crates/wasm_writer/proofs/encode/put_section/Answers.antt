use Rattle.std.proofs.Common.{rules, ◌≡◌, length}
use Rattle.wasm_writer.proofs.Parts.{vector_none}
use Rattle.wasm_writer.proofs.encode.put_section.Goals as goal

pub returns-then-is_empty-clause-spelled : goal.returns-then-is_empty-clause-spelled
returns-then-is_empty-clause-spelled g c =
    let none : length c.args.parts.now ≡ 0 = search rules in
    vector_none g.P.Encode.spells g.P.Encode.shortest c.args.parts.now none
