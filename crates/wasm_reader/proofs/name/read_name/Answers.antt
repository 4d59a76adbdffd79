use Rattle.std.proofs.Common.{◌∙◌}
use Rattle.wasm_reader.proofs.Steps.{name-gives, name-ill}
use Rattle.wasm_reader.proofs.name.read_name.Goals as goal

pub returns-in_ok-from_str-in-Ok : goal.returns-in_ok-from_str-in-Ok
returns-in_ok-from_str-in-Ok c =
    name-gives c.args.cursor.now c.in_ok-length.length c.index.new.self c.in_ok-take.field-0.now c.take.new.self c.in_ok-from_str-in-Ok.field-0
    c.in_ok-length.ensures c.in_ok-take.ensures (c.in_ok-from_str-in-Ok.ensures ∙ c.in-Ok.ensures.cases.0) c.in-Ok.ensures.cases.1

pub returns-in-Err : goal.returns-in-Err
returns-in-Err c =
    rw (c.at.ensures, c.saturating_sub.ensures, c.left-left.ensures, c.valid_up_to.ensures, c.in-Err.ensures.valid_len)
    (name-ill c.args.cursor.now c.in_ok-length.length c.index.new.self c.in_ok-take.field-0.now c.take.new.self c.in_ok-length.ensures c.in_ok-take.ensures c.in-Err.ensures.cases.0)
