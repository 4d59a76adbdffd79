use Rattle.std.proofs.Common.{rules}
use Rattle.json_value.specs.Form.{Answers}
use Rattle.input_script.specs.Script.{script_in}
use Rattle.input_script.proofs.Belongs.{answer_belongs}
use Rattle.input_script.proofs.script.read_script.Goals as goal

pub returns-in-Ok-Some-clause-belongs : goal.returns-in-Ok-Some-clause-belongs
returns-in-Ok-Some-clause-belongs c =
    let is : Answers c.script_of.result (script_in c.args.host.now c.args.bytes.now) = search rules in
    answer_belongs c.args.host.now c.args.bytes.now c.script_of.result c.requires.each is
