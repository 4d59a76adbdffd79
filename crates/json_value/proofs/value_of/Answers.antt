use Rattle.std.proofs.Common.{ap, ◌∙◌, sym}
use Rattle.serde_json.specs.Read.{read}
use Rattle.json_value.proofs.Values.{value_of-text, value_of-no_text, text_found}
use Rattle.json_value.proofs.value_of.Goals as goal

pub returns-in-Ok-clause-value : goal.returns-in-Ok-clause-value
returns-in-Ok-clause-value c =
    let is = value_of-text c.args.bytes.now c.in-Ok.ensures.cases.1 ∙ ap read (sym c.in-Ok.ensures.cases.0) in
    rw is c.value_of_text.ensures.value

pub returns-in-Err-clause-value : goal.returns-in-Err-clause-value
returns-in-Err-clause-value c = sym (value_of-no_text c.args.bytes.now c.in-Err.ensures.cases.0)

pub returns-in-Ok-clause-text : goal.returns-in-Ok-clause-text
returns-in-Ok-clause-text c = text_found c.args.bytes.now c.value_of_text.result (returns-in-Ok-clause-value c)
