use Rattle.std.proofs.Common.{inr}
use Rattle.commands.specs.Playing.{Malformed}
use Rattle.commands.proofs.PlayLemmas.{script_answer}
use Rattle.commands.proofs.play.script_of.Goals as goal

pub returns-in-Err-Refused-clause-refused : goal.returns-in-Err-Refused-clause-refused
returns-in-Err-Refused-clause-refused c =
    inr (Malformed c.in-Err-Refused.fault (script_answer c.args.host.now c.args.bytes.now _ c.in-Err-Refused.fault c.in-Err-Refused.field-0-is c.in-Err-Refused.ensures.script))
