use Rattle.std.proofs.Common.{◌≡◌, ◌+◌, ◌-◌, ◌<◌, length, sym, arith, rules}
use Rattle.std.proofs.lemmas.Map.Text.{hash_map_updates_str}
use Rattle.input_script.proofs.Ends.{position-drop}
use Rattle.input_script.proofs.inputs.Inputs.new.Goals as goal

pub loop-number-preserved : goal.loop-number-preserved
loop-number-preserved c = λ name.
    let before = c.loop-number.number - 1 in
    let within : before < length c.args.ends.now = search rules in
    let again : before + 1 ≡ c.loop-number.number = omega (arith, c.loop-number-test.true) in
    let put = hash_map_updates_str c.as_str.result.now c.loop-number.numbers c.insert.new.self _ c.in_ok-insert.ensures.updates name in
    let here = position-drop name c.args.ends.now before c.index-ends-number.result within c.index-ends-number.is in
    let same : c.as_str.result.now ≡ c.index-ends-number.result.name = search rules in
    rw (here, again, sym (c.loop-number.invariant name), sym same) put
