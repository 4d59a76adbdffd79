use Rattle.std.proofs.Common.{rules, FitsSigned, w64, to_z}
use Rattle.wasm_writer.proofs.Numbers.{far_below, far_above, signed_turn}
use Rattle.wasm_writer.proofs.number.put_signed.Goals as goal
use Rattle.wasm_writer.proofs.number.put_signed.Goals.{then-rest-ltminus64, else-rest-ltminus64+then-rest-gt63}

pub loop-rest-preserved : goal.loop-rest-preserved
loop-rest-preserved c =
    let z = to_z w64 c.loop-rest.rest-bits in
    let fits : FitsSigned w64 z = search rules in
    let turn = signed_turn c.loop-rest.out.items c.push.new.self.items z c.rem_euclid.result c.div_euclid-rest.result _ fits in
    elim c.if-rest-ltminus64.branch [
      | then-rest-ltminus64 w ↦ turn (far_below z w.if-rest-ltminus64.true) c.rem_euclid.ensures.value c.div_euclid-rest.ensures c.in_ok-push.ensures.items c.loop-rest.invariant
      | else-rest-ltminus64+then-rest-gt63 w ↦ turn (far_above z w.if-rest-gt63.true) c.rem_euclid.ensures.value c.div_euclid-rest.ensures c.in_ok-push.ensures.items c.loop-rest.invariant
    ]
