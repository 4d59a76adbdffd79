use Rattle.std.proofs.Common.{rules, ◌≡◌, ◌<◌, ◌^◌, length, arith, ap, ◌∙◌}
use Rattle.wasm_writer.proofs.Runs.{runs_length, shape_put}
use Rattle.wasm_writer.proofs.description.put_shape.Goals as goal

pub overflow_cast-len : goal.overflow_cast-len
overflow_cast-len c =
    let count : c.len.result ≡ length c.in_ok-runs.runs.items = search rules in
    let same : length c.in_ok-runs.runs.items ≡ length _ = ap length c.in_ok-runs.ensures in
    let short : c.len.result < 2 ^ 32 = omega (arith, count, same, runs_length c.args.shape.now, c.requires) in
    record { fits = short }

pub returns-clause-spelled : goal.returns-clause-spelled
returns-clause-spelled c = shape_put c.args.shape.now c.deref.result.now c.put_each_run.result c.requires (c.deref.ensures.value ∙ c.in_ok-runs.ensures) c.put_each_run.ensures.spelled
