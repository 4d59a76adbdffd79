use Rattle.std.proofs.Common.{rules, ◌<◌, length}
use Rattle.wasm_valid.proofs.NeedLemmas.{few_of_body}
use Rattle.wasm_valid.proofs.bodies.need_at.Goals as goal

pub need_of-requires-clause-few : goal.need_of-requires-clause-few
need_of-requires-clause-few c =
    let there : c.args.at < length c.args.«module».now.functions = search rules in
    few_of_body c.args.«module».now c.args.at c.body_type-ty.result.now c.requires.types there c.body_type-ty.ensures
