use Rattle.std.proofs.Common.{◌≡◌, arith, rules}
use Rattle.std.proofs.Math.ListN.{set}
use Rattle.wasm_tree.specs.Slots.{scalars_of}
use Rattle.cm_base.specs.declared.host.Scalar.TheVariants.{Int32}
use Rattle.wasm_valid.proofs.ScalarLemmas.{read_more, read_whole}
use Rattle.wasm_valid.proofs.scalars.read_scalars.Goals as goal

pub loop-at-preserved : goal.loop-at-preserved
loop-at-preserved c =
    let put : c.set.new.self ≡ set c.loop-at.into c.loop-at.at c.scalar_of.result = search rules in
    read_more c.args.shape.now c.loop-at.at Int32 c.loop-at.into c.set.new.self c.loop-at.rest.now c.split_at.result.0.now c.split_at.result.1.now c.min.result c.scalar_of.result (scalars_of c.args.shape.now c.args.memory.now)
    c.loop-at-test.true c.loop-at.invariant.0 (search rules) c.split_at.ensures.front c.split_at.ensures.back (search rules) put c.loop-at.invariant.1

pub returns : goal.returns
returns c = read_whole c.args.shape.now c.loop-at.at c.loop-at.into c.loop-at.rest.now (scalars_of c.args.shape.now c.args.memory.now) (omega (arith, c.loop-at-test.false)) c.loop-at.invariant.0 c.loop-at.invariant.1
