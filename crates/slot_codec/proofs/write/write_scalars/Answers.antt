-- Scalar by scalar.
use Rattle.std.proofs.Common.{rules, ◌≡◌, ◌<◌, ◌+◌, length, get_or, pos, to_z, of_z, sym, refl, subst, arith}
use Rattle.std.specs.Int.{w64}
use Rattle.cm_base.specs.declared.host.Scalar.TheVariants.{Int32}
use Rattle.slot_codec.proofs.Writing as W
use Rattle.slot_codec.proofs.write.write_scalars.Goals as goal

pub bounds-values-i : goal.bounds-values-i
bounds-values-i c = omega (arith, W.as_many c.args.shape.now c.args.values.now c.requires.shaped, c.loop-i-test.true)

pub write_scalar-requires-clause-of_kind : goal.write_scalar-requires-clause-of_kind
write_scalar-requires-clause-of_kind c =
    let v : to_z w64 (of_z w64 (get_or c.args.values.now c.loop-i.i (pos 0))) ≡ get_or c.args.values.now c.loop-i.i (pos 0) = search rules in
    let m : c.loop-i.i < length c.args.values.now = omega (arith, W.as_many c.args.shape.now c.args.values.now c.requires.shaped, c.loop-i-test.true) in
    W.of_kind c.args.shape.now c.args.values.now c.args.address c.args.memory.now c.loop-i.i c.loop-i.at c.loop-i.memory c.loop-i.invariant
    (get_or c.args.shape.now c.loop-i.i Int32) Int32 (to_z w64 (of_z w64 (get_or c.args.values.now c.loop-i.i (pos 0)))) (pos 0) c.loop-i-test.true m refl v

pub loop-i-preserved : goal.loop-i-preserved
loop-i-preserved c =
    let v : to_z w64 (of_z w64 (get_or c.args.values.now c.loop-i.i (pos 0))) ≡ get_or c.args.values.now c.loop-i.i (pos 0) = search rules in
    let m : c.loop-i.i < length c.args.values.now = omega (arith, W.as_many c.args.shape.now c.args.values.now c.requires.shaped, c.loop-i-test.true) in
    subst (λ n. W.AreWritten c.args.shape.now c.args.values.now c.args.address c.args.memory.now (c.loop-i.i + 1) (c.loop-i.at + n) c.write_scalar.new.memory) (sym c.size_of-at.ensures)
    (W.one_written c.args.shape.now c.args.values.now c.args.address c.args.memory.now c.loop-i.i c.loop-i.at c.loop-i.memory c.loop-i.invariant
    (get_or c.args.shape.now c.loop-i.i Int32) Int32 (to_z w64 (of_z w64 (get_or c.args.values.now c.loop-i.i (pos 0)))) (pos 0) c.loop-i-test.true m refl v
    c.write_scalar.new.memory c.write_scalar.ensures)

pub returns : goal.returns
returns c = W.all_written c.args.shape.now c.args.values.now c.args.address c.args.memory.now c.loop-i.i c.loop-i.at c.loop-i.memory c.loop-i.invariant (let i = c.loop-i-test.false in omega arith)
