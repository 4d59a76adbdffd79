use Rattle.std.proofs.Common.{◌≤◌, length, get_or, refl, arith}
use Rattle.wasm_valid.specs.Described.{LiesWithin}
use Rattle.wasm_valid.proofs.DescribedLemmas.{few_there, lies_more, lies_there, lie_all}
use Rattle.wasm_valid.proofs.described.lie_within.Goals as goal

pub lies_within-requires : goal.lies_within-requires
lies_within-requires c =
    let few : length (get_or c.args.host.now c.loop-at.at c.index-host-at.result).shape ≤ 1048576 = omega (arith, few_there c.args.host.now c.args.addresses.now c.loop-at.at c.index-host-at.result c.requires.paired c.loop-at-test.true, c.requires.few) in
    rw c.index-host-at.is few

pub returns-then-not-lies_within : goal.returns-then-not-lies_within
returns-then-not-lies_within c = (
  λ t. absurd cc,
  λ all. c.if-not-lies_within.ensures.1 (lies_there (λ slot. LiesWithin c.args.bytes c.args.block slot.end slot.address) c.args.host.now c.args.addresses.now c.loop-at.at c.index-host-at.result (get_or c.args.addresses.now c.loop-at.at 0) c.requires.paired c.loop-at-test.true c.index-host-at.is refl all),
)

pub loop-at-preserved : goal.loop-at-preserved
loop-at-preserved c =
    lies_more (λ slot. LiesWithin c.args.bytes c.args.block slot.end slot.address) c.args.host.now c.args.addresses.now c.loop-at.at c.index-host-at.result (get_or c.args.addresses.now c.loop-at.at 0) c.requires.paired c.loop-at-test.true c.index-host-at.is refl
    c.loop-at.invariant (c.if-not-lies_within.ensures.0 refl)

pub returns : goal.returns
returns c =
    let all = lie_all (λ slot. LiesWithin c.args.bytes c.args.block slot.end slot.address) c.args.host.now c.args.addresses.now c.loop-at.at c.requires.paired (omega (arith, c.loop-at-test.false)) c.loop-at.invariant in
    (λ t. all, λ h. refl)
