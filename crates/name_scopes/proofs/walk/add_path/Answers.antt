use Rattle.std.proofs.Common.{slice_index_or, [], ℕ}
use Rattle.std.proofs.lemmas.Result.{err_from_is_err_and}
use Rattle.name_scopes.proofs.OpenLemmas.{opening-start, opening-within, opening-next, opening-stop}
use Rattle.name_scopes.proofs.walk.add_path.Goals as goal

pub loop-name-init : goal.loop-name-init
loop-name-init c = opening-start c.args.members.now c.args.space c.args.path.now.place c.as_slice-name-items.result.now c.requires

pub open-requires : goal.open-requires
open-requires c = opening-within c.args.members.now (slice_index_or c.args.members.now.spaces c.args.space []) c.args.path.now.place _ c.loop-name.members c.loop-name.inner c.loop-name.invariant

pub returns-in_err-inner-clause-adds : goal.returns-in_err-inner-clause-adds
returns-in_err-inner-clause-adds c =
    let p = err_from_is_err_and c.from_residual.result c.from_residual.ensures.1 in
    rw (p.1, p.2) (opening-stop ℕ ℕ c.args.members.now (slice_index_or c.args.members.now.spaces c.args.space []) c.args.path.now.place c.as_slice-name-items.result.now c.args.path.now.names c.loop-name.name-index
    c.name-item.result c.as_str.result.now c.loop-name.members c.open.new.self c.open.new.self c.loop-name.inner c.in_err-inner.field-0.0 c.loop-name-test.true c.name-item.is c.as_str.ensures c.as_slice-name-items.ensures
    c.loop-name.invariant c.in_err-inner.ensures.adds)

pub loop-name-preserved : goal.loop-name-preserved
loop-name-preserved c = opening-next c.args.members.now (slice_index_or c.args.members.now.spaces c.args.space []) c.args.path.now.place c.as_slice-name-items.result.now c.loop-name.name-index c.name-item.result c.as_str.result.now
    c.loop-name.members c.open.new.self c.loop-name.inner c.in_ok-inner.inner c.loop-name-test.true c.name-item.is c.as_str.ensures c.loop-name.invariant c.in_ok-inner.ensures.adds c.in_ok-inner.ensures.number

pub returns-clause-below : goal.returns-clause-below
returns-clause-below c = opening-within c.args.members.now (slice_index_or c.args.members.now.spaces c.args.space []) c.args.path.now.place _ c.loop-name.members c.loop-name.inner c.loop-name.invariant
