use Rattle.std.proofs.Common.{◌≡◌, ◌+◌, ◌-◌, ◌<◌, length, FitsSigned, arith, rules}
use Rattle.std.specs.Int.{w64}
use Rattle.std.proofs.lemmas.Int.{to_z-of_z}
use Rattle.std.proofs.lemmas.Map.Text.{hash_map_updates_str}
use Rattle.saved_state.proofs.Applying.{put_first}
use Rattle.saved_state.proofs.applied.by_name.Goals as goal

pub loop-index-preserved : goal.loop-index-preserved
loop-index-preserved c = λ name.
    let before = c.loop-index.index - 1 in
    let within : before < length c.args.saved.now = search rules in
    let again : c.loop-index.index ≡ before + 1 = omega (arith, c.loop-index-test.true) in
    let one = c.index-saved-index.result in
    let same : c.as_str.result.now ≡ one.name = search rules in
    let fits : FitsSigned w64 one.value = search rules in
    let put = hash_map_updates_str c.as_str.result.now c.loop-index.map c.insert.new.self _ c.in_ok-insert.ensures.updates name in
    put_first name c.as_str.result.now c.args.saved.now before one _ _ _ within c.index-saved-index.is same (to_z-of_z w64 one.value fits) (rw (again) at (c.loop-index.invariant name)) put
