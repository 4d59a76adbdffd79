use Rattle.std.proofs.Common.{◌≤◌, ◌<◌, length, rules}
use Rattle.wasm_valid.proofs.ScalarLemmas.{scalars_told, no_scalars}
use Rattle.wasm_valid.proofs.slots.Slots.has_scalars.Goals as goal

pub returns : goal.returns
returns c =
    let end = c.index-host-end.result in
    let within : c.args.end < length c.self.inside.host = search rules in
    scalars_told c.args.self.now c.self.inside.host c.self.inside.addresses c.args.end c.args.count end _ c.self.view_is c.self.invariant.0 within (search rules)

pub returns-then-end-host : goal.returns-then-end-host
returns-then-end-host c =
    let past : length c.self.inside.host ≤ c.args.end = search rules in
    (λ t. absurd cc, λ h. absurd (no_scalars c.args.self.now c.self.inside.host c.self.inside.addresses c.args.end c.args.count c.self.view_is c.self.invariant.0 past h))
