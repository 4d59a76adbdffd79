use Rattle.std.proofs.Common.{◌≡◌, ℕ, ◌+◌, ◌<◌, ◌≤◌, length, get_or, true, arith, sym, ◌∙◌, All}
use Rattle.std.specs.List.{filter_map}
use Rattle.std.proofs.lemmas.Grind.{common_steps}
use Rattle.graph_search.specs.Edges.{member}
use Rattle.latency_fill.specs.Walks.{latency_of}
use Rattle.latency_fill.specs.Edges.{host_source}
use Rattle.latency_fill.proofs.Sources.{host_sources_within}
use Rattle.latency_fill.proofs.Passes.{IsLatest, host_arrival_is}
use Rattle.latency_fill.proofs.arrivals.host_arrival.Goals as goal

pub latest-requires-clause-within : goal.latest-requires-clause-within
latest-requires-clause-within c =
    let flat = c.args.flat.now in
    let e : c.deref.result.now ≡ filter_map host_source flat.chains = c.deref.ensures.value ∙ c.in_ok-sources.ensures in
    let n1 : length flat.leaves ≡ length c.args.arrive.now = sym c.requires.len in
    let n2 : length flat.leaves ≡ length c.as_slice.result.now = grind (arith, common_steps) in
    let w : All (λ p. (p < length c.args.arrive.now) × (p < length c.as_slice.result.now)) c.deref.result.now =
    rw e (host_sources_within flat _ _ n1 n2 c.requires.within) in
    w

pub returns : goal.returns
returns c =
    let flat = c.args.flat.now in
    let arrive = c.args.arrive.now in
    let m = c.latest.result in
    let e : c.deref.result.now ≡ filter_map host_source flat.chains = c.deref.ensures.value ∙ c.in_ok-sources.ensures in
    let up : (p : ℕ) → member p (filter_map host_source flat.chains) ≡ true → get_or arrive p 0 + latency_of flat p ≤ m =
    rw (← e, ← c.as_slice.ensures) c.latest.ensures.upper in
    let at : IsLatest flat (filter_map host_source flat.chains) arrive m =
    rw (← e, ← c.as_slice.ensures) c.latest.ensures.attained in
    host_arrival_is flat arrive m c.requires.within c.requires.arrivals up at
