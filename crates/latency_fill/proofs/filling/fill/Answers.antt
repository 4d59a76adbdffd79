use Rattle.std.proofs.Common.{◌≡◌, length, true, None, ◌≤◌, ◌∙◌, All, map}
use Rattle.std.specs.List.{filter_map}
use Rattle.cm_core.specs.declared.filled.Filled.{Filled}
use Rattle.graph_search.specs.Edges.{AreWithin}
use Rattle.latency_fill.specs.Walks.{IsArrival, is_timed}
use Rattle.latency_fill.specs.Edges.{timed_edge}
use Rattle.latency_fill.specs.Fills.{IsFill, extra_of, departs, arrives}
use Rattle.latency_fill.proofs.Sources.{edges_within}
use Rattle.latency_fill.proofs.Fitting.{none_late, sums, others, attained, least}
use Rattle.latency_fill.proofs.filling.fill.Goals as goal

pub sources_of-requires : goal.sources_of-requires
sources_of-requires c =
    let w : AreWithin (length c.args.flat.now.leaves) (filter_map timed_edge c.args.flat.now.chains) = edges_within c.args.flat.now c.requires.within in
    rw (c.deref.ensures.value, c.in_ok-edges.ensures, c.len.ensures) w

pub extras-requires-clause-fits : goal.extras-requires-clause-fits
extras-requires-clause-fits c =
    let flat = c.args.flat.now in
    let arrive = c.in_ok-arrive.arrive.items in
    let out : IsArrival flat None c.in_ok-latency.latency = c.in_ok-latency.ensures in
    let w : All (λ chain. is_timed chain ≡ true → departs flat arrive chain ≤ arrives arrive c.in_ok-latency.latency chain) flat.chains =
    none_late flat arrive c.in_ok-latency.latency c.requires.within c.in_ok-arrive.ensures.arrivals out in
    rw c.deref-4.ensures.value w

pub returns : goal.returns
returns c =
    let flat = c.args.flat.now in
    let extra : c.from_vec.result ≡ map (extra_of flat c.in_ok-arrive.arrive.items c.in_ok-latency.latency) flat.chains =
    c.from_vec.ensures ∙ rw c.deref-4.ensures.value at c.in_ok-extra.ensures in
    let filled : Filled = record { extra = c.from_vec.result; arrive = c.from_vec-2.result; latency = c.in_ok-latency.latency } in
    let f : IsFill flat filled = record {
      arrivals = rw c.from_vec-2.ensures c.in_ok-arrive.ensures.arrivals;
      latency = c.in_ok-latency.ensures;
      extra = rw c.from_vec-2.ensures extra;
      count = rw c.from_vec-2.ensures c.in_ok-arrive.ensures.len;
    } in
    record {
      walks = f;
      sums = sums flat filled c.requires.within f;
      others = others flat filled f;
      attained = attained flat filled f;
      least = least flat filled f;
    }

pub host_arrival-requires-clause-arrivals : goal.host_arrival-requires-clause-arrivals
host_arrival-requires-clause-arrivals c = rw c.deref-3.ensures.value c.in_ok-arrive.ensures.arrivals
