use Rattle.std.proofs.Common.{◌≡◌, true, false, ◌<◌, length, get_or, ap, ◌∙◌, sym, arith, All, subst}
use Rattle.std.specs.Prelude.{filter, Some}
use Rattle.std.proofs.lemmas.List.Elements.{All-pop}
use Rattle.cm_base.specs.declared.place.EndId.{EndId}
use Rattle.cm_core.specs.Routes.{leaving}
use Rattle.graph_flat.specs.Paths.{is_live, IsShort, IsLow, paths_on}
use Rattle.graph_flat.proofs.Leaps.{row_is, row_within, jumps_short, low_delay, target_is}
use Rattle.graph_flat.proofs.Routing.{taken, is_found}
use Rattle.graph_flat.proofs.Searches.{begin_more, low_more, go_on, low_on, fewer_on}
use Rattle.graph_flat.proofs.searching.search.Goals as goal

pub push_first-requires-clause-within : goal.push_first-requires-clause-within
push_first-requires-clause-within c =
    let w = c.args.wires.now in
    let start : EndId = get_or c.args.starts.now c.loop-start.start-index (record { 0 = 0 }) in
    let lt : start.0 < length w.rows.items = c.requires.within c.loop-start.start-index (record { 0 = 0 }) c.loop-start-test.true in
    let row : c.deref.result.now ≡ filter (is_live w.counts) (leaving w.connections.items start) = c.deref.ensures.value ∙ row_is _ w c.requires.ready start.0 c.index.result.now lt c.index.ensures in
    λ k d l. let a = row_within _ w c.requires.ready start c.deref.result.now row k d l in let n = ap length c.deref-in-loop-start.ensures.value in let m = c.requires.ready.jumps_count in omega (arith, a, n, m)

pub push_first-requires-clause-short : goal.push_first-requires-clause-short
push_first-requires-clause-short c = subst (All IsShort) (sym c.deref-in-loop-start.ensures.value) (jumps_short _ c.args.wires.now c.requires.ready c.requires.few)

pub loop-start-preserved : goal.loop-start-preserved
loop-start-preserved c =
    let w = c.args.wires.now in
    let start : EndId = get_or c.args.starts.now c.loop-start.start-index (record { 0 = 0 }) in
    let lt : start.0 < length w.rows.items = c.requires.within c.loop-start.start-index (record { 0 = 0 }) c.loop-start-test.true in
    let row : c.deref.result.now ≡ filter (is_live w.counts) (leaving w.connections.items start) = c.deref.ensures.value ∙ row_is _ w c.requires.ready start.0 c.index.result.now lt c.index.ensures in
    record {
      all = begin_more _ w c.requires.ready c.args.starts.now c.loop-start.start-index c.loop-start.stack.items c.push_first.new.stack.items c.deref.result.now c.deref-in-loop-start.result.now
          c.loop-start-test.true c.loop-start.invariant.all c.in_ok-push_first.ensures c.deref-in-loop-start.ensures.value row;
      low = λ r. low_more _ w r start c.loop-start.stack.items c.push_first.new.stack.items c.deref.result.now c.deref-in-loop-start.result.now
          (c.loop-start.invariant.low r) c.in_ok-push_first.ensures c.deref-in-loop-start.ensures.value row;
    }

pub index-requires-in-Some : goal.index-requires-in-Some
index-requires-in-Some c =
    let w = c.args.wires.now in
    let n = length w.rows.items in
    let r = c.requires.ready in
    let x = c.in-Some.path in
    let low = All-pop (IsLow n r.rank) c.loop-path.stack.items c.pop.new.self.items (Some x) c.in-Some.ensures.items (c.loop-path.invariant.low r) in
    let within = low.1.within in
    let count = r.marks_count in
    omega (arith, within, count)

pub loop-path-preserved-in-Continue-branch-2 : goal.loop-path-preserved-in-Continue-branch-2
loop-path-preserved-in-Continue-branch-2 c =
    let w = c.args.wires.now in
    let n = length w.rows.items in
    let r = c.requires.ready in
    let x = c.in-Some.path in
    let low = All-pop (IsLow n r.rank) c.loop-path.stack.items c.pop.new.self.items (Some x) c.in-Some.ensures.items (c.loop-path.invariant.low r) in
    let there = target_is n w r x.to.0 c.index-in-Some.result.now true low.1.within c.index-in-Some.ensures c.if-index.true in
    record {
      all = taken (paths_on w.connections.items w.targets.items n) c.loop-path.found.items c.push.new.self.items _ c.loop-path.stack.items c.pop.new.self.items x x c.loop-path.invariant.all c.in-Some.ensures.items c.in_ok-push.ensures.items (is_found w.connections.items w.targets.items n x there);
      low = λ q. (All-pop (IsLow n q.rank) c.loop-path.stack.items c.pop.new.self.items (Some x) c.in-Some.ensures.items (c.loop-path.invariant.low q)).0;
    }

pub index-requires-else-index : goal.index-requires-else-index
index-requires-else-index c =
    let w = c.args.wires.now in
    let n = length w.rows.items in
    let r = c.requires.ready in
    let x = c.in-Some.path in
    let low = All-pop (IsLow n r.rank) c.loop-path.stack.items c.pop.new.self.items (Some x) c.in-Some.ensures.items (c.loop-path.invariant.low r) in
    let within = low.1.within in
    omega (arith, within)

pub push_next-requires-clause-within : goal.push_next-requires-clause-within
push_next-requires-clause-within c =
    let w = c.args.wires.now in
    let n = length w.rows.items in
    let r = c.requires.ready in
    let x = c.in-Some.path in
    let low = All-pop (IsLow n r.rank) c.loop-path.stack.items c.pop.new.self.items (Some x) c.in-Some.ensures.items (c.loop-path.invariant.low r) in
    let row : c.deref-else-index.result.now ≡ filter (is_live w.counts) (leaving w.connections.items x.to) = c.deref-else-index.ensures.value ∙ row_is n w r x.to.0 c.index-else-index.result.now low.1.within c.index-else-index.ensures in
    λ k d l. let a = row_within n w r x.to c.deref-else-index.result.now row k d l in let m = ap length c.deref-else-index-2.ensures.value in let count = r.jumps_count in omega (arith, a, m, count)

pub push_next-requires-clause-short : goal.push_next-requires-clause-short
push_next-requires-clause-short c = subst (All IsShort) (sym c.deref-else-index-2.ensures.value) (jumps_short _ c.args.wires.now c.requires.ready c.requires.few)

pub push_next-requires-clause-delay : goal.push_next-requires-clause-delay
push_next-requires-clause-delay c =
    let w = c.args.wires.now in
    let n = length w.rows.items in
    let r = c.requires.ready in
    let x = c.in-Some.path in
    let low = All-pop (IsLow n r.rank) c.loop-path.stack.items c.pop.new.self.items (Some x) c.in-Some.ensures.items (c.loop-path.invariant.low r) in
    low_delay n w r x c.requires.few low.1

pub loop-path-smaller : goal.loop-path-smaller
loop-path-smaller c =
    let w = c.args.wires.now in
    let n = length w.rows.items in
    let r = c.requires.ready in
    let x = c.in-Some.path in
    let low = All-pop (IsLow n r.rank) c.loop-path.stack.items c.pop.new.self.items (Some x) c.in-Some.ensures.items (c.loop-path.invariant.low r) in
    let row : c.deref-else-index.result.now ≡ filter (is_live w.counts) (leaving w.connections.items x.to) = c.deref-else-index.ensures.value ∙ row_is n w r x.to.0 c.index-else-index.result.now low.1.within c.index-else-index.ensures in
    let off = target_is n w r x.to.0 c.index-in-Some.result.now false low.1.within c.index-in-Some.ensures c.if-index.false in
    fewer_on n w r c.loop-path.stack.items c.pop.new.self.items c.push_next.new.stack.items x c.deref-else-index.result.now c.deref-else-index-2.result.now off c.in-Some.ensures.items c.in_ok-push_next.ensures c.deref-else-index-2.ensures.value row

pub loop-path-preserved : goal.loop-path-preserved
loop-path-preserved c =
    let w = c.args.wires.now in
    let n = length w.rows.items in
    let r = c.requires.ready in
    let x = c.in-Some.path in
    let low = All-pop (IsLow n r.rank) c.loop-path.stack.items c.pop.new.self.items (Some x) c.in-Some.ensures.items (c.loop-path.invariant.low r) in
    let row : c.deref-else-index.result.now ≡ filter (is_live w.counts) (leaving w.connections.items x.to) = c.deref-else-index.ensures.value ∙ row_is n w r x.to.0 c.index-else-index.result.now low.1.within c.index-else-index.ensures in
    let off = target_is n w r x.to.0 c.index-in-Some.result.now false low.1.within c.index-in-Some.ensures c.if-index.false in
    record {
      all = go_on n w r c.loop-path.found.items _ c.loop-path.stack.items c.pop.new.self.items c.push_next.new.stack.items x c.deref-else-index.result.now c.deref-else-index-2.result.now off c.loop-path.invariant.all c.in-Some.ensures.items c.in_ok-push_next.ensures c.deref-else-index-2.ensures.value row;
      low = λ q.
          let low = All-pop (IsLow n q.rank) c.loop-path.stack.items c.pop.new.self.items (Some x) c.in-Some.ensures.items (c.loop-path.invariant.low q) in
          low_on n w q c.pop.new.self.items c.push_next.new.stack.items x c.deref-else-index.result.now c.deref-else-index-2.result.now low.0 low.1 c.in_ok-push_next.ensures c.deref-else-index-2.ensures.value row;
    }
