use Rattle.program_shape.proofs.distinct.are_distinct.Goals as goal
use Rattle.std.proofs.Common.{rules, arith, ◌≡◌, get_or, false, subst, sym, take, nat_eq}
use Rattle.std.specs.List.{IsDistinct}
use Rattle.std.proofs.lemmas.List.{take_more}
use Rattle.std.proofs.lemmas.Grind.{common_steps}
use Rattle.graph_search.specs.Edges.{member}
use Rattle.program_shape.proofs.Once.{distinct_none, distinct_push, member_more}

pub loop-number-init : goal.loop-number-init
loop-number-init c = record { len = search rules; marked = λ q. grind (arith, common_steps); distinct = distinct_none }

pub loop-number-preserved : goal.loop-number-preserved
loop-number-preserved c =
    let xs = c.args.numbers.now in
    let i = c.loop-number.number-index in
    let x = get_or xs i 0 in
    let out : member x (take i xs) ≡ false = grind (arith, common_steps, c.loop-number.invariant.marked x) in
    record {
      len = grind (arith, common_steps);
      marked = λ q. grind (arith, common_steps, c.loop-number.invariant.marked q, member_more q xs i c.loop-number-test.true);
      distinct = subst (IsDistinct nat_eq) (sym (take_more xs i 0 c.loop-number-test.true)) (distinct_push (take i xs) x c.loop-number.invariant.distinct out);
    }
