use Rattle.std.proofs.Common.{◌≡◌, ℕ, take, get_or, false, vec_len, nat_eq}
use Rattle.std.specs.List.{IsDistinct}
use Rattle.graph_search.specs.Edges.{member}
use Rattle.program_shape.proofs.distinct.are_distinct.Given as goal

abbrev pub invariant-loop-number : goal.invariant-loop-number
invariant-loop-number l = record {
  len : vec_len l.marks ≡ l.count;
  marked : (q : ℕ) → get_or l.marks.items q false ≡ member q (take l.number-index l.numbers);
  distinct : IsDistinct nat_eq (take l.number-index l.numbers);
}
