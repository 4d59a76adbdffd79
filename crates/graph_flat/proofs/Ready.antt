-- When wires without jumps are ready for a search.
use Rattle.std.proofs.Common.{◌≡◌, ℕ, ◌<◌, false, List, length, get_or, sym, All, subst, None}
use Rattle.std.specs.Prelude.{map, slice_index, slice_index_or}
use Rattle.std.proofs.lemmas.List.Elements.{All-map}
use Rattle.cm_base.specs.declared.place.EndId.{EndId}
use Rattle.cm_core.specs.declared.link.Connection.{Connection}
use Rattle.cm_core.specs.Tree.{is_among}
use Rattle.graph_search.specs.declared.edges.Edge.{Edge}
use Rattle.graph_search.specs.Edges.{AreWithin}
use Rattle.graph_search.specs.Orders.{IsRanking}
use Rattle.graph_search.specs.Paths.{ArePathCounts}
use Rattle.graph_flat.specs.Edges.{edge_of}
use Rattle.graph_flat.specs.declared.wires.Wires.{Wires}
use Rattle.graph_flat.specs.Paths.{IsBelow, MayJump}
use Rattle.graph_flat.specs.Wires.{AreRows, IsReady}
use Rattle.graph_flat.proofs.Counting.{ranks_fall}

pub edges_within : (n : ℕ) (cs : List Connection) (es : List Edge) → es ≡ map edge_of cs → All (IsBelow n) cs → AreWithin n es
edges_within n cs es e h = subst (AreWithin n) (sym e) (All-map (λ (x : Edge). (x.from < n) × (x.to < n)) edge_of cs (λ k d lt. let b = h k d lt in (b.from, b.to)))

pub made_ready : (n : ℕ) (w : Wires) (es : List Edge) (ranks : List ℕ) → es ≡ map edge_of w.connections.items → IsRanking es n ranks → All (IsBelow n) w.connections.items → length w.is_target.items ≡ n
    → ((e : EndId) → slice_index_or w.is_target.items e.0 false ≡ is_among e w.targets.items) → ArePathCounts es w.is_target.items n 65537 w.counts → AreRows w.connections.items w.counts n w.rows
    → length w.jumps.items ≡ n → ((k : ℕ) → get_or w.jumps.items k None ≡ None) → IsReady n w
made_ready n w es ranks e r within len marks counts rows jumps none = record {
  rank = slice_index ranks;
  falls = ranks_fall w.connections.items n ranks (subst (λ (xs : List Edge). IsRanking xs n ranks) e r);
  within = within;
  marks_count = len;
  marks = marks;
  counts = subst (λ (xs : List Edge). ArePathCounts xs w.is_target.items n 65537 w.counts) e counts;
  rows = rows;
  jumps_count = jumps;
  jumps = λ i. subst (MayJump w.connections.items w.targets.items n (slice_index ranks) i) (sym (none i.0)) tt;
}
