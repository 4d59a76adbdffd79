use Rattle.std.proofs.Common.{rules, ◌≡◌, ◌+◌, ◌-◌, length, sym, ◌∙◌, arith}
use Rattle.wasm_writer.proofs.Runs.{runs_joined, runs_begun, runs_first}
use Rattle.wasm_writer.proofs.description.add_scalar.Goals as goal
use Rattle.wasm_writer.proofs.description.add_scalar.Goals.{else-count-gt0-via-then-count-gt0+else-is_same, else-count-gt0-via-else-count-gt0}

pub returns-then-is_same : goal.returns-then-is_same
returns-then-is_same c shape is =
    let runs = c.args.runs.now.items in
    let count : c.len-count.result ≡ length runs = search rules in
    let last : c.len-count.result - 1 + 1 ≡ length runs = omega arith in
    runs_joined shape runs (c.len-count.result - 1) c.args.kind c.index.result.now c.index_mut.result.now is last c.index.ensures (sym c.is_same.ensures ∙ c.if-is_same.true) c.index_mut.ensures.value

pub returns : goal.returns
returns c shape is =
    let runs = c.args.runs.now.items in
    let count : c.len-count.result ≡ length runs = search rules in
    elim c.else-count-gt0.branch [
      | else-count-gt0-via-then-count-gt0+else-is_same w ↦
          let last : c.len-count.result - 1 + 1 ≡ length runs = omega (arith, w.if-count-gt0.true) in
          c.in_ok-push.ensures.items ∙ runs_begun shape runs (c.len-count.result - 1) c.args.kind w.index.result.now is last w.index.ensures (sym w.is_same.ensures ∙ w.if-is_same.false)
      | else-count-gt0-via-else-count-gt0 w ↦ c.in_ok-push.ensures.items ∙ runs_first shape runs c.args.kind is (omega (arith, w.if-count-gt0.false))
    ]
