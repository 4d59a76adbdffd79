use Rattle.std.proofs.Common.{rules, ◌≡◌, ◌+◌, ◌-◌, ◌∙◌, ap, sym, subst, List, ℕ, drop, map, get_or, arith}
use Rattle.cm_core.specs.Code.{stmt_of}
use Rattle.cm_core.specs.Sizes.{stmt_size}
use Rattle.cm_core.specs.Measures.{measured_in, size_among, body_sizes}
use Rattle.memory_layout.specs.Held.{held}
use Rattle.memory_layout.specs.Scales.{counts_or}
use Rattle.memory_layout.proofs.Functions.{measured_more}
use Rattle.memory_layout.proofs.bodies.body_sizes.Goals as goal

pub loop-left-preserved : goal.loop-left-preserved
loop-left-preserved c =
    let same : c.loop-left.left - 1 + 1 ≡ c.loop-left.left = grind (arith, c.loop-left-test.true) in
    let at : c.index-functions-left.result ≡ get_or c.args.unit.now.functions (c.loop-left.left - 1) c.index-functions-left.result =
    c.index-functions-left.is ∙ ap (λ l. get_or l (c.loop-left.left - 1) c.index-functions-left.result) c.as_slice-functions.ensures in
    let sized : c.function_size-size.result ≡ held (stmt_size (measured_in c.args.structs.now c.args.unit.now (λ g. size_among (drop (c.loop-left.left - 1 + 1) c.loop-left.sizes.items) (g - (c.loop-left.left - 1 + 1))) (counts_or c.args.chains.now c.args.beyond)) (stmt_of c.index-functions-left.result.body)) =
    subst (λ (xs : List ℕ). c.function_size-size.result ≡ held (stmt_size (measured_in c.args.structs.now c.args.unit.now (λ g. size_among xs (g - (c.loop-left.left - 1 + 1))) (counts_or c.args.chains.now c.args.beyond)) (stmt_of c.index-functions-left.result.body)))
    (c.split_at.ensures.back ∙ ap (drop (c.loop-left.left - 1 + 1)) c.deref.ensures.value) c.function_size-size.ensures in (
      search rules,
      (
        search rules,
        measured_more c.args.structs.now c.args.unit.now (counts_or c.args.chains.now c.args.beyond) c.args.unit.now.functions c.loop-left.sizes.items (c.loop-left.left - 1)
            c.function_size-size.result c.index-functions-left.result (search rules) (search rules) at
            (subst (λ k. drop k c.loop-left.sizes.items ≡ map held (body_sizes c.args.structs.now c.args.unit.now (counts_or c.args.chains.now c.args.beyond) k (drop k c.args.unit.now.functions)))
            (sym same) (search rules))
            sized,
      ),
    )
