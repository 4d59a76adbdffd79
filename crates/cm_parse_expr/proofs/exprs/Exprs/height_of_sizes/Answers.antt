use Rattle.std.proofs.Common.{◌≡◌, ◌+◌, ◌∙◌, arith}
use Rattle.cm_tree.specs.Heights.{sizes_height, tallest}
use Rattle.cm_parse_expr.specs.Tallness.{kept}
use Rattle.cm_parse_expr.proofs.Kept.{sizes_some}
use Rattle.cm_parse_expr.proofs.exprs.Exprs.height_of_sizes.Goals as goal

pub returns-else-is_empty : goal.returns-else-is_empty
returns-else-is_empty c =
    let never = c.is_empty.ensures in
    let is : c.self.inside.list ≡ c.args.self.now = c.self.view_is in
    let some : sizes_height c.args.self.now ≡ tallest c.args.self.now + 1 = sizes_some c.args.self.now (λ none. let t = never.1 (is ∙ none) in cc) in
    let at : c.self.inside.height ≡ kept (tallest c.args.self.now) = rw (← is) c.self.invariant in
    omega (arith, at, some, c.saturating_add.ensures)
