use Rattle.std.proofs.Common.{[], map, ap, sym, subst}
use Rattle.cm_core.specs.Code.{body_of}
use Rattle.advance_lowering.specs.Blocks.{Stands}
use Rattle.advance_lowering.specs.Views.{block_of}
use Rattle.advance_lowering.proofs.Emit.{main_stands}
use Rattle.advance_lowering.proofs.lowering.lower.Goals as goal

pub returns : goal.returns
returns c =
    subst (λ z. Stands (body_of c.args.unit.now.main) c.in_ok-start.start (map block_of z)) (sym c.from_vec.ensures)
    (main_stands (body_of c.args.unit.now.main) _ _ (map block_of c.new-blocks.result.items) _ _ _ c.requires (ap (map block_of) c.new-blocks.ensures.items) c.open_at-end.ensures (c.in_ok-made.ensures []) c.in_ok-start.ensures.number c.in_ok-start.ensures.blocks)
