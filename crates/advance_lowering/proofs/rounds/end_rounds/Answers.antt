use Rattle.std.proofs.lemmas.List.{map-set}
use Rattle.advance_lowering.specs.Views.{block_of}
use Rattle.advance_lowering.proofs.rounds.end_rounds.Goals as goal

pub returns : goal.returns
returns c = map-set block_of c.args.blocks.now.items c.args.rounds.exits.on_continue _
