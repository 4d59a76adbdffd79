use Rattle.saved_state.proofs.Applying.{restored_in_range}
use Rattle.saved_state.proofs.restored.restore.Goals as goal

pub returns-clause-in_range : goal.returns-clause-in_range
returns-clause-in_range c =
    let saved = rw (c.as_slice.ensures, c.as_slice-2.ensures) at c.parameters_of.ensures.saved in
    restored_in_range c.args.host.now _ c.parameters_of.result c.requires c.in_ok-values.ensures.in_range saved
