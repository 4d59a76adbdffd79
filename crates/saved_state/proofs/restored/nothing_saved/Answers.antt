use Rattle.std.proofs.Common.{List, sym, subst}
use Rattle.cm_base.specs.declared.play.Saved.{Saved}
use Rattle.cm_base.specs.Scripts.{AreSaved}
use Rattle.saved_state.proofs.Unsaved.{unsaved}
use Rattle.saved_state.proofs.restored.nothing_saved.Goals as goal

pub returns-clause-in_range : goal.returns-clause-in_range
returns-clause-in_range c = subst (λ (s : List Saved). AreSaved c.args.host.now s) (sym c.new.ensures) (unsaved c.args.host.now c.requires)
