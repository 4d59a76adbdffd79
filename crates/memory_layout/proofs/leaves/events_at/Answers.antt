use Rattle.std.proofs.Common.{ap, ◌∙◌, Vec}
use Rattle.std.specs.Global.{Global}
use Rattle.memory_layout.specs.declared.events.Event.{Event}
use Rattle.memory_layout.proofs.leaves.events_at.Goals as goal

pub returns : goal.returns
returns c = λ chains are. c.as_slice.ensures.value ∙ ap (λ (v : Vec Event Global). v.items) c.index-starts-at.is ∙ are.events c.args.at c.index-starts-at.result c.requires
