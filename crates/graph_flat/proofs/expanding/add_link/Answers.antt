use Rattle.std.proofs.Common.{refl}
use Rattle.cm_core.specs.GraphFaults.{link}
use Rattle.graph_flat.proofs.SoundLinks.{link_is, sound_delay}
use Rattle.graph_flat.proofs.expanding.add_link.Goals as goal

pub fault_of-requires-clause-link : goal.fault_of-requires-clause-link
fault_of-requires-clause-link c = link_is c.args.program.now c.args.link.now c.requires.program c.requires.link

pub expand-requires-clause-link : goal.expand-requires-clause-link
expand-requires-clause-link c = link_is c.args.program.now c.args.link.now c.requires.program c.requires.link

pub expand-requires-clause-delay : goal.expand-requires-clause-delay
expand-requires-clause-delay c = sound_delay c.args.program.now c.args.link.now c.in-None.ensures

pub returns-in-Some-clause-refused : goal.returns-in-Some-clause-refused
returns-in-Some-clause-refused c = rw c.refused.ensures (link c.args.link.now c.in-Some.fault.cause c.in-Some.fault.place c.requires.link c.in-Some.ensures, refl)
