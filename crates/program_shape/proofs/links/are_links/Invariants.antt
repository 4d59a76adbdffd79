use Rattle.std.proofs.Common.{take, All}
use Rattle.cm_core.specs.Consistent.{IsLink}
use Rattle.program_shape.proofs.links.are_links.Given as goal

abbrev pub invariant-loop-link : goal.invariant-loop-link
invariant-loop-link l = All (IsLink l.program) (take l.link-index l.program.links)
