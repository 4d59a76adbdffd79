use Rattle.declaration_walk.specs.Declares.{file_sites}
use Rattle.scope_walk.specs.Steps.{Passes}
use Rattle.std.proofs.Common.{flat_map, take}
use Rattle.declaration_walk.proofs.patch.walk_files.Given as goal

abbrev pub invariant-loop-file : goal.invariant-loop-file
invariant-loop-file l = Passes l.fn.steps l.steps (λ all space. flat_map (file_sites all space) (take l.file-index l.files))
