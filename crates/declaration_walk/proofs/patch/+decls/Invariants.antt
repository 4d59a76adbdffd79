use Rattle.cm_meaning.specs.PatchSites.{decl_sites}
use Rattle.scope_walk.specs.Steps.{Passes}
use Rattle.std.proofs.Common.{flat_map, take}
use Rattle.declaration_walk.proofs.patch.+decls.Given as goal

abbrev pub invariant-walk_decls-loop-decl : goal.invariant-walk_decls-loop-decl
invariant-walk_decls-loop-decl l = Passes l.fn.steps l.steps (λ all space. flat_map (decl_sites all space) (take l.decl-index l.decls))
