use Rattle.cm_meaning.specs.PatchSites.{decl_sites}
use Rattle.declaration_walk.proofs.SpaceLemmas.{passes-ok}
use Rattle.declaration_walk.specs.Declares.{file_sites}
use Rattle.std.proofs.Common.{ap, flat_map, sym}
use Rattle.declaration_walk.proofs.patch.walk_file.Goals as goal

pub returns : goal.returns
returns c = passes-ok c.args.steps.now c.walk_decls.new.steps (λ all space. flat_map (decl_sites all space) c.as_slice.result.now) (λ all space. file_sites all space c.args.file.now) c.walk_decls.result
    (λ all space. ap (flat_map (decl_sites all space)) (sym c.as_slice.ensures)) c.walk_decls.ensures
