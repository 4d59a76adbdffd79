-- What the walk over a whole patch comes to.
use Rattle.std.specs.Prelude.{◌≡◌, List, [], map, Result, Ok, Err, IfOk}
use Rattle.std.proofs.Common.{ap, sym, ◌∙◌}
use Rattle.cm_tree.specs.declared.file.File.{File}
use Rattle.cm_meaning.specs.Declared.{Declared}
use Rattle.cm_meaning.specs.PatchSites.{patch_sites}
use Rattle.cm_meaning.specs.Scopes.{patch_names}
use Rattle.scope_walk.specs.Steps.{Step, outside, sites_by}
use Rattle.path_names.specs.Found.{found_at}
use Rattle.path_names.specs.Ids.{Named, placed, use_as}

pub patch-members : {E : Type 0} (o : Result Named E) (files : List File) (names : List Declared) → names ≡ patch_names files → IfOk o (λ t. t.members ≡ names) → IfOk o (λ t. t.members ≡ patch_names files)
patch-members (Ok t) files names is h = h ∙ is
patch-members (Err e) files names is h = tt

pub patch-uses : {E : Type 0} (o : Result Named E) (files row : List File) (names : List Declared) (steps : List Step) → row ≡ files → names ≡ patch_names files → sites_by (outside (patch_names row) []) steps ≡ patch_sites row
    → IfOk o (λ t. map (use_as t.members t.locals) t.uses ≡ map placed (found_at (sites_by (outside names []) steps))) → IfOk o (λ t. map (use_as t.members t.locals) t.uses ≡ map placed (found_at (patch_sites files)))
patch-uses (Ok t) files row names steps same is found h =
    h ∙ ap (λ all. map placed (found_at (sites_by (outside all []) steps))) (is ∙ ap patch_names (sym same)) ∙ ap (λ z. map placed (found_at z)) found ∙ ap (λ z. map placed (found_at (patch_sites z))) same
patch-uses (Err e) files row names steps same is found h = tt
