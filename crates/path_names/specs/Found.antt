-- What is looked up at sites, and what it finds there: docs/LANGUAGE.md, "Names".
use Rattle.std.specs.Prelude.{List, [], ◌∷◌, ◌++◌, Option, Some, None}
use Rattle.cm_tree.specs.declared.path.Path.{Path}
use Rattle.cm_meaning.specs.Declared.{Declared}
use Rattle.cm_meaning.specs.Scopes.{Around, find}
use Rattle.cm_meaning.specs.Sites.{Site, GivesNode, TakesAny, looked_up}
use Rattle.scope_walk.specs.Steps.{Meets, MeetsGiven, Stand, Step, round, step_after}

-- a path, and what it finds
abbrev pub Found : Type 0
Found = Path × Option Declared

abbrev pub found_of : Around → Option Path → List Found
found_of r None = []
found_of r (Some q) = (q, find r q) ∷ []

-- what is looked up at some sites, each with what it finds there
unfoldable pub found_at : List Site → List Found
found_at [] = []
found_at (s ∷ sites) = found_of s.around (looked_up s.part) ++ found_at sites

-- what a step looks up; it makes no difference what the parameter of an argument takes
abbrev pub step_found : Stand → Step → List Found
step_found s (Meets p) = found_of (round s) (looked_up p)
step_found s (MeetsGiven q k a) = found_of (round s) (looked_up (GivesNode TakesAny a))
step_found s _ = []

unfoldable pub found_by : Stand → List Step → List Found
found_by s [] = []
found_by s (a ∷ steps) = step_found s a ++ found_by (step_after s a) steps
