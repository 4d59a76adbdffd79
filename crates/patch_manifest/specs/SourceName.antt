-- The name of a source file.
use Rattle.std.specs.Prelude.{ℕ, List, [], ◌∷◌, ◌++◌, ◌==◌, if◌then◌else◌}
use Rattle.std.specs.List.{list_any}

-- a name up to and including its last `/`, or nothing where it has none
unfoldable pub folder_of : List ℕ → List ℕ
folder_of [] = []
folder_of (byte ∷ name) = if list_any (λ other. other == 47) (byte ∷ name) then byte ∷ folder_of name else []

-- the path of a source, from the folder of the manifest
abbrev pub file_name : List ℕ → List ℕ → List ℕ
file_name manifest path = folder_of manifest ++ path
