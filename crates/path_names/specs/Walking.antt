-- A walk with numbers for names, namespaces and declarations, and where it stands.
use Rattle.std.specs.Prelude.{◌≡◌, ℕ, ◌<◌, List, [], ◌∷◌, ◌++◌, length, map, Some, None, slice_get}
use Rattle.std.specs.Option.{option_copied}
use Rattle.cm_meaning.specs.Declared.{Space, Declared}
use Rattle.cm_meaning.specs.Scopes.{declared, find, find_inner}
use Rattle.name_scopes.specs.Members.{names_of}
use Rattle.name_scopes.specs.Numbers.{number_in}
use Rattle.name_scopes.specs.declared.table.Entry.{Entry}
use Rattle.scope_walk.specs.Meant.{named_as}
use Rattle.cm_tree.specs.declared.path.Path.{Path}
use Rattle.scope_walk.specs.Steps.{Stand, Step, after_steps, round, step_after}
use Rattle.path_names.specs.Found.{Found, found_by, step_found}
use Rattle.path_names.specs.declared.local.Local.{Local}
use Rattle.path_names.specs.declared.walk.Walk.{Walk}
use Rattle.path_names.specs.Ids.{declared_by, placed, step_declared, use_as}

-- a name and a declaration of a scope, by their numbers
pub record IsEntry (names : List (List ℕ)) (locals : List Declared) (e : Entry) (x : Declared) : Type 0 where
  pub name : number_in names x.word.text ≡ Some e.name
  pub declaration : slice_get locals e.declaration ≡ Some x

abbrev pub IsScope : List (List ℕ) → List Declared → List Entry → List Declared → Type 0
IsScope names locals [] [] = Unit {0}
IsScope names locals (e ∷ entries) (x ∷ scope) = IsEntry names locals e x × IsScope names locals entries scope
IsScope names locals _ _ = ⊥

abbrev pub AreScopes : List (List ℕ) → List Declared → List (List Entry) → List (List Declared) → Type 0
AreScopes names locals [] [] = Unit {0}
AreScopes names locals (entries ∷ inner) (scope ∷ scopes) = IsScope names locals entries scope × AreScopes names locals inner scopes
AreScopes names locals _ _ = ⊥

-- a declaration of a scope, in a namespace by its number
pub record IsLocal (spaces : List Space) (l : Local) (x : Declared) : Type 0 where
  pub space : slice_get spaces l.space ≡ Some x.home.space
  pub is : x ≡ declared (record { space = x.home.space; unit = option_copied l.unit }) l.word.now (named_as l.declaration)

abbrev pub AreLocals : List Space → List Local → List Declared → Type 0
AreLocals spaces [] [] = Unit {0}
AreLocals spaces (l ∷ locals) (x ∷ xs) = IsLocal spaces l x × AreLocals spaces locals xs
AreLocals spaces _ _ = ⊥

-- no name is found in a declaration of a scope
pub record HoldNoNames (xs : List Declared) : Type 0 where
  pub each : (all : List Declared) (name : List ℕ) (i : ℕ) (x : Declared) → slice_get xs i ≡ Some x → find_inner all name x.named ≡ None

-- numbers of names have a place in the table, and the namespace has a number
pub record IsReady (w : Walk) : Type 0 where
  pub space : w.space < length w.known.spaces
  pub names : w.table.names ≡ length w.names

-- a walk stands here, has declared these in scopes, and has found this
pub record IsAt (w : Walk) (s : Stand) (xs : List Declared) (found : List Found) : Type 0 where
  pub all : names_of w.known ≡ s.all
  pub space : slice_get w.known.spaces w.space ≡ Some s.home.space
  pub unit : option_copied w.unit ≡ s.home.unit
  pub scopes : AreScopes w.names xs w.table.scopes s.scopes
  pub locals : AreLocals w.known.spaces w.locals xs
  pub plain : HoldNoNames xs
  pub uses : map (use_as s.all xs) w.uses ≡ map placed found

-- a path is looked up where the walk stands
pub record Looks (old new : Walk) (path : Path) : Type 0 where
  pub at : (s : Stand) (xs : List Declared) (found : List Found) → IsAt old s xs found → IsAt new s xs (found ++ (path, find (round s) path) ∷ [])

-- a step is taken, wherever the walk stands
pub record Takes (old new : Walk) (step : Step) : Type 0 where
  pub at : (s : Stand) (xs : List Declared) (found : List Found) → IsAt old s xs found → IsAt new (step_after s step) (xs ++ step_declared s step) (found ++ step_found s step)

-- steps are taken one after the other
pub record TakesAll (old new : Walk) (steps : List Step) : Type 0 where
  pub at : (s : Stand) (xs : List Declared) (found : List Found) → IsAt old s xs found → IsAt new (after_steps s steps) (xs ++ declared_by s steps) (found ++ found_by s steps)
