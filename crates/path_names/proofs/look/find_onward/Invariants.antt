use Rattle.std.proofs.Common.{List, Option, take}
use Rattle.cm_meaning.specs.Declared.{Declared}
use Rattle.cm_meaning.specs.Scopes.{onward}
use Rattle.name_scopes.specs.Members.{names_of}
use Rattle.path_names.specs.Ids.{StandsFor}
use Rattle.path_names.specs.Walking.{HoldNoNames}
use Rattle.path_names.proofs.look.find_onward.Given as goal

abbrev pub invariant-loop-name : goal.invariant-loop-name
invariant-loop-name l = (locals : List Declared) (x : Option Declared) → HoldNoNames locals → StandsFor (names_of l.known) locals l.fn.first x → StandsFor (names_of l.known) locals l.found (onward (names_of l.known) x (take l.name-index l.names))
