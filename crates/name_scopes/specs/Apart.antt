-- Names of one scope have to differ: docs/LANGUAGE.md, "Names". What is refused is each that stands behind an equal one.
use Rattle.std.specs.Prelude.{◌≡◌, ℕ, not, List, [], ◌∷◌, ◌++◌, flat_map, Result, Ok, Err, bytes_eq}
use Rattle.std.specs.List.{list_any}
use Rattle.cm_base.specs.declared.cause.Cause.TheVariants as cause
use Rattle.cm_base.specs.declared.failure.Fail.{Fail}
use Rattle.cm_base.specs.declared.failure.Fail.TheVariants as fail
use Rattle.cm_tree.specs.declared.path.Word.{Word}
use Rattle.cm_tree.specs.declared.simple.Init.{Init}
use Rattle.cm_tree.specs.declared.simple.Var.{Var}
use Rattle.cm_tree.specs.declared.shared.Shared.{Shared}
use Rattle.cm_tree.specs.declared.shared.Shared.TheVariants as h
use Rattle.cm_tree.specs.declared.member.EndName.{EndName}
use Rattle.cm_tree.specs.declared.member.End.{End}
use Rattle.cm_tree.specs.declared.member.Node.{Node}
use Rattle.cm_tree.specs.declared.member.Member.{Member}
use Rattle.cm_tree.specs.declared.member.Member.TheVariants as m
use Rattle.cm_tree.specs.declared.decl.Param.{Param}
use Rattle.cm_tree.specs.declared.decl.Param.TheVariants as q
use Rattle.cm_tree.specs.declared.decl.UnitDecl.{UnitDecl}
use Rattle.cm_meaning.specs.Faults.{Fault, fault, unless}
use Rattle.cm_meaning.specs.Exact.{In}
use Rattle.name_scopes.specs.Numbers.{added}

-- each word whose text was there before it
unfoldable pub again : List (List ℕ) → List Word → List Fault
again seen [] = []
again seen (w ∷ words) = unless (not (list_any (bytes_eq w.text) seen)) cause.DuplicateName w.place ++ again (added seen w.text) words

-- the texts that are there after some words
unfoldable pub seen_after : List (List ℕ) → List Word → List (List ℕ)
seen_after seen [] = seen
seen_after seen (w ∷ words) = seen_after (added seen w.text) words

-- what a call answers that keeps these words apart from each other and from those before
abbrev pub KeepsApart : List (List ℕ) → List Word → Result (Unit {0}) Fail → List (List ℕ) → Type 0
KeepsApart old words (Ok done) new = (again old words ≡ []) × (new ≡ seen_after old words)
KeepsApart old words (Err (fail.Refused f)) new = In (fault f.cause f.place) (again old words)
KeepsApart old words (Err fail.NoMemory) new = Unit {0}

-- ---- the names that parts of a processor or a graph declare

abbrev pub word_itself : Word → List Word
word_itself w = w ∷ []

abbrev pub init_words : Init → List Word
init_words a = a.name ∷ []

abbrev pub var_words : Var → List Word
var_words a = a.name ∷ []

abbrev pub end_name_words : EndName → List Word
end_name_words a = a.name ∷ []

abbrev pub end_words : End → List Word
end_words a = flat_map end_name_words a.names

abbrev pub node_words : Node → List Word
node_words a = a.name ∷ []

abbrev pub shared_words : Shared → List Word
shared_words (h.Struct p w fields) = w ∷ []
shared_words (h.Using p w ty) = w ∷ []
shared_words (h.Let p inits) = flat_map init_words inits
shared_words (h.Assert a) = []

abbrev pub param_words : Param → List Word
param_words (q.Type p w) = w ∷ []
param_words (q.Value ty w) = w ∷ []

abbrev pub member_words : Member → List Word
member_words (m.Ends p flow ends) = flat_map end_words ends
member_words (m.Shared a) = shared_words a
member_words (m.Function f) = f.name ∷ []
member_words (m.Handler p w t b) = []
member_words (m.Var p inits) = flat_map init_words inits
member_words (m.State ty vars) = flat_map var_words vars
member_words (m.Latency p a) = []
member_words (m.Nodes p nodes) = flat_map node_words nodes
member_words (m.Connection p links) = []

abbrev pub unit_words : UnitDecl → List Word
unit_words u = flat_map param_words u.params ++ flat_map member_words u.members
