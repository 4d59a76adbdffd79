-- Which declarations need which, and what needs itself: docs/LANGUAGE.md, "Names". A constant, a type, a function or a
-- graph needs what is named in its own text.
use Rattle.std.specs.Prelude.{Bool, true, false, ◌≡◌, ◌&&◌, ◌||◌, if◌then◌else◌, IsTrue, List, Option, Some, None, option_and_then, option_map, filter, filter_map, Contains}
use Rattle.cm_base.specs.declared.place.Place.{Place}
use Rattle.cm_tree.specs.declared.path.Word.{Word}
use Rattle.cm_tree.specs.declared.expr.Expr.TheVariants as e
use Rattle.cm_tree.specs.declared.type_expr.Arg.TheVariants as g
use Rattle.cm_tree.specs.declared.file.File.{File}
use Rattle.cm_meaning.specs.Declared.{Named, Struct, Using, Constant, Declared, is_function, is_graph, is_init}
use Rattle.cm_meaning.specs.Scopes.{Around, find}
use Rattle.cm_meaning.specs.Sites.{Part, Reads, Calls, NamesType, Writes, DeclaresNode, GivesNode, Site}
use Rattle.cm_meaning.specs.PatchSites.{patch_sites}

abbrev pub is_named_constant : Named → Bool
is_named_constant (Constant value) = true
is_named_constant _ = false

-- a type that is made of others
abbrev pub is_made : Named → Bool
is_made (Struct p fields) = true
is_made (Using ty) = true
is_made _ = false

abbrev pub is_made_or_function : Named → Bool
is_made_or_function n = is_made n || is_function n

abbrev pub is_definition : Named → Bool
is_definition n = is_named_constant n || is_made n

-- one declaration needs another, by a use at this place
pub record Need : Type 0 where
  pub from : Declared
  pub at : Place
  pub to : Declared

-- ---- the needs of a patch

abbrev pub only : (Named → Bool) → Option Declared → Option Declared
only sort found = option_and_then (λ (x : Declared). if sort x.named then Some x else None) found

-- the place of a use and what it needs there: a constant's value, a named type, a called function, a node's graph
abbrev pub need_of : Around → Part → Option (Place × Declared)
need_of r (Reads q) = option_map (λ (x : Declared). (q.place, x)) (only is_named_constant (find r q))
need_of r (NamesType q) = option_map (λ (x : Declared). (q.place, x)) (only is_made (find r q))
need_of r (Calls q args) = option_map (λ (x : Declared). (q.place, x)) (only is_made_or_function (find r q))
need_of r (GivesNode t (g.Value (e.Name q))) = option_map (λ (x : Declared). (q.place, x)) (only is_definition (find r q))
need_of r (DeclaresNode a) = option_map (λ (x : Declared). (a.path.place, x)) (only is_graph (find r a.path))
need_of r _ = None

abbrev pub need_at : Site → Option Need
need_at s = joined s.around.inside (need_of s.around s.part) where
  joined : Option Declared → Option (Place × Declared) → Option Need
  joined (Some from) (Some need) = Some (record { from = from; at = need.0; to = need.1 })
  joined _ _ = None

abbrev pub all_needs : List File → List Need
all_needs files = filter_map need_at (patch_sites files)

-- those between declarations of this sort
abbrev pub needs_among : (Named → Bool) → List File → List Need
needs_among sort files = filter (λ (n : Need). sort n.from.named && sort n.to.named) (all_needs files)

-- between constants and types; between graphs, by their nodes; between functions, by calls
abbrev pub definition_needs : List File → List Need
definition_needs files = needs_among is_definition files

abbrev pub graph_needs : List File → List Need
graph_needs files = needs_among is_graph files

abbrev pub call_needs : List File → List Need
call_needs files = needs_among is_function files

-- ---- what needs itself

-- from one declaration to another along needs, each told by the place of its name
pub data Reaches (needs : List Need) : Place → Place → Type 0 where
  here : (p : Place) → Reaches needs p p
  along : (n : Need) → (p : Place) → Contains needs n → Reaches needs n.to.word.place p → Reaches needs n.from.word.place p

-- a use at this place is on a cycle that leads through a declaration of this sort, which needs itself
pub record IsOnCycle (needs : List Need) (sort : Named → Bool) (place : Place) : Type 0 where
  pub need : Need
  pub is_need : Contains needs need
  pub at : place ≡ need.at
  pub other : Need
  pub is_other : Contains needs other
  pub sorted : IsTrue (sort other.from.named)
  pub there : Reaches needs need.to.word.place other.from.word.place
  pub back : Reaches needs other.from.word.place need.from.word.place

-- a write in the `init` of a processor, or in a function that it reaches by calls
pub record IsInitWrite (files : List File) (place : Place) : Type 0 where
  pub word : Word
  pub site : Site
  pub is_site : Contains (patch_sites files) site
  pub writes : site.part ≡ Writes word
  pub at : place ≡ word.place
  pub writer : Declared
  pub inside : site.around.inside ≡ Some writer
  pub init : Declared
  pub start : Site
  pub is_start : Contains (patch_sites files) start
  pub inside_init : start.around.inside ≡ Some init
  pub named : IsTrue (is_init init)
  pub reaches : Reaches (call_needs files) init.word.place writer.word.place
