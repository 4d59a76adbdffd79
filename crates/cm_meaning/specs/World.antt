-- The state of a run: docs/LANGUAGE.md, "Frames". Endpoints have their values as lists of scalars, by their numbers.
use Rattle.std.specs.Prelude.{ℕ, List, [], ◌∷◌, ◌++◌, slice_index_or, slice_set, Option, ℤ}
use Rattle.cm_base.specs.declared.place.Place.{Place}
use Rattle.cm_base.specs.declared.play.Item.{Item}
use Rattle.cm_base.specs.Parts.{Inputs}
use Rattle.cm_tree.specs.declared.expr.Expr.{Expr}
use Rattle.cm_tree.specs.declared.simple.Simple.{Simple}
use Rattle.cm_tree.specs.declared.stmt.Stmt.{Stmt}
use Rattle.cm_meaning.specs.Scopes.{Around}
use Rattle.cm_meaning.specs.Stores.{Store}

-- ---- what is still to be done

-- whether the body of a loop is begun: in any case; where a condition holds; where the count is above 0, which it lowers; where
-- the `wrap` has a further value, which it takes
pub data Test : Type 0 where
  Always : Test
  Holds : (condition : Expr) → Test
  Down : (count : Place) → Test
  Next : (variable : Place) → Test

-- a loop: what is round its test and its third part, these two, what is round its body, and the body
pub record Loop : Type 0 where
  pub around : Around
  pub test : Test
  pub third : Option Simple
  pub inside : Around
  pub body : Stmt

-- a statement where it stands; a loop whose body was begun; the mark at which the innermost scope is dropped
pub data Todo : Type 0 where
  Do : (around : Around) → (statement : Stmt) → Todo
  Again : (loop : Loop) → Todo
  Leave : Todo

-- ---- the world

-- A leaf: its store, the rest of its main, and by the number of the endpoint its stream inputs as they were last renewed, the
-- sums of its stream outputs and its value outputs.
pub record LeafState : Type 0 where
  pub store : Store
  pub rest : List Todo
  pub inputs : List (List ℤ)
  pub sums : List (List ℤ)
  pub values : List (List ℤ)

-- what all stream sources have in one frame: the inputs of the host, and the outputs of each leaf
pub record Sources : Type 0 where
  pub host : Inputs
  pub leaves : List (List (List ℤ))

-- The leaves by number; the values of the host, and its streams in this frame; what the sources had in the frames that
-- ended, the last one first; the number of the frame; and the trace so far.
pub record World : Type 0 where
  pub leaves : List LeafState
  pub current : List (List ℤ)
  pub streams : Inputs
  pub history : List Sources
  pub frame : ℕ
  pub trace : List Item

abbrev pub no_leaf : LeafState
no_leaf = record { store = []; rest = []; inputs = []; sums = []; values = [] }

abbrev pub leaf_at : ℕ → World → LeafState
leaf_at i w = slice_index_or w.leaves i no_leaf

abbrev pub with_leaf : ℕ → LeafState → World → World
with_leaf i leaf w = record w { leaves = slice_set w.leaves i leaf }

-- the value of this number
abbrev pub value_at : List (List ℤ) → ℕ → List ℤ
value_at values k = slice_index_or values k []

abbrev pub store_at : ℕ → World → Store
store_at i w = (leaf_at i w).store

abbrev pub with_store : ℕ → Store → World → World
with_store i store w = with_leaf i (record (leaf_at i w) { store = store }) w

abbrev pub with_rest : ℕ → List Todo → World → World
with_rest i rest w = with_leaf i (record (leaf_at i w) { rest = rest }) w

abbrev pub tell : Item → World → World
tell item w = record w { trace = w.trace ++ item ∷ [] }
