-- The world of a run of a program: docs/LANGUAGE.md, "Frames".
use Rattle.std.specs.Prelude.{ℕ, ◌+◌, List, [], ◌∷◌, ◌++◌, take, drop, length, slice_index_or, slice_set, ℤ}
use Rattle.cm_base.specs.declared.play.Item.{Item}
use Rattle.cm_base.specs.Parts.{Inputs}
use Rattle.cm_core.specs.Code.{Stmt, Test}

-- what is still to be done: a statement, or a loop whose body was begun, with what is done after each body
pub data Todo : Type 0 where
  Do : (statement : Stmt) → Todo
  Again : (test : Test) → (step body : Stmt) → Todo

-- A leaf: its variables by number, the rest of its main, and by the number of the endpoint its stream inputs as they were
-- last renewed, the sums of its stream outputs and its value outputs.
pub record LeafState : Type 0 where
  pub store : List (List ℤ)
  pub rest : List Todo
  pub inputs : List (List ℤ)
  pub sums : List (List ℤ)
  pub values : List (List ℤ)

-- what all stream sources have in one frame: the inputs of the host, and the outputs of each leaf
pub record Sources : Type 0 where
  pub host : Inputs
  pub leaves : List (List (List ℤ))

-- The leaves by number; the values of the host, and its streams in this frame; what the sources had in the frames that
-- ended, the last one first; the number of the frame; and the trace so far.
pub record World : Type 0 where
  pub leaves : List LeafState
  pub current : List (List ℤ)
  pub streams : Inputs
  pub history : List Sources
  pub frame : ℕ
  pub trace : List Item

abbrev pub no_leaf : LeafState
no_leaf = record { store = []; rest = []; inputs = []; sums = []; values = [] }

abbrev pub leaf_at : ℕ → World → LeafState
leaf_at i w = slice_index_or w.leaves i no_leaf

abbrev pub with_leaf : ℕ → LeafState → World → World
with_leaf i leaf w = record w { leaves = slice_set w.leaves i leaf }

-- the value of this number
abbrev pub value_at : List (List ℤ) → ℕ → List ℤ
value_at values k = slice_index_or values k []

-- a variable of a leaf
abbrev pub variable_at : ℕ → ℕ → World → List ℤ
variable_at i x w = value_at (leaf_at i w).store x

abbrev pub with_store : ℕ → List (List ℤ) → World → World
with_store i store w = with_leaf i (record (leaf_at i w) { store = store }) w

abbrev pub put : ℕ → ℕ → List ℤ → World → World
put i x value w = with_store i (slice_set (leaf_at i w).store x value) w

-- the variables from this number on
abbrev pub put_all : ℕ → ℕ → List (List ℤ) → World → World
put_all i x [] w = w
put_all i x (value ∷ values) w = put_all i (x + 1) values (put i x value w)

-- so many scalars from the place on, and a value with those of another one there
abbrev pub part_at : ℕ → ℕ → List ℤ → List ℤ
part_at start count value = take count (drop start value)

abbrev pub with_part : ℕ → List ℤ → List ℤ → List ℤ
with_part start part value = take start value ++ (part ++ drop (start + length part) value)

abbrev pub with_rest : ℕ → List Todo → World → World
with_rest i rest w = with_leaf i (record (leaf_at i w) { rest = rest }) w

abbrev pub tell : Item → World → World
tell item w = record w { trace = w.trace ++ item ∷ [] }
