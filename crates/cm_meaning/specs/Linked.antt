-- A patch with its leaves and chains, and what the chains carry: docs/LANGUAGE.md, "Frames". What chains carry is a list of
-- scalars.
use Rattle.std.specs.Prelude.{ℕ, zero, suc, ◌+◌, ◌==◌, ◌&&◌, Bool, if◌then◌else◌, List, [], ◌∷◌, map, length, replicate, take, drop, zip, position, Option, Some, None, unwrap_or, slice_get, slice_index_or, ℤ, pos, ◌+ℤ◌}
use Rattle.cm_base.specs.declared.host.Scalar.{Scalar}
use Rattle.cm_tree.specs.declared.file.File.{File}
use Rattle.cm_scalar.specs.Scalars.{converted}
use Rattle.cm_meaning.specs.Declared.{Declared}
use Rattle.cm_meaning.specs.Types.{CmType, Single, Array, Record, FieldTypes, NoFields, Field, is_place, scalars, scalar_value, Value, Many, Values, NoValues, Then}
use Rattle.cm_meaning.specs.Instances.{Instance}
use Rattle.cm_meaning.specs.Nodes.{Tree, root, End, ends_of, Leaf, leaves_of, latency_of}
use Rattle.cm_meaning.specs.Chains.{Point, Chain, leaf_ends, chains_of}
use Rattle.cm_meaning.specs.Turns.{order_of, arrival, extra_of, same_leaf}
use Rattle.cm_meaning.specs.World.{World, Sources, LeafState, leaf_at, value_at}

-- a patch, its main instance with its endpoints, its leaves and chains, their extra delays, the order in which the leaves take
-- their turns, and its latency
pub record Linked : Type 0 where
  pub files : List File
  pub main : Instance
  pub host : List End
  pub leaves : List Leaf
  pub chains : List Chain
  pub extra : List ℕ
  pub order : List ℕ
  pub latency : ℕ

abbrev pub latency_at : List File → List Leaf → ℕ → ℕ
latency_at files leaves i = by (slice_get leaves i) where
  by : Option Leaf → ℕ
  by None = 0
  by (Some leaf) = latency_of files leaf

abbrev pub linked_by : List File → Instance → List Leaf → List Chain → Linked
linked_by files main leaves chains =
    record {
      files = files;
      main = main;
      host = ends_of files main;
      leaves = leaves;
      chains = chains;
      extra = map (extra_of (length leaves) (latency_at files leaves) chains) chains;
      order = order_of chains (length leaves);
      latency = arrival (length leaves) (latency_at files leaves) chains None;
    }

-- the patch whose instances are this tree
abbrev pub linked : List File → Tree → Linked
linked files tree = linked_by files (root tree) (leaves_of files tree) (chains_of files tree)

-- ---- scalars and values

abbrev pub first_scalar : List ℤ → ℤ
first_scalar given = slice_index_or given 0 (pos 0)

-- so many values, each of as many scalars as this
abbrev pub values_from : (List ℤ → Value) → ℕ → ℕ → List ℤ → Values
values_from f size zero given = NoValues
values_from f size (suc n) given = Then (f (take size given)) (values_from f size n (drop size given))

-- the value of a type that has these scalars, from left to right
abbrev mutual
  pub value_from : CmType → List ℤ → Value
  value_from (Single k) given = scalar_value k (first_scalar given)
  value_from (Array n t) given = Many (values_from (value_from t) (scalars t) n given)
  value_from (Record p fields) given = Many (fields_from fields given)

  pub fields_from : FieldTypes → List ℤ → Values
  fields_from NoFields given = NoValues
  fields_from (Field n t others) given = Then (value_from t (take (scalars t) given)) (fields_from others (drop (scalars t) given))

abbrev pub zeros : ℕ → List ℤ
zeros count = replicate count (pos 0)

-- the sum, scalar by scalar, each wrapping in its kind
abbrev pub sum_of : List Scalar → List ℤ → List ℤ → List ℤ
sum_of [] xs ys = []
sum_of (kind ∷ kinds) [] ys = []
sum_of (kind ∷ kinds) (x ∷ xs) [] = []
sum_of (kind ∷ kinds) (x ∷ xs) (y ∷ ys) = converted kind (x +ℤ y) ∷ sum_of kinds xs ys

-- ---- endpoints

-- the number of an endpoint among those of its leaf
abbrev pub number_among : List End → Declared → ℕ
number_among ends x = unwrap_or (position (λ (end : End). is_place end.declared.word.place x.word.place) ends) (length ends)

abbrev pub ends_at : Linked → ℕ → List End
ends_at l i = leaf_ends l.leaves i

abbrev pub is_point : Point → Point → Bool
is_point a b = same_leaf a.leaf b.leaf && (a.end == b.end)

-- ---- streams

-- what all stream sources have in this frame so far
abbrev pub now : World → Sources
now w = record { host = w.streams; leaves = map (λ (leaf : LeafState). leaf.sums) w.leaves }

abbrev pub source_of : Sources → Point → List ℤ
source_of sources p = by p.leaf where
  by : Option ℕ → List ℤ
  by None = value_at sources.host p.end
  by (Some i) = value_at (slice_index_or sources.leaves i []) p.end

abbrev pub source_then : Chain → Option Sources → List ℤ
source_then c None = zeros (length c.shape)
source_then c (Some sources) = source_of sources c.from

-- what a chain carries now: its source's value so many frames ago, its delay and its extra delay together, and zero
-- before frame 0
abbrev pub carried : World → Chain × ℕ → List ℤ
carried w c = source_then c.0 (slice_get (now w ∷ w.history) (c.0.delay + c.1))

-- the sum of what chains carry to a point
abbrev pub arriving : List (Chain × ℕ) → Point → List Scalar → World → List ℤ
arriving [] to shape w = zeros (length shape)
arriving (c ∷ chains) to shape w = if is_point c.0.to to then sum_of shape (carried w c) (arriving chains to shape w) else arriving chains to shape w

abbrev pub stream_to : Linked → Point → List Scalar → World → List ℤ
stream_to l to shape w = arriving (zip l.chains l.extra) to shape w

-- ---- values

-- the current value of a value input of the host or a value output of a leaf
abbrev pub current_of : World → Point → List ℤ
current_of w p = by p.leaf where
  by : Option ℕ → List ℤ
  by None = value_at w.current p.end
  by (Some i) = value_at (leaf_at i w).values p.end

abbrev pub current_along : List Chain → Point → List Scalar → World → List ℤ
current_along [] to shape w = zeros (length shape)
current_along (c ∷ chains) to shape w = if is_point c.to to then current_of w c.from else current_along chains to shape w

-- the current value of the source of a point, and zero without one
abbrev pub value_to : Linked → Point → List Scalar → World → List ℤ
value_to l to shape w = current_along l.chains to shape w
