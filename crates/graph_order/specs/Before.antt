-- Which leaf of a flat graph is before which: docs/LANGUAGE.md, "Graphs".
use Rattle.std.specs.Prelude.{ℕ, Bool, true, false, ◌≡◌, ◌==◌, ◌&&◌, List, Option, Some, None, map}
use Rattle.std.specs.List.{list_any}
use Rattle.cm_base.specs.declared.place.LeafId.{LeafId}
use Rattle.cm_core.specs.declared.flat.Flat.{Flat}
use Rattle.cm_core.specs.declared.flat.Chain.{Chain}

-- whether a point is one of this leaf, and not of another or of the host
abbrev pub is_of : ℕ → Option LeafId → Bool
is_of leaf None = false
is_of leaf (Some id) = id.0 == leaf

-- whether the chain, of any kind, is undelayed and leads from leaf p to leaf q
abbrev pub leads : ℕ → ℕ → Chain → Bool
leads p q chain = (chain.delay == 0) && (is_of p chain.from.leaf && is_of q chain.to.leaf)

abbrev pub IsBefore : Flat → ℕ → ℕ → Type 0
IsBefore flat p q = list_any (leads p q) flat.chains ≡ true

-- the numbers of leaves
abbrev pub numbers : List LeafId → List ℕ
numbers ids = map (λ id. id.0) ids
