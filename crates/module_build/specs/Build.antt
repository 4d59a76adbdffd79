-- What the module of a patch is built for: docs/PROOFS.md, "The headline".
use Rattle.std.specs.Prelude.{ℕ, ◌≡◌, ◌+◌, ◌/◌, List, [], ◌∷◌, Some}
use Rattle.cm_meaning.specs.Linked.{Linked}
use Rattle.cm_meaning.specs.PatchRun.{patch_source}
use Rattle.patch_sizes.specs.PatchSizes.{cost, memory_bytes}
use Rattle.through_meaning.specs.Patches.{IsThroughPatch}
use Rattle.wasm_tree.specs.declared.module.Module.{Module}
use Rattle.wasm_tree.specs.Keeps.{Keeps}

-- the module keeps the patch: its endpoints in order, its latency, and its runs
abbrev pub KeepsPatch : Linked → Module → Type 0
KeepsPatch patch m = Keeps (patch_source patch (cost patch)) m

-- the pages of the bytes that the patch may use, rounded up
abbrev pub memory_pages : Linked → ℕ
memory_pages patch = (memory_bytes patch + 65535) / 65536

-- the memory has as many pages as the patch's sizes ask for, at the least and at the most
abbrev pub HasPages : Linked → Module → Type 0
HasPages patch m = m.memory ≡ record { min = memory_pages patch; max = Some (memory_pages patch) } ∷ []

-- the module is right for every patch of the form whose endpoints have these names
abbrev pub KeepsForm : (input output : List ℕ) → Module → Type 0
KeepsForm input output m = (patch : Linked) → IsThroughPatch input output patch → KeepsPatch patch m

abbrev pub HasFormPages : (input output : List ℕ) → Module → Type 0
HasFormPages input output m = (patch : Linked) → IsThroughPatch input output patch → HasPages patch m
