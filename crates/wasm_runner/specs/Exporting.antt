-- What a host calls of a module, and under which names: docs/MODULE.md, "Imports and exports".
use Rattle.std.specs.Prelude.{ℕ, ◌≡◌, ◌<◌, ◌≤◌, List, [], ◌∷◌, ◌++◌, codes}
use Rattle.std.specs.Fmt.{decimal}
use Rattle.wasm_tree.specs.declared.interface.Interface.{Interface}
use Rattle.wasm_tree.specs.declared.interface.Interface.TheVariants.{Single, Blocks}
use Rattle.wasm_tree.specs.Host.{event_inputs}
use Rattle.wasm_tree.specs.Section.{CmajorSection, ends_of}
use Rattle.wasm_runner.specs.declared.export.Export.{Export}
use Rattle.wasm_runner.specs.declared.export.Export.TheVariants as entry

abbrev pub name_of : Export → List ℕ
name_of entry.Init = codes "init"
name_of entry.Frame = codes "frame"
name_of (entry.Event number) = codes "e" ++ decimal number
name_of (entry.Frames count) = codes "frames"

abbrev pub given_to : Export → List ℕ
given_to (entry.Frames count) = count ∷ []
given_to _ = []

-- a call of `frames` is for one frame at the least, and for the block's length at the most
abbrev pub TakesFrames : Interface → ℕ → Type 0
TakesFrames Single count = ⊥
TakesFrames (Blocks block) count = (1 ≤ count) × (count ≤ block)

-- the module exports it: `init`, the frame function of its interface, and an `e` for each event input
abbrev pub Offers : CmajorSection → Export → Type 0
Offers section entry.Init = Unit {0}
Offers section entry.Frame = section.interface ≡ Single
Offers section (entry.Event number) = number < event_inputs (ends_of section)
Offers section (entry.Frames count) = TakesFrames section.interface count
