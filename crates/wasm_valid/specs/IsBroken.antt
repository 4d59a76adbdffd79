-- What a check tells of a module that breaks a rule.
use Rattle.wasm_tree.specs.declared.module.Module.{Module}
use Rattle.wasm_tree.specs.Refusal.{Holder, InTypes, InImports, InFunctions, InMemories, InGlobals, InExports, InCodes, InSegments, InCmajor, InSecondCmajor, Missing, BreaksAt}
use Rattle.wasm_valid.specs.declared.broken.Part.{Part}
use Rattle.wasm_valid.specs.declared.broken.Part.TheVariants as part
use Rattle.wasm_valid.specs.declared.broken.Broken.{Broken}
use Rattle.wasm_valid.specs.declared.broken.Broken.TheVariants as broken

abbrev pub holder_of : Part → Holder
holder_of part.Types = InTypes
holder_of part.Imports = InImports
holder_of part.Functions = InFunctions
holder_of part.Memories = InMemories
holder_of part.Globals = InGlobals
holder_of part.Exports = InExports
holder_of part.Codes = InCodes
holder_of part.Segments = InSegments
holder_of part.Cmajor = InCmajor
holder_of part.SecondCmajor = InSecondCmajor
holder_of part.Missing = Missing

-- the part breaks the rule; want of memory tells nothing of the module
abbrev pub IsBroken : Module → Broken → Type 0
IsBroken m (broken.Rule rule part) = BreaksAt m rule (holder_of part)
IsBroken m broken.NoMemory = Unit {0}
