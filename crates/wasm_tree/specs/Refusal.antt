-- How a module that its bytes spell breaks a rule of validity, and at which byte: docs/MODULE.md, "What is refused".
use Rattle.std.specs.Prelude.{ℕ, ◌≡◌, ◌≢◌, ◌⊎◌, List, [], ◌∷◌, ◌++◌, length, map, Contains, IsTrue, codes}
use Rattle.std.specs.List.{AllByRecursion}
use Rattle.wasm_tree.specs.declared.failure.ModuleRule.{ModuleRule}
use Rattle.wasm_tree.specs.declared.failure.ModuleRule.TheVariants as rule
use Rattle.wasm_tree.specs.declared.failure.ModuleRefused.{ModuleRefused}
use Rattle.wasm_tree.specs.declared.module.Custom.{Custom}
use Rattle.wasm_tree.specs.declared.module.Module.{Module}
use Rattle.wasm_tree.specs.Spelled.{Joined, Is, Each, Raw, RawSection, CustomsAre, Custom_contents, header, is_cmajor}
use Rattle.wasm_tree.specs.Section.{CmajorSection, IsSection, named_cmajor}
use Rattle.wasm_tree.specs.Host.{HasImport, HasExports, exported_functions}
use Rattle.wasm_tree.specs.Valid.{AreImportsIndexed, AreFunctionsIndexed, AreExportsIndexed, AreBodiesIndexed, AreSegmentsIndexed, HasMemory, AreBodiesWithinLimits, HaveFewResults, AreGlobalsTyped, AreBodiesTyped, CallCycle, Segment, Cmajor}

-- ---- which rule is broken, and where

-- what holds the part of a module that breaks a rule: a section by what it lists, the section `cmajor`, or, where it has
-- more of them, the second. Or something is missing
pub data Holder : Type 0 where
  InTypes : Holder
  InImports : Holder
  InFunctions : Holder
  InMemories : Holder
  InGlobals : Holder
  InExports : Holder
  InCodes : Holder
  InSegments : Holder
  InCmajor : Holder
  InSecondCmajor : Holder
  Missing : Holder

-- the names under which a module with this section exports
abbrev pub export_names : CmajorSection → List (List ℕ)
export_names section = codes "memory" ∷ map (λ wanted. wanted.0) (exported_functions section)

abbrev pub Exports : Module → List ℕ → Type 0
Exports m name = Contains (map (λ entry. entry.name) m.exports) name

-- nothing is exported under a name that the section asks for
pub record LacksExport (m : Module) : Type 0 where
  pub section : CmajorSection
  pub described : IsSection m section
  pub name : List ℕ
  pub wanted : Contains (export_names section) name
  pub lacks : Exports m name → ⊥

-- something is exported under each name, and yet the exports aren't those that the section asks for
pub record HasOtherExports (m : Module) : Type 0 where
  pub section : CmajorSection
  pub described : IsSection m section
  pub complete : AllByRecursion (Exports m) (export_names section)
  pub others : HasExports m section → ⊥

-- the section `cmajor` isn't as it must be
pub record IsMisdescribed (m : Module) : Type 0 where
  pub custom : Custom
  pub only : named_cmajor m.customs ≡ custom ∷ []
  pub misdescribes : (section : CmajorSection) → Cmajor m section → ⊥

-- there are two sections `cmajor`, or more
pub record HasSecondCmajor (m : Module) : Type 0 where
  pub first : Custom
  pub second : Custom
  pub others : List Custom
  pub more : named_cmajor m.customs ≡ first ∷ second ∷ others

-- something that this section holds breaks the rule. The rules that aren't named are those of the binary format
abbrev pub BreaksAt : Module → ModuleRule → Holder → Type 0
BreaksAt m rule.Index InImports = AreImportsIndexed m → ⊥
BreaksAt m rule.Index InFunctions = AreFunctionsIndexed m → ⊥
BreaksAt m rule.Index InExports = AreExportsIndexed m → ⊥
BreaksAt m rule.Index InCodes = AreBodiesIndexed m → ⊥
BreaksAt m rule.Index InSegments = AreSegmentsIndexed m → ⊥
BreaksAt m rule.Limit InMemories = (m.memory ≢ []) × (HasMemory m.memory → ⊥)
BreaksAt m rule.Limit Missing = m.memory ≡ []
BreaksAt m rule.Limit InCodes = AreBodiesWithinLimits m → ⊥
BreaksAt m rule.Typing InTypes = HaveFewResults m → ⊥
BreaksAt m rule.Typing InGlobals = AreGlobalsTyped m → ⊥
BreaksAt m rule.Typing InCodes = AreBodiesTyped m → ⊥
BreaksAt m rule.CallCycle InCodes = CallCycle m → ⊥
BreaksAt m rule.Segment InSegments = Segment m → ⊥
BreaksAt m rule.Interface InImports = (m.imports ≢ []) × (HasImport m → ⊥)
BreaksAt m rule.Interface InExports = HasOtherExports m
BreaksAt m rule.Interface Missing = (m.imports ≡ []) ⊎ LacksExport m
BreaksAt m rule.Cmajor InCmajor = IsMisdescribed m
BreaksAt m rule.Cmajor InSecondCmajor = HasSecondCmajor m
BreaksAt m rule.Cmajor Missing = named_cmajor m.customs ≡ []
BreaksAt m _ _ = ⊥

-- the module breaks the rule
abbrev pub Breaks : ModuleRule → Module → Type 0
Breaks rule m = (holder : Holder) × BreaksAt m rule holder

-- ---- at which byte

-- the section stands behind these, and its id byte has this offset
pub record StandsAt (before : List Raw) (raw : Raw) (offset : ℕ) (bytes : List ℕ) : Type 0 where
  pub after : List Raw
  pub front : List ℕ
  pub back : List ℕ
  pub whole : bytes ≡ front ++ back
  pub behind : Joined (Is header) (Each RawSection before) front
  pub begins : Each RawSection (raw ∷ after) back
  pub at : offset ≡ length front

-- a section with this id has its id byte at the offset
pub record IsSectionAt (id offset : ℕ) (bytes : List ℕ) : Type 0 where
  pub before : List Raw
  pub raw : Raw
  pub stands : StandsAt before raw offset bytes
  pub has : raw.id ≡ id

-- a section `cmajor` behind so many others of its name has its id byte at the offset
pub record IsCmajorAt (others offset : ℕ) (bytes : List ℕ) : Type 0 where
  pub before : List Raw
  pub raw : Raw
  pub stands : StandsAt before raw offset bytes
  pub id : raw.id ≡ 0
  pub custom : Custom
  pub contents : Custom_contents custom raw.contents
  pub name : IsTrue (is_cmajor custom.name)
  pub customs : List Custom
  pub found : CustomsAre before customs
  pub behind : length (named_cmajor customs) ≡ others

-- the offset of the section that holds the part, and the file's length for what is missing
abbrev pub IsOffset : Holder → ℕ → List ℕ → Type 0
IsOffset InTypes = IsSectionAt 1
IsOffset InImports = IsSectionAt 2
IsOffset InFunctions = IsSectionAt 3
IsOffset InMemories = IsSectionAt 5
IsOffset InGlobals = IsSectionAt 6
IsOffset InExports = IsSectionAt 7
IsOffset InCodes = IsSectionAt 10
IsOffset InSegments = IsSectionAt 11
IsOffset InCmajor = IsCmajorAt 0
IsOffset InSecondCmajor = IsCmajorAt 1
IsOffset Missing = λ offset bytes. offset ≡ length bytes

-- a module that these bytes spell is refused by a rule that it breaks, at the byte where it does
pub record IsRefusal (refused : ModuleRefused) (m : Module) (bytes : List ℕ) : Type 0 where
  pub holder : Holder
  pub breaks : BreaksAt m refused.rule holder
  pub place : IsOffset holder refused.offset bytes
