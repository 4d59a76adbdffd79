-- A module that breaks a rule isn't valid.
use Rattle.std.proofs.Common.{◌≡◌, ℕ, List, [], ◌∷◌, length, ap, ◌∙◌, subst, arith, inl, inr}
use Rattle.std.specs.Prelude.{Contains, map, codes}
use Rattle.std.specs.List.{AllByRecursion}
use Rattle.std.proofs.lemmas.List.{get_or-map, length-map}
use Rattle.std.proofs.lemmas.List.Elements.{All-from_recursion, All-contains}
use Rattle.wasm_tree.specs.declared.failure.ModuleRule.{ModuleRule}
use Rattle.wasm_tree.specs.declared.failure.ModuleRule.TheVariants as rule
use Rattle.wasm_tree.specs.declared.module.ExportEntry.{ExportEntry}
use Rattle.wasm_tree.specs.declared.module.ExportKind.TheVariants as exported
use Rattle.wasm_tree.specs.declared.module.FuncType.{FuncType}
use Rattle.wasm_tree.specs.declared.module.Module.{Module}
use Rattle.wasm_tree.specs.Section.{CmajorSection}
use Rattle.wasm_tree.specs.Host.{HasExports, IsExported, exported_functions}
use Rattle.wasm_tree.specs.Valid.{Valid}
use Rattle.wasm_tree.specs.Refusal.{Holder, InTypes, InImports, InFunctions, InMemories, InGlobals, InExports, InCodes, InSegments, InCmajor, InSecondCmajor, Missing, BreaksAt, Breaks, Exports, export_names}
use Rattle.wasm_tree.proofs.SectionCodes.{section_unique}

-- an entry is exported under its name
named : (m : Module) (entry : ExportEntry) → Contains m.exports entry → Exports m entry.name
named m entry (k, below, is) =
    let same_length : length (map (λ e. e.name) m.exports) ≡ length m.exports = length-map m.exports (λ (e : ExportEntry). e.name) in
    (k, omega (arith, same_length), get_or-map (λ (e : ExportEntry). e.name) m.exports k entry entry.name below ∙ ap (λ (e : ExportEntry). e.name) is)

functions_named : (m : Module) (wanted : List (List ℕ × FuncType)) → AllByRecursion (IsExported m) wanted → AllByRecursion (Exports m) (map (λ w. w.0) wanted)
functions_named m [] all = tt
functions_named m (w ∷ wanted) all = (named m (record { name = w.0; kind = exported.Function all.0.number }) all.0.entry, functions_named m wanted all.1)

-- a valid module exports something under each name that its section asks for
all_named : (m : Module) (section : CmajorSection) (name : List ℕ) → HasExports m section → Contains (export_names section) name → Exports m name
all_named m section name h wanted =
    All-contains (Exports m) (export_names section) name
    (All-from_recursion (Exports m) (export_names section) (named m (record { name = codes "memory"; kind = exported.Memory 0 }) h.memory, functions_named m (exported_functions section) h.functions)) wanted

invalid_at : (m : Module) (rule : ModuleRule) (part : Holder) (section : CmajorSection) → BreaksAt m rule part → Valid m section → ⊥
invalid_at m rule.Index InImports section b v = b v.index.imports
invalid_at m rule.Index InFunctions section b v = b v.index.functions
invalid_at m rule.Index InExports section b v = b v.index.exports
invalid_at m rule.Index InCodes section b v = b v.index.bodies
invalid_at m rule.Index InSegments section b v = b v.index.segments
invalid_at m rule.Limit InMemories section b v = b.1 v.limit.memory
invalid_at m rule.Limit Missing section b v = let one = v.limit.memory.only in cc
invalid_at m rule.Limit InCodes section b v = b v.limit.bodies
invalid_at m rule.Typing InTypes section b v = b v.typing.types
invalid_at m rule.Typing InGlobals section b v = b v.typing.globals
invalid_at m rule.Typing InCodes section b v = b v.typing.bodies
invalid_at m rule.CallCycle InCodes section b v = b v.call_cycle
invalid_at m rule.Segment InSegments section b v = b v.segment
invalid_at m rule.Interface InImports section b v = b.1 v.interface.imports
invalid_at m rule.Interface InExports section b v =
    b.others (subst (HasExports m) (section_unique m section b.section v.cmajor.described b.described) v.interface.exports)
invalid_at m rule.Interface Missing section (inl none) v = let one = v.interface.imports.only in cc
invalid_at m rule.Interface Missing section (inr b) v =
    b.lacks (all_named m b.section b.name (subst (HasExports m) (section_unique m section b.section v.cmajor.described b.described) v.interface.exports) b.wanted)
invalid_at m rule.Cmajor InCmajor section b v = b.misdescribes section v.cmajor
invalid_at m rule.Cmajor InSecondCmajor section b v = let one = v.cmajor.described.only in let two = b.more in cc
invalid_at m rule.Cmajor Missing section b v = let one = v.cmajor.described.only in cc
invalid_at m rule part section b v = b

pub breaks_invalid : (rule : ModuleRule) (m : Module) (section : CmajorSection) → Breaks rule m → Valid m section → ⊥
breaks_invalid rule m section b v = invalid_at m rule b.0 section b.1 v
