-- The rules on parts of a module, as they are tested where `emit` is imported and there is one memory.
use Rattle.std.proofs.Common.{◌≡◌, ◌<◌, ◌≤◌, ◌+◌, ◌*◌, ℕ, suc, List, [], ◌∷◌, length, map, refl, sym, ap, ◌∙◌, subst, arith}
use Rattle.std.specs.List.{AllByRecursion}
use Rattle.std.specs.Int.{w32, cast_unsigned}
use Rattle.wasm_tree.specs.declared.module.ExportEntry.{ExportEntry}
use Rattle.wasm_tree.specs.declared.module.ExportKind.{ExportKind}
use Rattle.wasm_tree.specs.declared.module.ExportKind.TheVariants as exported
use Rattle.wasm_tree.specs.declared.module.Module.{Module}
use Rattle.wasm_tree.specs.Host.{HasImport}
use Rattle.wasm_tree.specs.Numbers.{type_at, memories, function_types, HasExported}
use Rattle.wasm_tree.specs.Valid.{HasMemory, AreExportsIndexed, AreSegmentsIndexed, Segment, memory_size}
use Rattle.wasm_tree.proofs.Imports.{functions_follow, memory_is_own}
use Rattle.wasm_valid.specs.Parts.{IsExportThere}

count_map : {A B : Type 0} (f : A → B) (xs : List A) → length (map f xs) ≡ length xs
count_map f [] = refl
count_map f (x ∷ xs) = ap suc (count_map f xs)

all_change : {A : Type 0} (P Q : A → Type 0) → ((x : A) → P x → Q x) → (xs : List A) → AllByRecursion P xs → AllByRecursion Q xs
all_change P Q f [] all = tt
all_change P Q f (x ∷ xs) all = (f x all.0, all_change P Q f xs all.1)

count_functions : (m : Module) → HasImport m → length (function_types m) ≡ length m.functions + 1
count_functions m import = ap (λ l. length l) (functions_follow m import) ∙ ap suc (count_map (type_at m) m.functions) ∙ omega arith

count_memories : (m : Module) → HasImport m → HasMemory m.memory → length (memories m) ≡ 1
count_memories m import memory = ap (λ l. length l) (memory_is_own m import) ∙ ap (λ l. length l) memory.only

-- ---- exports

there_is : (m : Module) → HasImport m → HasMemory m.memory → (kind : ExportKind) → IsExportThere (length m.functions + 1) kind → HasExported m kind
there_is m import memory (exported.Function number) lt = subst (λ n. number < n) (sym (count_functions m import)) lt
there_is m import memory (exported.Memory number) lt = subst (λ n. number < n) (sym (count_memories m import memory)) lt

there_was : (m : Module) → HasImport m → HasMemory m.memory → (kind : ExportKind) → HasExported m kind → IsExportThere (length m.functions + 1) kind
there_was m import memory (exported.Function number) lt = subst (λ n. number < n) (count_functions m import) lt
there_was m import memory (exported.Memory number) lt = subst (λ n. number < n) (count_memories m import memory) lt

pub exports_are : (m : Module) → HasImport m → HasMemory m.memory → AllByRecursion (λ entry. IsExportThere (length m.functions + 1) entry.kind) m.exports → AreExportsIndexed m
exports_are m import memory all = all_change (λ (entry : ExportEntry). IsExportThere (length m.functions + 1) entry.kind) (λ entry. HasExported m entry.kind) (λ entry. there_is m import memory entry.kind) m.exports all

pub exports_were : (m : Module) → HasImport m → HasMemory m.memory → AreExportsIndexed m → AllByRecursion (λ entry. IsExportThere (length m.functions + 1) entry.kind) m.exports
exports_were m import memory all = all_change (λ (entry : ExportEntry). HasExported m entry.kind) (λ entry. IsExportThere (length m.functions + 1) entry.kind) (λ entry. there_was m import memory entry.kind) m.exports all

-- ---- segments

pub segments_are : (m : Module) → HasImport m → HasMemory m.memory → AllByRecursion (λ segment. segment.memory < 1) m.segments → AreSegmentsIndexed m
segments_are m import memory all = subst (λ n. AllByRecursion (λ segment. segment.memory < n) m.segments) (sym (count_memories m import memory)) all

pub segments_were : (m : Module) → HasImport m → HasMemory m.memory → AreSegmentsIndexed m → AllByRecursion (λ segment. segment.memory < 1) m.segments
segments_were m import memory all = subst (λ n. AllByRecursion (λ segment. segment.memory < n) m.segments) (count_memories m import memory) all

pub data_fits : (m : Module) (pages : ℕ) → pages * 65536 ≡ memory_size m.memory → AllByRecursion (λ segment. cast_unsigned w32 segment.offset + length segment.bytes ≤ pages * 65536) m.segments → Segment m
data_fits m pages e all = subst (λ n. AllByRecursion (λ segment. cast_unsigned w32 segment.offset + length segment.bytes ≤ n) m.segments) e all

pub data_fitted : (m : Module) (pages : ℕ) → pages * 65536 ≡ memory_size m.memory → Segment m → AllByRecursion (λ segment. cast_unsigned w32 segment.offset + length segment.bytes ≤ pages * 65536) m.segments
data_fitted m pages e all = subst (λ n. AllByRecursion (λ segment. cast_unsigned w32 segment.offset + length segment.bytes ≤ n) m.segments) (sym e) all
