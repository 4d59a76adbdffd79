-- When a module is valid: Core Specification 1.0, chapter 3, for the subset of docs/MODULE.md, with its
-- limits, no function that calls itself through a chain of calls, and the interface to the host. One predicate for
-- each rule by which a module is refused: docs/MODULE.md, "What is refused".
use Rattle.std.specs.Prelude.{ℕ, ◌≡◌, ◌+◌, ◌*◌, ◌<◌, ◌≤◌, List, [], ◌∷◌, ◌++◌, length, reverse, take, slice_get, Contains, Some, IfSome, Bool, false}
use Rattle.std.specs.List.{AllByRecursion}
use Rattle.std.specs.Int.{w32, cast_unsigned}
use Rattle.wasm_tree.specs.declared.module.ValType.{ValType}
use Rattle.wasm_tree.specs.declared.module.ValType.TheVariants.{I32, I64}
use Rattle.wasm_tree.specs.declared.module.FuncType.{FuncType}
use Rattle.wasm_tree.specs.declared.module.Limits.{Limits}
use Rattle.wasm_tree.specs.declared.module.FuncBody.{FuncBody}
use Rattle.wasm_tree.specs.declared.module.Module.{Module}
use Rattle.wasm_tree.specs.declared.instr.Instr.{Instr}
use Rattle.wasm_tree.specs.declared.instr.Instr.TheVariants as instr
use Rattle.wasm_tree.specs.Reduce.{Seq, pieces, page_size}
use Rattle.wasm_tree.specs.Control.{IsOpen, IsClosed}
use Rattle.wasm_tree.specs.Spelled.{most_locals, count_of_locals}
use Rattle.wasm_tree.specs.Section.{CmajorSection, IsSection, AreWithin}
use Rattle.wasm_tree.specs.Typed.{Typed}
use Rattle.wasm_tree.specs.Host.{HasImport, HasExports}
pub use Rattle.wasm_tree.specs.Numbers.{no_type, emit_type, type_at, function_types, code_of, declared_locals, memories, IsThere, counts, HasImportedType, HasExported}

-- each function has a body, and P holds of its type and its body
abbrev pub EachBody : (FuncType → FuncBody → Type 0) → Module → List ℕ → List FuncBody → Type 0
EachBody P m [] bodies = bodies ≡ []
EachBody P m (type ∷ types) [] = ⊥
EachBody P m (type ∷ types) (body ∷ bodies) = P (type_at m type) body × EachBody P m types bodies

abbrev pub AllBodies : (FuncType → FuncBody → Type 0) → Module → Type 0
AllBodies P m = EachBody P m m.functions m.codes

-- ---- Index: each number that is used is that of something that is there (3.1, "Contexts")

-- each instruction names what is there, where as many sequences are open as the code before it leaves open
abbrev pub IsIndexed : Module → FuncType → FuncBody → Type 0
IsIndexed m type body =
    (place : ℕ) (i : Instr) (arms : List Bool) → slice_get body.code place ≡ Some i → IsOpen (take place body.code) arms →
    IsThere (counts m type body (length arms)) i

abbrev pub AreImportsIndexed : Module → Type 0
AreImportsIndexed m = AllByRecursion (λ import. HasImportedType m import.kind) m.imports

abbrev pub AreFunctionsIndexed : Module → Type 0
AreFunctionsIndexed m = AllByRecursion (λ type. type < length m.types) m.functions

abbrev pub AreExportsIndexed : Module → Type 0
AreExportsIndexed m = AllByRecursion (λ entry. HasExported m entry.kind) m.exports

abbrev pub AreBodiesIndexed : Module → Type 0
AreBodiesIndexed m = AllBodies (IsIndexed m) m

abbrev pub AreSegmentsIndexed : Module → Type 0
AreSegmentsIndexed m = AllByRecursion (λ segment. segment.memory < length (memories m)) m.segments

pub record Index (m : Module) : Type 0 where
  pub imports : AreImportsIndexed m
  pub functions : AreFunctionsIndexed m
  pub exports : AreExportsIndexed m
  pub bodies : AreBodiesIndexed m
  pub segments : AreSegmentsIndexed m

-- ---- Limit: one memory, pages, locals and nesting (docs/MODULE.md, "What a module may contain")

-- at most 256 pages
pub record IsMemory (limits : Limits) : Type 0 where
  pub few : limits.min ≤ 256
  pub most : IfSome limits.max (λ most. (limits.min ≤ most) × (most ≤ 256))

-- there is one memory
pub record HasMemory (own : List Limits) : Type 0 where
  pub limits : Limits
  pub only : own ≡ limits ∷ []
  pub lawful : IsMemory limits

-- few locals are declared, and no sequence is open too deep, which closed code has none of
pub record IsBodyWithinLimits (body : FuncBody) : Type 0 where
  pub locals : count_of_locals body.locals ≤ most_locals
  pub nesting : IsClosed body.code

abbrev pub AreBodiesWithinLimits : Module → Type 0
AreBodiesWithinLimits m = AllByRecursion IsBodyWithinLimits m.codes

pub record Limit (m : Module) : Type 0 where
  pub memory : HasMemory m.memory
  pub bodies : AreBodiesWithinLimits m

-- ---- Typing: results, first values of globals, and bodies (3.2.3, 3.4.1, 3.4.4)

-- a function of this type may have this body
pub record IsBody (m : Module) (type : FuncType) (body : FuncBody) : Type 0 where
  pub tree : Seq
  pub spells : pieces body.code ≡ record { arm = false; rest = tree } ∷ []
  pub typed : Typed (record { functions = function_types m; locals = type.params ++ declared_locals body.locals; globals = m.globals; results = type.results }) (reverse type.results ∷ []) tree [] (reverse type.results)
  pub closed : IsClosed body.code

abbrev pub IsConstantOf : ValType → Instr → Type 0
IsConstantOf I32 (instr.I32Const value) = Unit {0}
IsConstantOf I64 (instr.I64Const value) = Unit {0}
IsConstantOf type _ = ⊥

abbrev pub HaveFewResults : Module → Type 0
HaveFewResults m = AllByRecursion (λ type. length type.results ≤ 1) m.types

abbrev pub AreGlobalsTyped : Module → Type 0
AreGlobalsTyped m = AllByRecursion (λ global. IsConstantOf global.ty global.value) m.globals

abbrev pub AreBodiesTyped : Module → Type 0
AreBodiesTyped m = AllBodies (IsBody m) m

pub record Typing (m : Module) : Type 0 where
  pub types : HaveFewResults m
  pub globals : AreGlobalsTyped m
  pub bodies : AreBodiesTyped m

-- ---- CallCycle: no function calls itself (this project's own limit)

-- f calls g
abbrev pub Calls : Module → ℕ → ℕ → Type 0
Calls m f g = Contains (code_of m f) (instr.Call g)

-- f calls the first of these functions, each calls the next, and the last calls g
abbrev pub CallsThrough : Module → ℕ → List ℕ → ℕ → Type 0
CallsThrough m f [] g = Calls m f g
CallsThrough m f (h ∷ hs) g = Calls m f h × CallsThrough m h hs g

abbrev pub CallCycle : Module → Type 0
CallCycle m = (f : ℕ) (between : List ℕ) → CallsThrough m f between f → ⊥

-- ---- Segment: data lies in the memory's minimum size (3.4.6; this project asks it of the module itself)

-- the bytes that the memory has at the least
abbrev pub memory_size : List Limits → ℕ
memory_size [] = 0
memory_size (limits ∷ others) = limits.min * page_size

abbrev pub Segment : Module → Type 0
Segment m = AllByRecursion (λ segment. cast_unsigned w32 segment.offset + length segment.bytes ≤ memory_size m.memory) m.segments

-- ---- Interface: imports and exports (docs/MODULE.md, "Imports and exports")

pub record Interface (m : Module) (section : CmajorSection) : Type 0 where
  pub imports : HasImport m
  pub exports : HasExports m section

-- ---- Cmajor: the section that tells a host of the endpoints (docs/MODULE.md, "The section" and "Slots")

pub record Cmajor (m : Module) (section : CmajorSection) : Type 0 where
  pub described : IsSection m section
  pub slots : AreWithin (memory_size m.memory) section

-- ---- modules (3.4.10)

pub record Valid (m : Module) (section : CmajorSection) : Type 0 where
  pub index : Index m
  pub limit : Limit m
  pub typing : Typing m
  pub call_cycle : CallCycle m
  pub segment : Segment m
  pub interface : Interface m section
  pub cmajor : Cmajor m section
