-- What a module exports under the names that a host asks for.
use Rattle.std.proofs.Common.{◌≡◌, ◌<◌, ◌+◌, ℕ, zero, suc, List, [], ◌∷◌, ◌++◌, length, get_or, map, Some, Result, Ok, Err, refl, sym, ap, ◌∙◌, subst, arith, inl, inr, append_assoc}
use Rattle.std.specs.Prelude.{Contains, slice_get, IfOk, codes}
use Rattle.std.specs.List.{AllByRecursion}
use Rattle.std.specs.Fmt.{decimal}
use Rattle.std.proofs.lemmas.List.Elements.{Contains-append_left, Contains-push}
use Rattle.cm_base.specs.HostEnds.{AreDistinct}
use Rattle.cm_base.specs.declared.failure.NoMemory.{NoMemory}
use Rattle.wasm_tree.specs.declared.module.FuncType.{FuncType}
use Rattle.wasm_tree.specs.declared.module.ExportEntry.{ExportEntry}
use Rattle.wasm_tree.specs.declared.module.ExportKind.{ExportKind}
use Rattle.wasm_tree.specs.declared.module.ExportKind.TheVariants as exported
use Rattle.wasm_tree.specs.declared.module.Module.{Module}
use Rattle.wasm_tree.specs.Numbers.{no_type, function_types}
use Rattle.wasm_tree.specs.Host.{IsExported, event_exports, exported_functions, event_inputs}
use Rattle.wasm_tree.specs.Refusal.{Exports}
use Rattle.wasm_tree.specs.Section.{CmajorSection, ends_of}
use Rattle.wasm_valid.specs.declared.exports.Found.{Found}
use Rattle.wasm_valid.specs.declared.exports.Found.TheVariants as found
use Rattle.wasm_valid.specs.Exported.{entry_names, memory_entry, TellsFunction, TellsFunctions, TellsMemory, TellsExports}
use Rattle.wasm_valid.proofs.NameLemmas.{all_more, all_before, all_contained, in_front, behind, contains_cases, contains_none}

-- ---- entries by their names

pub entry_within : (entries : List ExportEntry) (k : ℕ) (name : List ℕ) → slice_get (entry_names entries) k ≡ Some name → k < length entries
entry_within [] k name e = absurd cc
entry_within (x ∷ entries) zero name e = omega arith
entry_within (x ∷ entries) (suc k) name e = let i = entry_within entries k name e in omega arith

entry : List ℕ → ExportKind → ExportEntry
entry name kind = record { name = name; kind = kind }

some_is : (x y : List ℕ) → Some x ≡ Some y → x ≡ y
some_is x y e = cc

pub entry_there : (entries : List ExportEntry) (k : ℕ) (name : List ℕ) (x : ExportEntry) → slice_get (entry_names entries) k ≡ Some name → x ≡ get_or entries k x → Contains entries (record { name = name; kind = x.kind })
entry_there [] k name x e is = absurd cc
entry_there (y ∷ entries) zero name x e is =
    let same : record { name = name; kind = x.kind } ≡ y = ap (λ (n : List ℕ). record { name = n; kind = x.kind }) (sym (some_is y.name name e)) ∙ ap (λ (z : ExportEntry). record { name = y.name; kind = z.kind }) is in
    subst (λ z. Contains (y ∷ entries) z) (sym same) (in_front y entries)
entry_there (y ∷ entries) (suc k) name x e is = behind y entries (record { name = name; kind = x.kind }) (entry_there entries k name x e is)

pub is_named : (entries : List ExportEntry) (x : ExportEntry) → Contains entries x → Contains (entry_names entries) x.name
is_named [] x c = absurd (contains_none x c)
is_named (y ∷ entries) x c = elim (contains_cases y entries x c) [
  | inl e ↦ subst (λ (n : List ℕ). Contains (y.name ∷ entry_names entries) n) (ap (λ (z : ExportEntry). z.name) e) (in_front y.name (entry_names entries))
  | inr h ↦ behind y.name (entry_names entries) x.name (is_named entries x h)
]

not_twice : (entries : List ExportEntry) (x y : ExportEntry) → AreDistinct (entry_names (x ∷ entries)) → Contains entries y → x.name ≡ y.name → ⊥
not_twice entries x y distinct c e = all_contained (λ other. other ≡ x.name → ⊥) (entry_names entries) y.name distinct.0 (is_named entries y c) (sym e)

-- where names are distinct, one thing is exported under a name
pub one_entry : (entries : List ExportEntry) (x y : ExportEntry) → AreDistinct (entry_names entries) → Contains entries x → Contains entries y → x.name ≡ y.name → x ≡ y
one_entry [] x y distinct c d e = absurd (contains_none x c)
one_entry (z ∷ entries) x y distinct c d e = elim (contains_cases z entries x c) [
  | inl zx ↦ elim (contains_cases z entries y d) [
    | inl zy ↦ sym zx ∙ zy
    | inr h ↦ absurd (not_twice entries z y distinct h (ap (λ (w : ExportEntry). w.name) zx ∙ e))
  ]
  | inr h ↦ elim (contains_cases z entries y d) [
    | inl zy ↦ absurd (not_twice entries z x distinct h (ap (λ (w : ExportEntry). w.name) zy ∙ sym e))
    | inr i ↦ one_entry entries x y distinct.1 h i e
  ]
]

kind_is : (entries : List ExportEntry) (name : List ℕ) (k l : ExportKind) → AreDistinct (entry_names entries) → Contains entries (record { name = name; kind = k }) → Contains entries (record { name = name; kind = l }) → k ≡ l
kind_is entries name k l distinct c d = ap (λ (w : ExportEntry). w.kind) (one_entry entries (record { name = name; kind = k }) (record { name = name; kind = l }) distinct c d refl)

-- ---- one function

pub function_is : (m : Module) (name : List ℕ) (number : ℕ) (type : FuncType) → Contains m.exports (record { name = name; kind = exported.Function number }) → slice_get (function_types m) number ≡ Some type → IsExported m (name, type)
function_is m name number type entry typed = record { number = number; entry = entry; typed = typed }

pub memory_is_not : (m : Module) (name : List ℕ) (number : ℕ) (type : FuncType) (kind : ExportKind) → kind ≡ exported.Memory number → Contains m.exports (record { name = name; kind = kind }) → TellsFunction m (name, type) found.Other
memory_is_not m name number type kind is c = (
  is_named m.exports (record { name = name; kind = kind }) c,
  λ distinct h. let e = kind_is m.exports name kind (exported.Function h.number) distinct c h.entry in absurd cc,
)

number_is : (k l : ℕ) → exported.Function k ≡ exported.Function l → k ≡ l
number_is k l e = cc

pub type_is_not : (m : Module) (name : List ℕ) (number : ℕ) (type : FuncType) (kind : ExportKind) → kind ≡ exported.Function number → Contains m.exports (record { name = name; kind = kind }) → (slice_get (function_types m) number ≡ Some type → ⊥) → TellsFunction m (name, type) found.Other
type_is_not m name number type kind is c differs = (
  is_named m.exports (record { name = name; kind = kind }) c,
  λ distinct h.
      let e = number_is h.number number (kind_is m.exports name (exported.Function h.number) kind distinct h.entry c ∙ is) in
      differs (subst (λ n. slice_get (function_types m) n ≡ Some type) e h.typed),
)

-- ---- the memory

pub function_is_no_memory : (m : Module) (number : ℕ) (kind : ExportKind) → kind ≡ exported.Function number → Contains m.exports (record { name = codes "memory"; kind = kind }) → TellsMemory m found.Other
function_is_no_memory m number kind is c = (
  is_named m.exports (record { name = codes "memory"; kind = kind }) c,
  λ distinct h. let e = kind_is m.exports (codes "memory") kind (exported.Memory 0) distinct c h in absurd cc,
)

memory_number : (k l : ℕ) → exported.Memory k ≡ exported.Memory l → k ≡ l
memory_number k l e = cc

pub other_memory : (m : Module) (number : ℕ) (kind : ExportKind) → kind ≡ exported.Memory number → (number ≡ 0 → ⊥) → Contains m.exports (record { name = codes "memory"; kind = kind }) → TellsMemory m found.Other
other_memory m number kind is differs c = (
  is_named m.exports (record { name = codes "memory"; kind = kind }) c,
  λ distinct h. differs (memory_number number 0 (sym is ∙ kind_is m.exports (codes "memory") kind (exported.Memory 0) distinct c h)),
)

-- ---- several functions

abbrev pub Wanted : Type 0
Wanted = List ℕ × FuncType

abbrev pub wanted_names : List Wanted → List (List ℕ)
wanted_names ws = map (λ w. w.0) ws

names_more : (ws : List Wanted) (w : Wanted) → wanted_names (ws ++ w ∷ []) ≡ wanted_names ws ++ w.0 ∷ []
names_more [] w = refl
names_more (x ∷ ws) w = ap (λ (l : List (List ℕ)). x.0 ∷ l) (names_more ws w)

pub missing_stays : (m : Module) (ws : List Wanted) (w : Wanted) → TellsFunctions m ws found.Missing → TellsFunctions m (ws ++ w ∷ []) found.Missing
missing_stays m ws w h = (h.0, subst (λ l. Contains l h.0) (sym (names_more ws w)) (Contains-append_left (wanted_names ws) (w.0 ∷ []) h.0 h.1), h.2)

pub missing_now : (m : Module) (ws : List Wanted) (w : Wanted) → TellsFunction m w found.Missing → TellsFunctions m (ws ++ w ∷ []) found.Missing
missing_now m ws w h = (w.0, subst (λ l. Contains l w.0) (sym (names_more ws w)) (Contains-push (wanted_names ws) w.0), h)

named_more : (m : Module) (ws : List Wanted) (w : Wanted) → AllByRecursion (Exports m) (wanted_names ws) → Exports m w.0 → AllByRecursion (Exports m) (wanted_names (ws ++ w ∷ []))
named_more m ws w all one = subst (AllByRecursion (Exports m)) (sym (names_more ws w)) (all_more (Exports m) (wanted_names ws) w.0 all one)

function_named : (m : Module) (w : Wanted) → IsExported m w → Exports m w.0
function_named m w h = is_named m.exports (record { name = w.0; kind = exported.Function h.number }) h.entry

pub functions_named : (m : Module) (ws : List Wanted) → AllByRecursion (IsExported m) ws → AllByRecursion (Exports m) (wanted_names ws)
functions_named m [] all = tt
functions_named m (w ∷ ws) all = (function_named m w all.0, functions_named m ws all.1)

one_named : (m : Module) (w : Wanted) (one : Found) → (one ≡ found.Missing → ⊥) → TellsFunction m w one → Exports m w.0
one_named m w found.Same there h = function_named m w h
one_named m w found.Other there h = h.0
one_named m w found.Missing there h = absurd (there refl)

pub other_stays : (m : Module) (ws : List Wanted) (w : Wanted) (one : Found) → (one ≡ found.Missing → ⊥) → TellsFunctions m ws found.Other → TellsFunction m w one → TellsFunctions m (ws ++ w ∷ []) found.Other
other_stays m ws w one there all h =
    (named_more m ws w all.0 (one_named m w one there h), λ distinct both. all.1 distinct (all_before (IsExported m) ws w both).0)

pub other_now : (m : Module) (ws : List Wanted) (w : Wanted) → TellsFunctions m ws found.Same → TellsFunction m w found.Other → TellsFunctions m (ws ++ w ∷ []) found.Other
other_now m ws w all h =
    (named_more m ws w (functions_named m ws all) h.0, λ distinct both. h.1 distinct (all_before (IsExported m) ws w both).1)

pub same_more : (m : Module) (ws : List Wanted) (w : Wanted) → TellsFunctions m ws found.Same → TellsFunction m w found.Same → TellsFunctions m (ws ++ w ∷ []) found.Same
same_more m ws w all h = all_more (IsExported m) ws w all h

-- one function is the first of several
pub first_function : (m : Module) (w : Wanted) (one : Found) → TellsFunction m w one → TellsFunctions m (w ∷ []) one
first_function m w found.Same h = (h, tt)
first_function m w found.Other h = ((h.0, tt), λ distinct all. h.1 distinct all.0)
first_function m w found.Missing h = (w.0, in_front w.0 [], h)

-- ---- the functions of event inputs

pub event_more : (n k : ℕ) → event_exports n (k + 1) ≡ event_exports n k ++ (codes "e" ++ decimal (n + k), no_type) ∷ []
event_more n k = ap (λ j. event_exports n j) (one_more k) ∙ from n k
  where
    one_more : (k : ℕ) → k + 1 ≡ suc k
    one_more k = omega arith

    from : (n k : ℕ) → event_exports n (suc k) ≡ event_exports n k ++ (codes "e" ++ decimal (n + k), no_type) ∷ []
    from n zero = ap (λ j. (codes "e" ++ decimal j, no_type) ∷ []) (omega arith)
    from n (suc k) =
        ap (λ (l : List Wanted). (codes "e" ++ decimal n, no_type) ∷ l) (from (n + 1) k)
        ∙ ap (λ j. (codes "e" ++ decimal n, no_type) ∷ (event_exports (n + 1) k ++ (codes "e" ++ decimal j, no_type) ∷ [])) (omega arith)

pub event_count : (n k : ℕ) → length (event_exports n k) ≡ k
event_count n zero = refl
event_count n (suc k) = ap suc (event_count (n + 1) k)

-- one event input more
pub events_on : (m : Module) (before now next : Found) (k : ℕ) (name : List ℕ) → name ≡ codes "e" ++ decimal k →
    ((ws : List Wanted) → TellsFunctions m ws before → TellsFunctions m (ws ++ event_exports 0 k) now) →
    ((ws : List Wanted) → TellsFunctions m ws now → TellsFunctions m (ws ++ (name, no_type) ∷ []) next) →
    (ws : List Wanted) → TellsFunctions m ws before → TellsFunctions m (ws ++ event_exports 0 (k + 1)) next
events_on m before now next k name e so more ws h =
    let is : (ws ++ event_exports 0 k) ++ (name, no_type) ∷ [] ≡ ws ++ event_exports 0 (k + 1) =
    append_assoc ws (event_exports 0 k) ((name, no_type) ∷ []) ∙ ap (λ (n : List ℕ). ws ++ (event_exports 0 k ++ (n, no_type) ∷ [])) (e ∙ ap (λ j. codes "e" ++ decimal j) zero_more) ∙ ap (λ (l : List Wanted). ws ++ l) (sym (event_more 0 k)) in
    subst (λ l. TellsFunctions m l next) is (more (ws ++ event_exports 0 k) (so ws h))
  where
    zero_more : k ≡ 0 + k
    zero_more = omega arith

pub functions_of : (m : Module) (init frame : Wanted) (first both : Found) (events : ℕ) (result : Result Found NoMemory) → TellsFunctions m (init ∷ []) first →
    (TellsFunctions m (init ∷ []) first → TellsFunctions m (init ∷ frame ∷ []) both) →
    IfOk result (λ found. (ws : List Wanted) → TellsFunctions m ws both → TellsFunctions m (ws ++ event_exports 0 events) found) →
    IfOk result (TellsFunctions m (init ∷ frame ∷ event_exports 0 events))
functions_of m init frame first both events (Ok found) h then_both on = on (init ∷ frame ∷ []) (then_both h)
functions_of m init frame first both events (Err e) h then_both on = tt

-- ---- all exports

length_is : (m : Module) (section : CmajorSection) → length (exported_functions section) ≡ event_inputs (ends_of section) + 2
length_is m section = ap (λ n. suc (suc n)) (event_count 0 (event_inputs (ends_of section))) ∙ omega arith

pub exports_same : (m : Module) (section : CmajorSection) (events : ℕ) → events ≡ event_inputs (ends_of section) → TellsMemory m found.Same → TellsFunctions m (exported_functions section) found.Same → AreDistinct (entry_names m.exports) → length m.exports ≡ events + 3 →
    TellsExports m section found.Same
exports_same m section events is memory functions distinct count =
    record { memory = memory; functions = functions; distinct = distinct; count = let n = length_is m section in omega arith }

pub memory_missing : (m : Module) (section : CmajorSection) → TellsMemory m found.Missing → TellsExports m section found.Missing
memory_missing m section h = (codes "memory", in_front (codes "memory") (wanted_names (exported_functions section)), h)

pub function_missing : (m : Module) (section : CmajorSection) → TellsFunctions m (exported_functions section) found.Missing → TellsExports m section found.Missing
function_missing m section h = (h.0, behind (codes "memory") (wanted_names (exported_functions section)) h.0 h.1, h.2)

memory_named : (m : Module) (memory : Found) → (memory ≡ found.Missing → ⊥) → TellsMemory m memory → Exports m (codes "memory")
memory_named m found.Same there h = is_named m.exports memory_entry h
memory_named m found.Other there h = h.0
memory_named m found.Missing there h = absurd (there refl)

all_named : (m : Module) (ws : List Wanted) (functions : Found) → (functions ≡ found.Missing → ⊥) → TellsFunctions m ws functions → AllByRecursion (Exports m) (wanted_names ws)
all_named m ws found.Same there h = functions_named m ws h
all_named m ws found.Other there h = h.0
all_named m ws found.Missing there h = absurd (there refl)

memory_same : (m : Module) (memory : Found) → TellsMemory m memory → AreDistinct (entry_names m.exports) → Contains m.exports memory_entry → memory ≡ found.Same
memory_same m found.Same h distinct c = refl
memory_same m found.Other h distinct c = absurd (h.1 distinct c)
memory_same m found.Missing h distinct c = absurd (h (is_named m.exports memory_entry c))

functions_same : (m : Module) (ws : List Wanted) (functions : Found) → TellsFunctions m ws functions → AreDistinct (entry_names m.exports) → AllByRecursion (IsExported m) ws → functions ≡ found.Same
functions_same m ws found.Same h distinct all = refl
functions_same m ws found.Other h distinct all = absurd (h.1 distinct all)
functions_same m ws found.Missing h distinct all = absurd (h.2 (all_contained (Exports m) (wanted_names ws) h.0 (functions_named m ws all) h.1))

pub exports_other : (m : Module) (section : CmajorSection) (events : ℕ) (memory functions : Found) → events ≡ event_inputs (ends_of section) → (memory ≡ found.Missing → ⊥) → (functions ≡ found.Missing → ⊥) →
    TellsMemory m memory → TellsFunctions m (exported_functions section) functions → (memory ≡ found.Same → functions ≡ found.Same → AreDistinct (entry_names m.exports) → length m.exports ≡ events + 3 → ⊥) →
    TellsExports m section found.Other
exports_other m section events memory functions is there all mem fns others = (
  (memory_named m memory there mem, all_named m (exported_functions section) functions all fns),
  λ h. others (memory_same m memory mem h.distinct h.memory) (functions_same m (exported_functions section) functions fns h.distinct h.functions) h.distinct (let n = length_is m section in omega (arith, h.count)),
)

pub events_all : (m : Module) (before now : Found) (k count : ℕ) → k ≡ count → ((ws : List Wanted) → TellsFunctions m ws before → TellsFunctions m (ws ++ event_exports 0 k) now) →
    (ws : List Wanted) → TellsFunctions m ws before → TellsFunctions m (ws ++ event_exports 0 count) now
events_all m before now k count e so = subst (λ n. (ws : List Wanted) → TellsFunctions m ws before → TellsFunctions m (ws ++ event_exports 0 n) now) e so

pub same_and : (m : Module) (ws : List Wanted) (w : Wanted) (one : Found) → TellsFunctions m ws found.Same → TellsFunction m w one → TellsFunctions m (ws ++ w ∷ []) one
same_and m ws w found.Same all h = same_more m ws w all h
same_and m ws w found.Other all h = other_now m ws w all h
same_and m ws w found.Missing all h = missing_now m ws w h
