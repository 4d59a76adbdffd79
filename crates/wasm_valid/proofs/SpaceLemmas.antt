-- What code may name is as many as are counted.
use Rattle.std.proofs.Common.{◌≡◌, ◌≤◌, ◌<◌, ◌+◌, ℕ, List, length, take, get_or, Bool, Some, sym, ap, ◌∙◌, subst, ◌⊎◌, inl, inr, arith}
use Rattle.std.specs.Prelude.{slice_get}
use Rattle.std.proofs.lemmas.List.{length-map}
use Rattle.std.proofs.lemmas.Option.{slice_get-get_or, slice_get_within}
use Rattle.wasm_tree.specs.declared.module.FuncType.{FuncType}
use Rattle.wasm_tree.specs.declared.module.FuncBody.{FuncBody}
use Rattle.wasm_tree.specs.declared.module.Limits.{Limits}
use Rattle.wasm_tree.specs.declared.module.Module.{Module}
use Rattle.wasm_tree.specs.declared.instr.Instr.{Instr}
use Rattle.wasm_tree.specs.Control.{IsOpen}
use Rattle.wasm_tree.specs.Host.{HasImport}
use Rattle.wasm_tree.specs.Numbers.{Counts, IsThere, counts, type_at, function_types, memories}
use Rattle.wasm_tree.specs.Spelled.{count_of_locals}
use Rattle.wasm_tree.specs.Valid.{IsIndexed, AreBodiesIndexed, HasMemory}
use Rattle.wasm_tree.proofs.Imports.{functions_follow, memory_is_own}
use Rattle.wasm_valid.specs.declared.index.Space.{Space}
use Rattle.wasm_valid.specs.Indexed.{counts_of, IsIndexedAt}
use Rattle.wasm_valid.proofs.OperandTypes.{some_is}
use Rattle.wasm_valid.proofs.EachLemmas.{each_from, each_at}

-- what the test of one body says
abbrev pub NamesThere : Space → List Instr → Type 0
NamesThere space code = (place : ℕ) (i : Instr) (arms : List Bool) → slice_get code place ≡ Some i → IsOpen (take place code) arms → IsThere (counts_of space (length arms)) i

counts_with : (functions locals globals memories labels : ℕ) → Counts
counts_with functions locals globals memories labels = record { functions = functions; locals = locals; globals = globals; memories = memories; labels = labels }

-- the space of a body is what it may name
record IsSpace (m : Module) (type : FuncType) (body : FuncBody) (space : Space) : Type 0 where
  functions : space.functions ≡ length m.functions + 1
  locals : space.locals ≡ length type.params + count_of_locals body.locals
  globals : space.globals ≡ length m.globals

same_counts : (m : Module) (type : FuncType) (body : FuncBody) (space : Space) (labels : ℕ) → HasImport m → HasMemory m.memory → IsSpace m type body space → counts_of space labels ≡ counts m type body labels
unfolding counts_with
same_counts m type body space labels import memory is =
    let all = ap (λ (l : List FuncType). length l) (functions_follow m import) in
    let mapped = length-map m.functions (type_at m) in
    let own = is.functions in
    let functions : space.functions ≡ length (function_types m) = omega arith in
    let one : 1 ≡ length (memories m) = sym (ap (λ (l : List Limits). length l) (memory_is_own m import ∙ memory.only)) in
    ap (λ n. counts_with n space.locals space.globals 1 labels) functions ∙ ap (λ n. counts_with (length (function_types m)) n space.globals 1 labels) is.locals
    ∙ ap (λ n. counts_with (length (function_types m)) (length type.params + count_of_locals body.locals) n 1 labels) is.globals
    ∙ ap (λ n. counts_with (length (function_types m)) (length type.params + count_of_locals body.locals) (length m.globals) n labels) one

module _ (m : Module) (k : ℕ) (type : FuncType) (body : FuncBody) (space : Space) (import : HasImport m) (memory : HasMemory m.memory) (same : (t : ℕ) → slice_get m.functions k ≡ Some t → type ≡ type_at m t)
    (lt : k < length m.codes) (e : body ≡ get_or m.codes k body) (functions : space.functions ≡ length m.functions + 1) (locals : space.locals ≡ length type.params + count_of_locals body.locals) (globals : space.globals ≡ length m.globals) where
  is : IsSpace m type body space
  is = record { functions = functions; locals = locals; globals = globals }

  pub indexed_here : NamesThere space body.code → IsIndexedAt m k
  indexed_here h t other p q =
      let ib : body ≡ other = some_is body other (ap (λ (x : FuncBody). Some x) e ∙ (sym (slice_get-get_or m.codes k body lt) ∙ q)) in
      let here : IsIndexed m type body = λ place i arms f o. subst (λ (c : Counts). IsThere c i) (same_counts m type body space (length arms) import memory is) (h place i arms f o) in
      subst (λ (x : FuncBody). IsIndexed m (type_at m t) x) ib (subst (λ (x : FuncType). IsIndexed m x body) (same t p) here)

  pub names_here : length m.functions ≡ length m.codes → IsIndexedAt m k → NamesThere space body.code
  names_here counts at place i arms f o =
      let t = get_or m.functions k 0 in
      let p : slice_get m.functions k ≡ Some t = slice_get-get_or m.functions k 0 (omega arith) in
      let q : slice_get m.codes k ≡ Some body = slice_get-get_or m.codes k body lt ∙ ap (λ (x : FuncBody). Some x) (sym e) in
      let here : IsIndexed m type body = subst (λ (x : FuncType). IsIndexed m x body) (sym (same t p)) (at t body p q) in
      subst (λ (c : Counts). IsThere c i) (sym (same_counts m type body space (length arms) import memory is)) (here place i arms f o)

-- ---- the functions one after another

pub all_indexed : (m : Module) (n : ℕ) → length m.functions ≡ length m.codes → length m.codes ≤ n → ((k : ℕ) → k < n → IsIndexedAt m k) → AreBodiesIndexed m
all_indexed m n e le h = each_from (IsIndexed m) m m.functions m.codes e (λ k t b p q. h k (omega (arith, le, slice_get_within m.codes k b q)) t b p q)

pub indexed_each : (m : Module) (k : ℕ) → AreBodiesIndexed m → IsIndexedAt m k
indexed_each m k h t b p q = each_at (IsIndexed m) m m.functions m.codes k t b h p q

pub indexed_more : (m : Module) (n : ℕ) → ((k : ℕ) → k < n → IsIndexedAt m k) → IsIndexedAt m n → (k : ℕ) → k < n + 1 → IsIndexedAt m k
indexed_more m n h at k lt = elim (last k n lt) [ inl l ↦ h k l | inr e ↦ subst (λ (n : ℕ). IsIndexedAt m n) (sym e) at ]
  where
    last : (k n : ℕ) → k < n + 1 → (k < n) ⊎ (k ≡ n)
    last k n lt = grind arith
