-- The edges of calls are the calls, so a way along them from a function back to it is a cycle of calls.
use Rattle.std.proofs.Common.{◌≡◌, ◌≤◌, ◌<◌, ◌+◌, ℕ, zero, suc, List, [], ◌∷◌, ◌++◌, length, take, get_or, Option, Some, None, Bool, true, false, refl, sym, ap, ◌∙◌, subst, ◌⊎◌, inl, inr, arith, append_assoc, append-nil}
use Rattle.std.specs.Prelude.{slice_get, unwrap_or, ◌==◌, ◌&&◌, ◌||◌, Contains}
use Rattle.std.specs.Option.{option_map}
use Rattle.std.specs.List.{AllByRecursion, cons_option, list_any}
use Rattle.std.proofs.lemmas.Bool.{eqb-true, eq-eqb}
use Rattle.std.proofs.lemmas.List.{take_more, length-map}
use Rattle.std.proofs.lemmas.List.Elements.{All-nil, All-cons, All-append, filter_map-append}
use Rattle.std.proofs.lemmas.List.Folds.{list_any-append}
use Rattle.std.proofs.lemmas.Option.{slice_get-get_or, slice_get_within, slice_get-map, get_or_from_slice_get}
use Rattle.graph_search.specs.declared.edges.Edge.{Edge}
use Rattle.graph_search.specs.Edges.{AreWithin, IsBefore}
use Rattle.graph_search.specs.Paths.{LeadsThrough}
use Rattle.graph_search.specs.Orders.{IsCycle, IsRanking}
use Rattle.wasm_tree.specs.declared.module.FuncType.{FuncType}
use Rattle.wasm_tree.specs.declared.module.FuncBody.{FuncBody}
use Rattle.wasm_tree.specs.declared.module.Module.{Module}
use Rattle.wasm_tree.specs.declared.instr.Instr.{Instr}
use Rattle.wasm_tree.specs.declared.instr.Instr.TheVariants as instr
use Rattle.wasm_tree.specs.Control.{IsClosed}
use Rattle.wasm_tree.specs.Host.{HasImport}
use Rattle.wasm_tree.specs.Numbers.{type_at, function_types, code_of}
use Rattle.wasm_tree.specs.Valid.{IsIndexed, AreBodiesIndexed, IsBodyWithinLimits, AreBodiesWithinLimits, Calls, CallsThrough, CallCycle}
use Rattle.wasm_tree.proofs.Imports.{functions_follow, codes_follow}
use Rattle.wasm_valid.specs.CallEdges.{edge_of, calls_in, all_calls}
use Rattle.wasm_valid.proofs.OperandTypes.{some_is}
use Rattle.wasm_valid.proofs.IndexLemmas.{open_at}
use Rattle.wasm_valid.proofs.EachLemmas.{each_at}

-- ---- lists that grow

calls_more : (old edges : List Edge) (from : ℕ) (code : List Instr) (k : ℕ) (i : Instr) → k < length code → i ≡ get_or code k i → edges ≡ old ++ calls_in from (take k code) →
    edges ++ cons_option (edge_of from i) [] ≡ old ++ calls_in from (take (k + 1) code)
calls_more old edges from code k i lt e h =
    let one : take (k + 1) code ≡ take k code ++ i ∷ [] = take_more code k i lt ∙ ap (λ (x : Instr). take k code ++ x ∷ []) (sym e) in
    ap (λ (l : List Edge). l ++ cons_option (edge_of from i) []) h ∙ append_assoc old (calls_in from (take k code)) (cons_option (edge_of from i) [])
    ∙ ap (λ (l : List Edge). old ++ l) (sym (ap (calls_in from) one ∙ filter_map-append (edge_of from) (take k code) (i ∷ [])))

pub calls_grow : (old edges next : List Edge) (from : ℕ) (code : List Instr) (k : ℕ) (i : Instr) → k < length code → i ≡ get_or code k i → edges ≡ old ++ calls_in from (take k code) → next ≡ edges ++ cons_option (edge_of from i) [] →
    next ≡ old ++ calls_in from (take (k + 1) code)
calls_grow old edges next from code k i lt e h n = n ∙ calls_more old edges from code k i lt e h

all_calls_append : (first : ℕ) (xs : List FuncBody) (b : FuncBody) → all_calls first (xs ++ b ∷ []) ≡ all_calls first xs ++ calls_in (first + length xs) b.code
all_calls_append first [] b = append-nil (calls_in first b.code) ∙ ap (λ (n : ℕ). calls_in n b.code) (omega arith)
all_calls_append first (x ∷ xs) b =
    let n : first + 1 + length xs ≡ first + suc (length xs) = omega arith in
    ap (λ (l : List Edge). calls_in first x.code ++ l) (all_calls_append (first + 1) xs b ∙ ap (λ (n : ℕ). all_calls (first + 1) xs ++ calls_in n b.code) n)
    ∙ sym (append_assoc (calls_in first x.code) (all_calls (first + 1) xs) (calls_in (first + suc (length xs)) b.code))

length_taken : (k : ℕ) (xs : List FuncBody) → k < length xs → length (take k xs) ≡ k
length_taken zero xs lt = refl
length_taken (suc k) [] lt = absurd (omega arith)
length_taken (suc k) (x ∷ xs) lt = ap suc (length_taken k xs (omega arith))

pub calls_on : (edges next : List Edge) (bodies : List FuncBody) (k : ℕ) (body : FuncBody) → k < length bodies → body ≡ get_or bodies k body → edges ≡ all_calls 1 (take k bodies) → next ≡ edges ++ calls_in (k + 1) body.code →
    next ≡ all_calls 1 (take (k + 1) bodies)
calls_on edges next bodies k body lt e h n =
    let one : take (k + 1) bodies ≡ take k bodies ++ body ∷ [] = take_more bodies k body lt ∙ ap (λ (x : FuncBody). take k bodies ++ x ∷ []) (sym e) in
    let len = length_taken k bodies lt in
    let at : 1 + length (take k bodies) ≡ k + 1 = omega arith in
    n ∙ (ap (λ (l : List Edge). l ++ calls_in (k + 1) body.code) h ∙ (ap (λ (n : ℕ). all_calls 1 (take k bodies) ++ calls_in n body.code) (sym at) ∙ (sym (all_calls_append 1 (take k bodies) body) ∙ ap (all_calls 1) (sym one))))

-- ---- edges and calls

either : (a b : Bool) → (a || b) ≡ true → (a ≡ true) ⊎ (b ≡ true)
either true b e = inl refl
either false b e = inr e

left_true : (a b : Bool) → a ≡ true → (a || b) ≡ true
left_true a b e = ap (λ (a : Bool). a || b) e

right_true : (a b : Bool) → b ≡ true → (a || b) ≡ true
right_true true b e = refl
right_true false b e = e

both : (a b : Bool) → (a && b) ≡ true → (a ≡ true) × (b ≡ true)
both true b e = (refl, e)
both false b e = absurd cc

both_true : (a b : Bool) → a ≡ true → b ≡ true → (a && b) ≡ true
both_true a b e f = ap (λ (a : Bool). a && b) e ∙ f

-- a call of g in the code of f is an edge from f to g, and there are no others
abbrev InCode : ℕ → List Instr → ℕ → ℕ → Type 0
InCode from code f g = (from ≡ f) × ((k : ℕ) × (slice_get code k ≡ Some (instr.Call g)))

in_later : (from : ℕ) (i : Instr) (code : List Instr) (f g : ℕ) → InCode from code f g → InCode from (i ∷ code) f g
in_later from i code f g h = (h.0, (suc h.1.0, h.1.1))

edges_are : (from : ℕ) (code : List Instr) (f g : ℕ) → IsBefore (calls_in from code) f g → InCode from code f g
edges_are from [] f g e = absurd (cc e)
edges_are from (instr.Call n ∷ code) f g e =
    elim (either ((from == f) && (n == g)) (list_any (λ (e : Edge). (e.from == f) && (e.to == g)) (calls_in from code)) e) [
      | inl h ↦
          let b = both (from == f) (n == g) h in
          let same : n ≡ g = eqb-true n g b.1 in
          (eqb-true from f b.0, (0, ap (λ (n : ℕ). Some (instr.Call n)) same))
      | inr h ↦ in_later from (instr.Call n) code f g (edges_are from code f g h)
    ]
edges_are from (_ ∷ code) f g e = in_later from _ code f g (edges_are from code f g e)

calls_are : (from : ℕ) (code : List Instr) (f g k : ℕ) → from ≡ f → slice_get code k ≡ Some (instr.Call g) → IsBefore (calls_in from code) f g
calls_are from [] f g zero e h = absurd cc
calls_are from [] f g (suc k) e h = absurd cc
calls_are from (i ∷ code) f g zero e h =
    let same : i ≡ instr.Call g = some_is i (instr.Call g) h in
    subst (λ (i : Instr). IsBefore (calls_in from (i ∷ code)) f g) (sym same)
    (left_true ((from == f) && (g == g)) (list_any (λ (e : Edge). (e.from == f) && (e.to == g)) (calls_in from code)) (both_true (from == f) (g == g) (eq-eqb from f e) (eq-eqb g g refl)))
calls_are from (instr.Call n ∷ code) f g (suc k) e h =
    right_true ((from == f) && (n == g)) (list_any (λ (e : Edge). (e.from == f) && (e.to == g)) (calls_in from code)) (calls_are from code f g k e h)
calls_are from (_ ∷ code) f g (suc k) e h = calls_are from code f g k e h

-- the same for all functions
abbrev InBodies : ℕ → List FuncBody → ℕ → ℕ → Type 0
InBodies first bodies f g = (n : ℕ) × (body : FuncBody) × (first + n ≡ f) × (slice_get bodies n ≡ Some body) × ((k : ℕ) × (slice_get body.code k ≡ Some (instr.Call g)))

all_edges_are : (first : ℕ) (bodies : List FuncBody) (f g : ℕ) → IsBefore (all_calls first bodies) f g → InBodies first bodies f g
all_edges_are first [] f g e = absurd (cc e)
all_edges_are first (body ∷ bodies) f g e =
    let p : Edge → Bool = λ (e : Edge). (e.from == f) && (e.to == g) in
    let split : (list_any p (calls_in first body.code) || list_any p (all_calls (first + 1) bodies)) ≡ true = sym (list_any-append p (calls_in first body.code) (all_calls (first + 1) bodies)) ∙ e in
    elim (either (list_any p (calls_in first body.code)) (list_any p (all_calls (first + 1) bodies)) split) [
      | inl h ↦ let c = edges_are first body.code f g h in let e0 = c.0 in (0, body, omega arith, refl, c.1)
      | inr h ↦ let c = all_edges_are (first + 1) bodies f g h in let e0 = c.2 in (suc c.0, c.1, omega arith, c.3, c.4)
    ]

all_calls_are : (first : ℕ) (bodies : List FuncBody) (f g n k : ℕ) (body : FuncBody) → first + n ≡ f → slice_get bodies n ≡ Some body → slice_get body.code k ≡ Some (instr.Call g) → IsBefore (all_calls first bodies) f g
all_calls_are first [] f g zero k body e h c = absurd cc
all_calls_are first [] f g (suc n) k body e h c = absurd cc
all_calls_are first (b ∷ bodies) f g zero k body e h c =
    let p : Edge → Bool = λ (e : Edge). (e.from == f) && (e.to == g) in
    let same : b ≡ body = some_is b body h in
    let from : first ≡ f = omega arith in
    list_any-append p (calls_in first b.code) (all_calls (first + 1) bodies)
    ∙ left_true (list_any p (calls_in first b.code)) (list_any p (all_calls (first + 1) bodies)) (subst (λ (b : FuncBody). IsBefore (calls_in first b.code) f g) (sym same) (calls_are first body.code f g k from c))
all_calls_are first (b ∷ bodies) f g (suc n) k body e h c =
    let p : Edge → Bool = λ (e : Edge). (e.from == f) && (e.to == g) in
    list_any-append p (calls_in first b.code) (all_calls (first + 1) bodies)
    ∙ right_true (list_any p (calls_in first b.code)) (list_any p (all_calls (first + 1) bodies)) (all_calls_are (first + 1) bodies f g n k body (omega arith) h c)

-- ---- code by number

own_code : (m : Module) (n : ℕ) (body : FuncBody) → HasImport m → slice_get m.codes n ≡ Some body → code_of m (suc n) ≡ body.code
own_code m n body import h =
    ap (λ (codes : List (List Instr)). unwrap_or (slice_get codes (suc n)) []) (codes_follow m import)
    ∙ (ap (λ (o : Option (List Instr)). unwrap_or o []) (slice_get-map (λ (body : FuncBody). body.code) m.codes n) ∙ ap (λ (o : Option FuncBody). unwrap_or (option_map (λ (body : FuncBody). body.code) o) []) h)

code_in : (m : Module) (f : ℕ) (i : Instr) (k : ℕ) → HasImport m → slice_get (code_of m f) k ≡ Some i → (n : ℕ) × (body : FuncBody) × (suc n ≡ f) × (slice_get m.codes n ≡ Some body) × (slice_get body.code k ≡ Some i)
code_in m zero i k import h =
    let none : code_of m 0 ≡ [] = ap (λ (codes : List (List Instr)). unwrap_or (slice_get codes 0) []) (codes_follow m import) in
    absurd (nothing k (sym (ap (λ (l : List Instr). slice_get l k) none) ∙ h))
  where
    nothing : (k : ℕ) → slice_get [] k ≡ Some i → ⊥
    nothing zero e = cc
    nothing (suc k) e = cc
code_in m (suc n) i k import h =
    by (slice_get m.codes n) refl
  where
    is : code_of m (suc n) ≡ unwrap_or (option_map (λ (body : FuncBody). body.code) (slice_get m.codes n)) []
    is = ap (λ (codes : List (List Instr)). unwrap_or (slice_get codes (suc n)) []) (codes_follow m import) ∙ ap (λ (o : Option (List Instr)). unwrap_or o []) (slice_get-map (λ (body : FuncBody). body.code) m.codes n)

    nothing : (k : ℕ) → slice_get [] k ≡ Some i → ⊥
    nothing zero e = cc
    nothing (suc k) e = cc

    by : (o : Option FuncBody) → slice_get m.codes n ≡ o → (p : ℕ) × (body : FuncBody) × (suc p ≡ suc n) × (slice_get m.codes p ≡ Some body) × (slice_get body.code k ≡ Some i)
    by None e = absurd (nothing k (sym (ap (λ (l : List Instr). slice_get l k) (is ∙ ap (λ (o : Option FuncBody). unwrap_or (option_map (λ (body : FuncBody). body.code) o) []) e)) ∙ h))
    by (Some body) e = (n, body, refl, e, sym (ap (λ (l : List Instr). slice_get l k) (is ∙ ap (λ (o : Option FuncBody). unwrap_or (option_map (λ (body : FuncBody). body.code) o) []) e)) ∙ h)

contains_at : (code : List Instr) (i : Instr) → Contains code i → (k : ℕ) × (slice_get code k ≡ Some i)
contains_at code i h = (h.0, slice_get-get_or code h.0 i h.1 ∙ ap (λ (x : Instr). Some x) h.2)

at_contains : (code : List Instr) (i : Instr) (k : ℕ) → slice_get code k ≡ Some i → Contains code i
at_contains code i k e = (k, slice_get_within code k i e, get_or_from_slice_get code k i i e)

edge_calls : (m : Module) (f g : ℕ) → HasImport m → IsBefore (all_calls 1 m.codes) f g → Calls m f g
edge_calls m f g import e =
    let c = all_edges_are 1 m.codes f g e in
    let at : f ≡ suc c.0 = let s = c.2 in omega arith in
    subst (λ (f : ℕ). Calls m f g) (sym at) (at_contains (code_of m (suc c.0)) (instr.Call g) c.4.0 (ap (λ (l : List Instr). slice_get l c.4.0) (own_code m c.0 c.1 import c.3) ∙ c.4.1))

call_edge : (m : Module) (f g : ℕ) → HasImport m → Calls m f g → IsBefore (all_calls 1 m.codes) f g
call_edge m f g import h =
    let at = contains_at (code_of m f) (instr.Call g) h in
    let c = code_in m f (instr.Call g) at.0 import at.1 in
    let s = c.2 in
    all_calls_are 1 m.codes f g c.0 at.0 c.1 (omega arith) c.3 c.4

calls_lead : (m : Module) (f : ℕ) (between : List ℕ) (g : ℕ) → HasImport m → CallsThrough m f between g → LeadsThrough (all_calls 1 m.codes) f between g
calls_lead m f [] g import h = call_edge m f g import h
calls_lead m f (x ∷ xs) g import h = (call_edge m f x import h.0, calls_lead m x xs g import h.1)

leads_call : (m : Module) (f : ℕ) (between : List ℕ) (g : ℕ) → HasImport m → LeadsThrough (all_calls 1 m.codes) f between g → CallsThrough m f between g
leads_call m f [] g import h = edge_calls m f g import h
leads_call m f (x ∷ xs) g import h = (edge_calls m f x import h.0, leads_call m x xs g import h.1)

-- ---- cycles

pub ranked_free : (m : Module) (n : ℕ) (ranks : List ℕ) → HasImport m →
    ((es : List Edge) (n : ℕ) (ranks : List ℕ) → IsRanking es n ranks → (p : ℕ) (between : List ℕ) → LeadsThrough es p between p → ⊥) → IsRanking (all_calls 1 m.codes) n ranks → CallCycle m
ranked_free m n ranks import law h f between c = law (all_calls 1 m.codes) n ranks h f between (calls_lead m f between f import c)

pub cycle_calls : (m : Module) (cs : List ℕ) → HasImport m → ((es : List Edge) (first : ℕ) (rest : List ℕ) → IsCycle es (first ∷ rest) → LeadsThrough es first rest first) → IsCycle (all_calls 1 m.codes) cs → CallCycle m → ⊥
cycle_calls m [] import law h free = let s = h.some in absurd (omega arith)
cycle_calls m (first ∷ rest) import law h free = free first rest (leads_call m first rest first import (law (all_calls 1 m.codes) first rest h))

-- ---- functions that are called are there

abbrev EndsWithin : ℕ → Edge → Type 0
EndsWithin count e = (e.from < count) × (e.to < count)

code_within : (count from : ℕ) (code : List Instr) → from < count → ((k g : ℕ) → slice_get code k ≡ Some (instr.Call g) → g < count) → AreWithin count (calls_in from code)
code_within count from [] lt h = All-nil (EndsWithin count)
code_within count from (instr.Call g ∷ code) lt h = All-cons (EndsWithin count) (record { from = from; to = g }) (calls_in from code) (lt, h 0 g refl) (code_within count from code lt (λ k g e. h (suc k) g e))
code_within count from (_ ∷ code) lt h = code_within count from code lt (λ k g e. h (suc k) g e)

all_within : (count first : ℕ) (bodies : List FuncBody) → first + length bodies ≤ count → ((n k g : ℕ) (body : FuncBody) → slice_get bodies n ≡ Some body → slice_get body.code k ≡ Some (instr.Call g) → g < count) → AreWithin count (all_calls first bodies)
all_within count first [] le h = All-nil (EndsWithin count)
all_within count first (body ∷ bodies) le h =
    All-append (EndsWithin count) (calls_in first body.code) (all_calls (first + 1) bodies) (code_within count first body.code (omega arith) (λ k g e. h 0 k g body refl e)) (all_within count (first + 1) bodies (omega arith) (λ n k g b e f. h (suc n) k g b e f))

closed_at : (bodies : List FuncBody) (n : ℕ) (body : FuncBody) → AllByRecursion IsBodyWithinLimits bodies → slice_get bodies n ≡ Some body → IsClosed body.code
closed_at [] zero body h e = absurd cc
closed_at [] (suc n) body h e = absurd cc
closed_at (b ∷ bodies) zero body h e = let same : b ≡ body = some_is b body e in subst (λ (b : FuncBody). IsClosed b.code) same h.0.nesting
closed_at (b ∷ bodies) (suc n) body h e = closed_at bodies n body h.1 e

pub edges_within : (m : Module) → HasImport m → AreBodiesIndexed m → AreBodiesWithinLimits m → length m.functions ≡ length m.codes → AreWithin (length m.codes + 1) (all_calls 1 m.codes)
edges_within m import indexed limits counts =
    all_within (length m.codes + 1) 1 m.codes (omega arith) (λ n k g body e f. there n k g body e f)
  where
    functions : length (function_types m) ≡ length m.codes + 1
    functions = let l = ap (λ (l : List FuncType). length l) (functions_follow m import) in let n = length-map m.functions (type_at m) in omega arith

    there : (n k g : ℕ) (body : FuncBody) → slice_get m.codes n ≡ Some body → slice_get body.code k ≡ Some (instr.Call g) → g < length m.codes + 1
    there n k g body e f =
        let lt : n < length m.functions = let w = slice_get_within m.codes n body e in omega arith in
        let is : IsIndexed m (type_at m (get_or m.functions n 0)) body = each_at (IsIndexed m) m m.functions m.codes n (get_or m.functions n 0) body indexed (slice_get-get_or m.functions n 0 lt) e in
        let o = open_at body.code k (closed_at m.codes n body limits e) in
        let within : g < length (function_types m) = is k (instr.Call g) o.0 f o.1 in
        let all = functions in
        omega arith
