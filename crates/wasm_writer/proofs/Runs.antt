-- The runs of a shape, as they grow scalar by scalar from the left, give the shape back and are spelled as
-- docs/MODULE.md says.
use Rattle.std.proofs.Common.{◌≡◌, ℕ, zero, suc, ◌+◌, ◌<◌, ◌≤◌, ◌^◌, true, false, cond, List, [], ◌∷◌, ◌++◌, length, get_or, take, All, Result, Ok, Err, OnOk, inl, inr, refl, subst, sym, ap, ◌∙◌, arith, append_assoc, add-one, eqb-true}
use Rattle.std.specs.List.{flat_map, sum_by, AllByRecursion}
use Rattle.std.proofs.Math.ListN.{set, replicate}
use Rattle.std.proofs.lemmas.List.{take_more, length-take, append-nil}
use Rattle.std.proofs.lemmas.List.Elements.{All-from_get_or, All-more}
use Rattle.std.proofs.lemmas.List.Concat.{flat_map-append}
use Rattle.std.proofs.lemmas.List.Sums.{sum_by-cons, get_or-le-sum_by}
use Rattle.std.proofs.lemmas.Bool.{cases_Bool}
use Rattle.cm_base.specs.declared.host.Scalar.{Scalar}
use Rattle.cm_base.specs.declared.host.Scalar.TheVariants.{Int32, Int64, Bool as Truth, Wrap, Clamp}
use Rattle.wasm_tree.specs.Spelled.{Index, Each}
use Rattle.wasm_tree.specs.Section.{KindRun, Runs, Spelled_run}
use Rattle.wasm_writer.specs.declared.description.ScalarRun.{ScalarRun}
use Rattle.wasm_writer.specs.Spelling.{unsigned_bytes}
use Rattle.wasm_writer.specs.Description.{is_same_kind, with_scalar, runs_of, run_bytes, Spelled_scalar_run, shape_bytes}
use Rattle.wasm_writer.proofs.Numbers.{index_spelled}
use Rattle.wasm_writer.proofs.Parts.{joined}

same_is : (a b : Scalar) → is_same_kind a b ≡ true → a ≡ b
same_is Int32 Int32 h = refl
same_is Int64 Int64 h = refl
same_is Truth Truth h = refl
same_is (Wrap n) (Wrap m) h = ap Wrap (eqb-true n m h)
same_is (Clamp n) (Clamp m) h = ap Clamp (eqb-true n m h)
same_is _ _ h = cc

-- ---- from the left

abbrev pub one : Scalar → ScalarRun
one kind = record { count = 1; kind = kind }

abbrev pub longer : ScalarRun → ScalarRun
longer run = record { count = run.count + 1; kind = run.kind }

-- a scalar after runs: it joins the last of them where that is of its kind, and else is a run of its own
abbrev pub extended : List ScalarRun → Scalar → List ScalarRun
extended [] kind = one kind ∷ []
extended (run ∷ []) kind = cond (is_same_kind run.kind kind) (longer run ∷ []) (run ∷ one kind ∷ [])
extended (run ∷ next ∷ runs) kind = run ∷ extended (next ∷ runs) kind

-- both ends: a scalar before and a scalar after
extended_before : (kind last : Scalar) (runs : List ScalarRun) → with_scalar kind (extended runs last) ≡ extended (with_scalar kind runs) last
extended_before kind last [] =
    elim (cases_Bool (is_same_kind kind last)) [
      | inl same ↦ rw same (ap (λ (k : Scalar). (record { count = 2; kind = k }) ∷ []) (sym (same_is kind last same)))
      | inr other ↦ rw other refl
    ]
extended_before kind last (run ∷ []) =
    elim (cases_Bool (is_same_kind run.kind last)) [
      | inl joins ↦ elim (cases_Bool (is_same_kind kind run.kind)) [ inl same ↦ simp (joins, same) | inr other ↦ simp (joins, other) ]
      | inr stays ↦ elim (cases_Bool (is_same_kind kind run.kind)) [ inl same ↦ simp (stays, same) | inr other ↦ simp (stays, other) ]
    ]
extended_before kind last (run ∷ next ∷ runs) =
    elim (cases_Bool (is_same_kind kind run.kind)) [ inl same ↦ simp same | inr other ↦ simp other ]

pub runs_more : (shape : List Scalar) (last : Scalar) → runs_of (shape ++ last ∷ []) ≡ extended (runs_of shape) last
runs_more [] last = refl
runs_more (kind ∷ shape) last = ap (with_scalar kind) (runs_more shape last) ∙ extended_before kind last (runs_of shape)

extended_last : (runs : List ScalarRun) (i : ℕ) (kind : Scalar) (d e : ScalarRun) → i + 1 ≡ length runs → is_same_kind (get_or runs i d).kind kind ≡ true → extended runs kind ≡ set runs i (longer (get_or runs i e))
extended_last [] i kind d e last same = absurd (omega arith)
extended_last (run ∷ []) zero kind d e last same = rw same refl
extended_last (run ∷ []) (suc i) kind d e last same = absurd (omega arith)
extended_last (run ∷ next ∷ runs) zero kind d e last same = absurd (omega arith)
extended_last (run ∷ next ∷ runs) (suc i) kind d e last same = ap (λ (rest : List ScalarRun). run ∷ rest) (extended_last (next ∷ runs) i kind d e (omega arith) same)

extended_other : (runs : List ScalarRun) (i : ℕ) (kind : Scalar) (d : ScalarRun) → i + 1 ≡ length runs → is_same_kind (get_or runs i d).kind kind ≡ false → extended runs kind ≡ runs ++ one kind ∷ []
extended_other [] i kind d last other = absurd (omega arith)
extended_other (run ∷ []) zero kind d last other = rw other refl
extended_other (run ∷ []) (suc i) kind d last other = absurd (omega arith)
extended_other (run ∷ next ∷ runs) zero kind d last other = absurd (omega arith)
extended_other (run ∷ next ∷ runs) (suc i) kind d last other = ap (λ (rest : List ScalarRun). run ∷ rest) (extended_other (next ∷ runs) i kind d (omega arith) other)

extended_none : (runs : List ScalarRun) (kind : Scalar) → length runs ≡ 0 → extended runs kind ≡ runs ++ one kind ∷ []
extended_none [] kind e = refl
extended_none (run ∷ runs) kind e = absurd (omega arith)

-- one scalar more is of the last run's kind
pub runs_joined : (shape : List Scalar) (runs : List ScalarRun) (i : ℕ) (kind : Scalar) (read written : ScalarRun) → runs ≡ runs_of shape → i + 1 ≡ length runs → read ≡ get_or runs i read → is_same_kind read.kind kind ≡ true → written ≡ get_or runs i written → set runs i (longer written) ≡ runs_of (shape ++ kind ∷ [])
runs_joined shape runs i kind read written is last read_is same written_is =
    let joins : is_same_kind (get_or runs i read).kind kind ≡ true = ap (λ (run : ScalarRun). is_same_kind run.kind kind) (sym read_is) ∙ same in
    let grown : extended runs kind ≡ set runs i (longer (get_or runs i written)) = extended_last runs i kind read written last joins in
    ap (λ (run : ScalarRun). set runs i (longer run)) written_is ∙ sym grown ∙ ap (λ (some : List ScalarRun). extended some kind) is ∙ sym (runs_more shape kind)

-- it is of another kind
pub runs_begun : (shape : List Scalar) (runs : List ScalarRun) (i : ℕ) (kind : Scalar) (read : ScalarRun) → runs ≡ runs_of shape → i + 1 ≡ length runs → read ≡ get_or runs i read → is_same_kind read.kind kind ≡ false → runs ++ one kind ∷ [] ≡ runs_of (shape ++ kind ∷ [])
runs_begun shape runs i kind read is last read_is other =
    let stays : is_same_kind (get_or runs i read).kind kind ≡ false = ap (λ (run : ScalarRun). is_same_kind run.kind kind) (sym read_is) ∙ other in
    sym (extended_other runs i kind read last stays) ∙ ap (λ (some : List ScalarRun). extended some kind) is ∙ sym (runs_more shape kind)

-- it is the first
pub runs_first : (shape : List Scalar) (runs : List ScalarRun) (kind : Scalar) → runs ≡ runs_of shape → length runs ≡ 0 → runs ++ one kind ∷ [] ≡ runs_of (shape ++ kind ∷ [])
runs_first shape runs kind is none = sym (extended_none runs kind none) ∙ ap (λ (some : List ScalarRun). extended some kind) is ∙ sym (runs_more shape kind)

-- ---- counts

with_total : (kind : Scalar) (runs : List ScalarRun) → sum_by (λ run. run.count) (with_scalar kind runs) ≡ sum_by (λ run. run.count) runs + 1
with_total kind [] = refl
with_total kind (run ∷ runs) =
    elim (cases_Bool (is_same_kind kind run.kind)) [
      | inl same ↦ rw same (omega (arith, sum_by-cons (λ (run : ScalarRun). run.count) (longer run) runs, sum_by-cons (λ (run : ScalarRun). run.count) run runs))
      | inr other ↦ rw other (omega (arith, sum_by-cons (λ (run : ScalarRun). run.count) (one kind) (run ∷ runs)))
    ]

total : (shape : List Scalar) → sum_by (λ run. run.count) (runs_of shape) ≡ length shape
total [] = refl
total (kind ∷ shape) = with_total kind (runs_of shape) ∙ omega (arith, total shape)

counts_short : (shape : List Scalar) → length shape + 1 < 2 ^ 32 → All (λ run. run.count + 1 < 2 ^ 32) (runs_of shape)
counts_short shape lt =
    let none : ScalarRun = record { count = 0; kind = Int32 } in
    All-from_get_or (λ (run : ScalarRun). run.count + 1 < 2 ^ 32) (runs_of shape) none
    (λ i h. omega (arith, lt, total shape, get_or-le-sum_by (λ (run : ScalarRun). run.count) (runs_of shape) i none h))

pub counts_before : (shape : List Scalar) (i : ℕ) → i < length shape → length shape < 2 ^ 32 → All (λ run. run.count + 1 < 2 ^ 32) (runs_of (take i shape))
counts_before shape i lt short = counts_short (take i shape) (omega (arith, length-take i shape))

with_length : (kind : Scalar) (runs : List ScalarRun) → length (with_scalar kind runs) ≤ length runs + 1
with_length kind [] = omega arith
with_length kind (run ∷ runs) =
    elim (cases_Bool (is_same_kind kind run.kind)) [ inl same ↦ rw same (omega arith) | inr other ↦ rw other (omega arith) ]

-- no more runs than scalars
pub runs_length : (shape : List Scalar) → length (runs_of shape) ≤ length shape
runs_length [] = omega arith
runs_length (kind ∷ shape) = omega (arith, with_length kind (runs_of shape), runs_length shape)

-- ---- the shape again

abbrev HaveSome : List ScalarRun → Type 0
HaveSome runs = AllByRecursion (λ run. 1 ≤ run.count) runs

with_some : (kind : Scalar) (runs : List ScalarRun) → HaveSome runs → HaveSome (with_scalar kind runs)
with_some kind [] h = (omega arith, tt)
with_some kind (run ∷ runs) h =
    elim (cases_Bool (is_same_kind kind run.kind)) [ inl same ↦ rw same (omega arith, h.1) | inr other ↦ rw other (omega arith, h) ]

have_some : (shape : List Scalar) → HaveSome (runs_of shape)
have_some [] = tt
have_some (kind ∷ shape) = with_some kind (runs_of shape) (have_some shape)

-- the runs as the section lists them
listed : (runs : List ScalarRun) → HaveSome runs → List KindRun
listed [] h = []
listed (run ∷ runs) h = record { count = run.count; kind = run.kind; some = h.0 } ∷ listed runs h.1

listed_length : (runs : List ScalarRun) (h : HaveSome runs) → length (listed runs h) ≡ length runs
unfolding listed
listed_length [] h = refl
listed_length (run ∷ runs) h = ap suc (listed_length runs h.1)

listed_spelled : (runs : List ScalarRun) (h : HaveSome runs) (bytes : List ℕ) → Each Spelled_scalar_run runs bytes → Each Spelled_run (listed runs h) bytes
unfolding listed
listed_spelled [] h bytes each = each
listed_spelled (run ∷ runs) h bytes each = record {
  front = each.front;
  back = each.back;
  whole = each.whole;
  first = each.first;
  second = listed_spelled runs h.1 each.back each.second;
}

scalars_of : List ScalarRun → List Scalar
scalars_of runs = flat_map (λ run. replicate run.count run.kind) runs

listed_scalars : (runs : List ScalarRun) (h : HaveSome runs) → flat_map (λ (run : KindRun). replicate run.count run.kind) (listed runs h) ≡ scalars_of runs
unfolding listed scalars_of
listed_scalars [] h = refl
listed_scalars (run ∷ runs) h = ap (λ (rest : List Scalar). replicate run.count run.kind ++ rest) (listed_scalars runs h.1)

with_scalars : (kind : Scalar) (runs : List ScalarRun) → scalars_of (with_scalar kind runs) ≡ kind ∷ scalars_of runs
unfolding scalars_of
with_scalars kind [] = refl
with_scalars kind (run ∷ runs) =
    elim (cases_Bool (is_same_kind kind run.kind)) [
      | inl same ↦ rw (same, add-one, same_is kind run.kind same) refl
      | inr other ↦ rw other refl
    ]

scalars_again : (shape : List Scalar) → scalars_of (runs_of shape) ≡ shape
unfolding scalars_of
scalars_again [] = refl
scalars_again (kind ∷ shape) = with_scalars kind (runs_of shape) ∙ ap (λ (rest : List Scalar). kind ∷ rest) (scalars_again shape)

pub shape_spelled : (shape : List Scalar) → length shape < 2 ^ 32 → Each Spelled_scalar_run (runs_of shape) (flat_map run_bytes (runs_of shape)) → Runs shape (shape_bytes shape)
shape_spelled shape lt each =
    let some = have_some shape in
    let count = listed_length (runs_of shape) some in
    let short : length (runs_of shape) < 2 ^ 32 = omega (arith, runs_length shape) in
    record {
      runs = listed (runs_of shape) some;
      spelled =
          joined (Index (length (listed (runs_of shape) some))) (Each Spelled_run (listed (runs_of shape) some)) (unsigned_bytes (length (runs_of shape))) (flat_map run_bytes (runs_of shape))
          (rw count (index_spelled (length (runs_of shape)) short))
          (listed_spelled (runs_of shape) some (flat_map run_bytes (runs_of shape)) each);
      whole = sym (listed_scalars (runs_of shape) some ∙ scalars_again shape);
    }

-- ---- a loop's turn: one more run is written

abbrev pub none : ScalarRun
none = record { count = 0; kind = Int32 }

pub written_more : (runs : List ScalarRun) (i : ℕ) (start now new : List ℕ) → i < length runs → now ≡ start ++ flat_map run_bytes (take i runs) → new ≡ now ++ run_bytes (get_or runs i none) → new ≡ start ++ flat_map run_bytes (take (i + 1) runs)
written_more runs i start now new lt before e =
    rw (take_more runs i none lt, flat_map-append run_bytes (take i runs) (get_or runs i none ∷ []), append-nil (run_bytes (get_or runs i none)))
    (e ∙ ap (λ (bytes : List ℕ). bytes ++ run_bytes (get_or runs i none)) before ∙ append_assoc start (flat_map run_bytes (take i runs)) (run_bytes (get_or runs i none)))

pub spelled_more : (runs : List ScalarRun) (i : ℕ) → i < length runs → All (λ run. Spelled_scalar_run run (run_bytes run)) (take i runs) → Spelled_scalar_run (get_or runs i none) (run_bytes (get_or runs i none)) → All (λ run. Spelled_scalar_run run (run_bytes run)) (take (i + 1) runs)
spelled_more runs i lt before this = All-more (λ (run : ScalarRun). Spelled_scalar_run run (run_bytes run)) runs i none lt before this

pub shape_put : {E : Type 0} (shape : List Scalar) (runs : List ScalarRun) (result : Result (Unit {0}) E) → length shape < 2 ^ 32 → runs ≡ runs_of shape → OnOk result (Each Spelled_scalar_run runs (flat_map run_bytes runs)) → OnOk result (Runs shape (shape_bytes shape))
shape_put shape runs (Ok x) short is each = shape_spelled shape short (subst (λ (some : List ScalarRun). Each Spelled_scalar_run some (flat_map run_bytes some)) is each)
shape_put shape runs (Err e) short is each = each
