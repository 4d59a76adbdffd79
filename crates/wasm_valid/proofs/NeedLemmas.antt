-- What each function needs, one after another.
use Rattle.std.proofs.Common.{◌≡◌, ◌≤◌, ◌<◌, ◌+◌, ℕ, zero, suc, List, [], ◌∷◌, ◌++◌, length, get_or, Some, sym, ap, ◌∙◌, subst, arith}
use Rattle.std.specs.Prelude.{slice_get, unwrap_or}
use Rattle.std.specs.List.{AllByRecursion}
use Rattle.std.proofs.lemmas.Option.{slice_get-get_or}
use Rattle.wasm_tree.specs.declared.module.FuncType.{FuncType}
use Rattle.wasm_tree.specs.declared.module.FuncBody.{FuncBody}
use Rattle.wasm_tree.specs.declared.module.Module.{Module}
use Rattle.wasm_tree.specs.Numbers.{no_type, type_at}
use Rattle.wasm_tree.specs.Valid.{HaveFewResults}
use Rattle.wasm_valid.specs.declared.body.Need.{Need}
use Rattle.wasm_valid.specs.Needs.{HoldsNoMore}
use Rattle.wasm_valid.specs.RoomsOf.{IsNeedAt, AreNeedsOf}
use Rattle.wasm_valid.proofs.OperandTypes.{some_is}

pub need_here : (m : Module) (k : ℕ) (type : FuncType) (body : FuncBody) (need : Need) → ((t : ℕ) → slice_get m.functions k ≡ Some t → type ≡ type_at m t) → k < length m.codes → body ≡ get_or m.codes k body →
    HoldsNoMore m type body need.cells need.marks → IsNeedAt m need k
need_here m k type body need same lt e h t other p q =
    let is : body ≡ other = some_is body other (ap (λ (x : FuncBody). Some x) e ∙ (sym (slice_get-get_or m.codes k body lt) ∙ q)) in
    subst (λ (x : FuncBody). HoldsNoMore m (type_at m t) x need.cells need.marks) is (subst (λ (x : FuncType). HoldsNoMore m x body need.cells need.marks) (same t p) h)

pub needs_none : (m : Module) → AreNeedsOf m []
needs_none m zero need e = absurd cc
needs_none m (suc k) need e = absurd cc

more_at : (m : Module) (needs : List Need) (n : ℕ) (need : Need) → ((k : ℕ) (x : Need) → slice_get needs k ≡ Some x → IsNeedAt m x (n + k)) → IsNeedAt m need (n + length needs) →
    (k : ℕ) (x : Need) → slice_get (needs ++ need ∷ []) k ≡ Some x → IsNeedAt m x (n + k)
more_at m [] n need h at zero x e = subst (λ (x : Need). IsNeedAt m x (n + 0)) (some_is need x e) at
more_at m [] n need h at (suc k) x e = absurd (nothing k e)
  where
    nothing : (k : ℕ) → slice_get [] k ≡ Some x → ⊥
    nothing zero e = cc
    nothing (suc k) e = cc
more_at m (y ∷ ys) n need h at zero x e = h 0 x e
more_at m (y ∷ ys) n need h at (suc k) x e =
    let there : suc n + length ys ≡ n + suc (length ys) = omega arith in
    let here : suc n + k ≡ n + suc k = omega arith in
    subst (λ i. IsNeedAt m x i) here
    (more_at m ys (suc n) need (λ j z f. let same : n + suc j ≡ suc n + j = omega arith in subst (λ i. IsNeedAt m z i) same (h (suc j) z f)) (subst (λ i. IsNeedAt m need i) (sym there) at) k x e)

pub needs_more : (m : Module) (needs next : List Need) (n : ℕ) (need : Need) → AreNeedsOf m needs → length needs ≡ n → IsNeedAt m need n → next ≡ needs ++ need ∷ [] → AreNeedsOf m next
needs_more m needs next n need h len at is k x e =
    let zero_first : n ≡ 0 + length needs = omega arith in
    let same : 0 + k ≡ k = omega arith in
    subst (λ i. IsNeedAt m x i) same
    (more_at m needs 0 need (λ j z f. let back : j ≡ 0 + j = omega arith in subst (λ i. IsNeedAt m z i) back (h j z f)) (subst (λ i. IsNeedAt m need i) zero_first at) k x (sym (ap (λ (l : List Need). slice_get l k) is) ∙ e))

pub few_type : (types : List FuncType) (t : ℕ) → AllByRecursion (λ type. length type.results ≤ 1) types → length (unwrap_or (slice_get types t) no_type).results ≤ 1
few_type [] zero h = omega arith
few_type [] (suc t) h = omega arith
few_type (type ∷ types) zero h = h.0
few_type (type ∷ types) (suc t) h = few_type types t h.1

pub few_of_body : (m : Module) (k : ℕ) (type : FuncType) → HaveFewResults m → k < length m.functions → ((t : ℕ) → slice_get m.functions k ≡ Some t → type ≡ type_at m t) → length type.results ≤ 1
few_of_body m k type few lt same =
    let t = get_or m.functions k 0 in
    subst (λ (type : FuncType). length type.results ≤ 1) (sym (same t (slice_get-get_or m.functions k 0 lt))) (few_type m.types t few)
