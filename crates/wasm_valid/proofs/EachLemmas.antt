-- What holds of each function's type and body.
use Rattle.std.proofs.Common.{◌≡◌, ◌≤◌, ◌<◌, ◌+◌, ℕ, zero, suc, List, [], ◌∷◌, length, get_or, Some, None, refl, sym, ap, ◌∙◌, subst, arith, ◌⊎◌, inl, inr}
use Rattle.std.specs.Prelude.{slice_get, map, unwrap_or}
use Rattle.std.specs.Option.{option_map}
use Rattle.std.specs.List.{AllByRecursion}
use Rattle.std.proofs.lemmas.Option.{slice_get-get_or, slice_get_within, slice_get-map}
use Rattle.wasm_tree.specs.declared.module.FuncType.{FuncType}
use Rattle.wasm_tree.specs.declared.module.FuncBody.{FuncBody}
use Rattle.wasm_tree.specs.declared.module.Module.{Module}
use Rattle.wasm_tree.specs.Numbers.{emit_type, no_type, type_at, function_types}
use Rattle.wasm_tree.specs.Control.{IsClosed}
use Rattle.wasm_tree.specs.Spelled.{count_of_locals, most_locals}
use Rattle.wasm_tree.specs.Valid.{EachBody, IsBody, IsBodyWithinLimits, AreBodiesTyped}
use Rattle.wasm_valid.specs.Bodies.{IsTypedAt}
use Rattle.wasm_valid.proofs.OperandTypes.{some_is}

pub each_from : (P : FuncType → FuncBody → Type 0) (m : Module) (types : List ℕ) (bodies : List FuncBody) → length types ≡ length bodies
    → ((k t : ℕ) (b : FuncBody) → slice_get types k ≡ Some t → slice_get bodies k ≡ Some b → P (type_at m t) b) → EachBody P m types bodies
each_from P m [] [] e h = refl
each_from P m [] (b ∷ bodies) e h = absurd (omega (arith, e))
each_from P m (t ∷ types) [] e h = absurd (omega (arith, e))
each_from P m (t ∷ types) (b ∷ bodies) e h = (h 0 t b refl refl, each_from P m types bodies (omega (arith, e)) (λ k u c p q. h (suc k) u c p q))

pub each_at : (P : FuncType → FuncBody → Type 0) (m : Module) (types : List ℕ) (bodies : List FuncBody) (k t : ℕ) (b : FuncBody) → EachBody P m types bodies → slice_get types k ≡ Some t → slice_get bodies k ≡ Some b → P (type_at m t) b
each_at P m [] bodies k t b h p q = absurd cc
each_at P m (u ∷ types) [] k t b h p q = absurd h
each_at P m (u ∷ types) (c ∷ bodies) zero t b h p q =
    let e : u ≡ t = some_is u t p in
    let f : c ≡ b = some_is c b q in
    subst (λ (c : FuncBody). P (type_at m t) c) f (subst (λ (u : ℕ). P (type_at m u) c) e h.0)
each_at P m (u ∷ types) (c ∷ bodies) (suc k) t b h p q = each_at P m types bodies k t b h.1 p q

-- the type of the function with this body
pub type_is : (m : Module) (k t : ℕ) (type : FuncType) → function_types m ≡ emit_type ∷ map (type_at m) m.functions → slice_get (function_types m) (k + 1) ≡ Some type → slice_get m.functions k ≡ Some t → type ≡ type_at m t
type_is m k t type e h p =
    let n : k + 1 ≡ suc k = omega arith in
    let at : slice_get (map (type_at m) m.functions) k ≡ Some type = sym (ap (λ l. slice_get l (suc k)) e) ∙ (sym (ap (λ (i : ℕ). slice_get (function_types m) i) n) ∙ h) in
    some_is type (type_at m t) (sym at ∙ (slice_get-map (type_at m) m.functions k ∙ ap (option_map (type_at m)) p))

pub type_there : (m : Module) (k : ℕ) → function_types m ≡ emit_type ∷ map (type_at m) m.functions → k < length m.functions → slice_get (function_types m) (k + 1) ≡ None → ⊥
type_there m k e lt h =
    let n : k + 1 ≡ suc k = omega arith in
    let at : slice_get (map (type_at m) m.functions) k ≡ None = sym (ap (λ l. slice_get l (suc k)) e) ∙ (sym (ap (λ (i : ℕ). slice_get (function_types m) i) n) ∙ h) in
    absurd (cc (sym at ∙ (slice_get-map (type_at m) m.functions k ∙ ap (option_map (type_at m)) (slice_get-get_or m.functions k 0 lt))))

all_index : {A : Type 0} (P : A → Type 0) (xs : List A) (k : ℕ) (d : A) → AllByRecursion P xs → k < length xs → P (get_or xs k d)
all_index P [] k d h lt = absurd (omega (arith, lt))
all_index P (x ∷ xs) zero d h lt = h.0
all_index P (x ∷ xs) (suc k) d h lt = all_index P xs k d h.1 (omega (arith, lt))

pub number_there : (m : Module) (k d : ℕ) → AllByRecursion (λ type. type < length m.types) m.functions → k < length m.functions → get_or m.functions k d < length m.types
number_there m k d h lt = all_index (λ (type : ℕ). type < length m.types) m.functions k d h lt

pub type_of_number : (m : Module) (k t n : ℕ) (d : FuncType) → slice_get m.functions k ≡ Some t → k < length m.functions → n ≡ get_or m.functions k n → n < length m.types → d ≡ get_or m.types n d → d ≡ type_at m t
type_of_number m k t n d e lt is there at =
    let same : n ≡ t = is ∙ some_is (get_or m.functions k n) t (sym (slice_get-get_or m.functions k n lt) ∙ e) in
    at ∙ (sym (ap (λ o. unwrap_or o no_type) (slice_get-get_or m.types n d there)) ∙ ap (type_at m) same)

limits_at : (m : Module) (k : ℕ) (body : FuncBody) → AllByRecursion IsBodyWithinLimits m.codes → k < length m.codes → body ≡ get_or m.codes k body → IsBodyWithinLimits body
limits_at m k body h lt e = subst IsBodyWithinLimits (sym e) (all_index IsBodyWithinLimits m.codes k body h lt)

pub locals_at : (m : Module) (k : ℕ) (body : FuncBody) → AllByRecursion IsBodyWithinLimits m.codes → k < length m.codes → body ≡ get_or m.codes k body → count_of_locals body.locals ≤ most_locals
locals_at m k body h lt e = (limits_at m k body h lt e).locals

pub closed_at : (m : Module) (k : ℕ) (body : FuncBody) → AllByRecursion IsBodyWithinLimits m.codes → k < length m.codes → body ≡ get_or m.codes k body → IsClosed body.code
closed_at m k body h lt e = (limits_at m k body h lt e).nesting

-- the body of this place, and its type
pub typed_here : (m : Module) (k : ℕ) (type : FuncType) (body : FuncBody) → ((t : ℕ) → slice_get m.functions k ≡ Some t → type ≡ type_at m t) → k < length m.codes → body ≡ get_or m.codes k body → IsBody m type body → IsTypedAt m k
typed_here m k type body same lt e b t other p q =
    let is : body ≡ other = some_is body other (ap (λ (x : FuncBody). Some x) e ∙ (sym (slice_get-get_or m.codes k body lt) ∙ q)) in
    subst (λ (x : FuncBody). IsBody m (type_at m t) x) is (subst (λ (x : FuncType). IsBody m x body) (same t p) b)

pub untyped_here : (m : Module) (k : ℕ) (type : FuncType) (body : FuncBody) → ((t : ℕ) → slice_get m.functions k ≡ Some t → type ≡ type_at m t) → k < length m.functions → k < length m.codes → body ≡ get_or m.codes k body → (IsBody m type body → ⊥) → IsTypedAt m k → ⊥
untyped_here m k type body same lf lt e lacks at =
    let p : slice_get m.functions k ≡ Some (get_or m.functions k 0) = slice_get-get_or m.functions k 0 lf in
    let q : slice_get m.codes k ≡ Some body = slice_get-get_or m.codes k body lt ∙ ap (λ (x : FuncBody). Some x) (sym e) in
    lacks (subst (λ (x : FuncType). IsBody m x body) (sym (same (get_or m.functions k 0) p)) (at (get_or m.functions k 0) body p q))

pub all_typed : (m : Module) (n : ℕ) → length m.functions ≡ length m.codes → length m.codes ≤ n → ((k : ℕ) → k < n → IsTypedAt m k) → AreBodiesTyped m
all_typed m n e le h = each_from (IsBody m) m m.functions m.codes e (λ k t b p q. h k (omega (arith, le, slice_get_within m.codes k b q)) t b p q)

pub typed_each : (m : Module) (k : ℕ) → AreBodiesTyped m → IsTypedAt m k
typed_each m k h t b p q = each_at (IsBody m) m m.functions m.codes k t b h p q

pub typed_more : (m : Module) (n : ℕ) → ((k : ℕ) → k < n → IsTypedAt m k) → IsTypedAt m n → (k : ℕ) → k < n + 1 → IsTypedAt m k
typed_more m n h at k lt = elim (last k n lt) [ inl l ↦ h k l | inr e ↦ subst (λ (n : ℕ). IsTypedAt m n) (sym e) at ]
  where
    last : (k n : ℕ) → k < n + 1 → (k < n) ⊎ (k ≡ n)
    last k n lt = grind arith
