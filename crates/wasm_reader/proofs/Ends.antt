-- How reading ends: with a value of which one thing holds, or with a fault of which another does.
use Rattle.std.proofs.Common.{◌≡◌, Bool, true, false, cond, Option, Some, None, Result, Ok, Err, refl, subst}
use Rattle.wasm_reader.specs.declared.fault.Fault.{Fault}
use Rattle.wasm_reader.specs.Reading.{◌>>=◌, or_fault}

pub ok_is : {A : Type 0} (x y : A) → (let r : Result A Fault = Ok x in r) ≡ Ok y → x ≡ y
ok_is x y e = cc

pub err_is : {A : Type 0} (d e : Fault) → (let r : Result A Fault = Err d in r) ≡ Err e → d ≡ e
err_is d e h = cc

pub record Ends {A : Type 0} (G : A → Type 0) (N : Fault → Type 0) (r : Result A Fault) : Type 0 where
  pub ok : (x : A) → r ≡ Ok x → G x
  pub err : (e : Fault) → r ≡ Err e → N e

pub with_value : {A : Type 0} {G : A → Type 0} {N : Fault → Type 0} (x : A) → G x → Ends G N (Ok x)
with_value {G = G} x h = record { ok = λ y e. subst G (ok_is x y e) h; err = λ d e. absurd cc }

pub with_fault : {A : Type 0} {G : A → Type 0} {N : Fault → Type 0} (x : Fault) → N x → Ends G N (Err x)
with_fault {N = N} x h = record { ok = λ y e. absurd cc; err = λ d e. subst N (err_is x d e) h }

-- a step, and what follows it
pub step : {A B : Type 0} {G : A → Type 0} {N : Fault → Type 0} {H : B → Type 0} {M : Fault → Type 0} (r : Result A Fault) {f : A → Result B Fault} → Ends G N r → ((e : Fault) → N e → M e) → ((x : A) → G x → Ends H M (f x)) → Ends H M (r >>= f)
step (Ok x) h bad good = good x (h.ok x refl)
step (Err e) h bad good = with_fault e (bad e (h.err e refl))

-- the same within a longer reading
pub step_in : {A B C : Type 0} {G : A → Type 0} {N : Fault → Type 0} {H : C → Type 0} {M : Fault → Type 0} (r : Result A Fault) (f : A → Result B Fault) (g : B → Result C Fault) → Ends G N r → ((e : Fault) → N e → M e) → ((x : A) → G x → Ends H M (f x >>= g)) → Ends H M ((r >>= f) >>= g)
step_in (Ok x) f g h bad good = good x (h.ok x refl)
step_in (Err e) f g h bad good = with_fault e (bad e (h.err e refl))

-- one step after another is a longer step
pub regroup : {A B C : Type 0} (r : Result A Fault) (f : A → Result B Fault) (g : B → Result C Fault) → ((r >>= f) >>= g) ≡ (r >>= λ x. f x >>= g)
regroup (Ok x) f g = refl
regroup (Err e) f g = refl

pub weaker : {A : Type 0} {G H : A → Type 0} {N M : Fault → Type 0} {r : Result A Fault} → Ends G N r → ((x : A) → G x → H x) → ((e : Fault) → N e → M e) → Ends H M r
weaker h good bad = record { ok = λ x e. good x (h.ok x e); err = λ x e. bad x (h.err x e) }

-- by both ways that a test may go
pub by_test : {A : Type 0} {G : A → Type 0} {N : Fault → Type 0} (b : Bool) {r s : Result A Fault} → (b ≡ true → Ends G N r) → (b ≡ false → Ends G N s) → Ends G N (cond b r s)
by_test true good bad = good refl
by_test false good bad = bad refl

-- by whether there is a value
pub by_value : {A : Type 0} {G : A → Type 0} {N : Fault → Type 0} (x : Fault) (o : Option A) → ((y : A) → o ≡ Some y → G y) → (o ≡ None → N x) → Ends G N (or_fault x o)
by_value x None some none = with_fault x (none refl)
by_value x (Some y) some none = with_value y (some y refl)
