-- Lists of values of types.
use Rattle.std.proofs.Common.{◌≡◌, ℕ, zero, suc, ◌<◌, List, [], ◌∷◌, ◌++◌, length, take, drop, Some, refl, sym, subst, arith}
use Rattle.std.specs.Prelude.{slice_get, slice_set, reverse, replicate}
use Rattle.std.proofs.lemmas.List.{reverse-append}
use Rattle.wasm_tree.specs.declared.module.ValType.{ValType}
use Rattle.wasm_tree.specs.declared.module.ValType.TheVariants.{I32, I64}
use Rattle.wasm_sound.specs.Kinds.{IsOf, AreOf}

pub same_length : (types : List ValType) (values : List ℕ) → AreOf types values → length values ≡ length types
same_length [] [] h = refl
same_length [] (x ∷ xs) h = absurd h
same_length (t ∷ ts) [] h = absurd h
same_length (t ∷ ts) (x ∷ xs) h = let e = same_length ts xs h.1 in omega arith

pub joined : (types more : List ValType) (values others : List ℕ) → AreOf types values → AreOf more others → AreOf (types ++ more) (values ++ others)
joined [] more [] others h g = g
joined [] more (x ∷ xs) others h g = absurd h
joined (t ∷ ts) more [] others h g = absurd h
joined (t ∷ ts) more (x ∷ xs) others h g = (h.0, joined ts more xs others h.1 g)

-- as many values as there are types in front
pub front_are : (types below : List ValType) (values : List ℕ) → AreOf (types ++ below) values → AreOf types (take (length types) values)
front_are [] below values h = tt
front_are (t ∷ ts) below [] h = absurd h
front_are (t ∷ ts) below (x ∷ xs) h = (h.0, front_are ts below xs h.1)

pub back_are : (types below : List ValType) (values : List ℕ) → AreOf (types ++ below) values → AreOf below (drop (length types) values)
back_are [] below values h = h
back_are (t ∷ ts) below [] h = absurd h
back_are (t ∷ ts) below (x ∷ xs) h = back_are ts below xs h.1

zero_is : (type : ValType) → IsOf type 0
zero_is I32 = omega arith
zero_is I64 = omega arith

pub zeros_are : (types : List ValType) → AreOf types (replicate (length types) 0)
zeros_are [] = tt
zeros_are (t ∷ ts) = (zero_is t, zeros_are ts)

pub reversed : (types : List ValType) (values : List ℕ) → AreOf types values → AreOf (reverse types) (reverse values)
reversed [] [] h = tt
reversed [] (x ∷ xs) h = absurd h
reversed (t ∷ ts) [] h = absurd h
reversed (t ∷ ts) (x ∷ xs) h =
    subst (λ l. AreOf l (reverse (x ∷ xs))) (sym (reverse-append (t ∷ []) ts))
    (subst (AreOf (reverse ts ++ t ∷ [])) (sym (reverse-append (x ∷ []) xs)) (joined (reverse ts) (t ∷ []) (reverse xs) (x ∷ []) (reversed ts xs h.1) (h.0, tt)))

pub one_at : (types : List ValType) (values : List ℕ) (n : ℕ) (type : ValType) → AreOf types values → slice_get types n ≡ Some type →
    (x : ℕ) × (slice_get values n ≡ Some x) × IsOf type x × (n < length values)
one_at [] values zero type h e = absurd (cc)
one_at [] values (suc n) type h e = absurd (cc)
one_at (t ∷ ts) [] n type h e = absurd h
one_at (t ∷ ts) (x ∷ xs) zero type h e = let same : t ≡ type = cc in (x, refl, subst (λ t. IsOf t x) same h.0, omega arith)
one_at (t ∷ ts) (x ∷ xs) (suc n) type h e = let r = one_at ts xs n type h.1 e in let l = r.3 in (r.0, r.1, r.2, omega arith)

pub set_at : (types : List ValType) (values : List ℕ) (n x : ℕ) (type : ValType) → AreOf types values → slice_get types n ≡ Some type → IsOf type x → AreOf types (slice_set values n x)
set_at [] values zero x type h e g = absurd (cc)
set_at [] values (suc n) x type h e g = absurd (cc)
set_at (t ∷ ts) [] n x type h e g = absurd h
set_at (t ∷ ts) (y ∷ ys) zero x type h e g = let same : type ≡ t = cc in (subst (λ t. IsOf t x) same g, h.1)
set_at (t ∷ ts) (y ∷ ys) (suc n) x type h e g = (h.0, set_at ts ys n x type h.1 e g)
