-- Endpoints for values at which the paths so far end.
use Rattle.std.proofs.Common.{◌≡◌, ℕ, ◌+◌, ◌<◌, Bool, true, false, List, [], ◌∷◌, length, get_or, set, refl, ap, ◌∙◌, sym, arith, zero, suc, subst, Some, None, ⊎_elim}
use Rattle.std.specs.Prelude.{◌==◌, ◌&&◌, slice_get}
use Rattle.std.proofs.lemmas.Bool.{cases_eq}
use Rattle.std.proofs.lemmas.Grind.{common_steps}
use Rattle.cm_base.specs.declared.place.EndId.{EndId}
use Rattle.cm_base.specs.declared.place.Place.{Place}
use Rattle.cm_core.specs.declared.program.Program.{Program}
use Rattle.cm_core.specs.Tree.{end_at}
use Rattle.graph_flat.specs.declared.paths.Path.{Path}
use Rattle.graph_flat.specs.Shared.{is_value, takes, AreShared}

-- the first i paths: which endpoints for values they end at, and that no two end at the same
pub record Seen (p : Program) (xs : List Path) (i : ℕ) (taken : List Bool) : Type 0 where
  pub some : (e : ℕ) → get_or taken e false ≡ true → (j : ℕ) × (x : Path) × (j < i) × (slice_get xs j ≡ Some x) × (takes p e x ≡ true)
  pub none : (e j : ℕ) (x : Path) → get_or taken e false ≡ false → j < i → slice_get xs j ≡ Some x → takes p e x ≡ false
  pub apart : (one other : ℕ) (x y : Path) → one < other → other < i → slice_get xs one ≡ Some x → slice_get xs other ≡ Some y → takes p x.to.0 y ≡ false

same_at : (xs : List Path) (i : ℕ) (x y : Path) → slice_get xs i ≡ Some x → slice_get xs i ≡ Some y → x ≡ y
same_at xs i x y a b = cc

not_value : (p : Program) (e : ℕ) (x : Path) → is_value (end_at p x.to).kind ≡ false → takes p e x ≡ false
not_value p e x h = grind (arith, common_steps, h)

takes_own : (p : Program) (x : Path) → is_value (end_at p x.to).kind ≡ true → takes p x.to.0 x ≡ true
takes_own p x h = grind (arith, common_steps, h)

takes_not : (p : Program) (e : ℕ) (x : Path) → (e ≡ x.to.0 → ⊥) → takes p e x ≡ false
takes_not p e x ne = grind (arith, common_steps)

takes_to : (p : Program) (e : ℕ) (x : Path) → takes p e x ≡ true → x.to.0 ≡ e
takes_to p e x h = grind (arith, common_steps, h)

last_or : (P : Type 0) (j i : ℕ) → j < i + 1 → (j < i → P) → (j ≡ i → P) → P
last_or P j i lt a b = ⊎_elim b (λ (ne : j ≡ i → ⊥). a (omega (arith, lt, ne))) (cases_eq j i)

-- one more that ends at no endpoint for values
pub seen_other : (p : Program) (xs : List Path) (i : ℕ) (taken : List Bool) (y : Path) → Seen p xs i taken → slice_get xs i ≡ Some y → is_value (end_at p y.to).kind ≡ false → Seen p xs (i + 1) taken
seen_other p xs i taken y s at v = record {
  some = λ e h. let o = s.some e h in (o.0, o.1, (let lt = o.2 in omega (arith, lt)), o.3, o.4);
  none = λ e j x h lt is. last_or _ j i lt (λ l. s.none e j x h l is)
      (λ q. let same : y ≡ x = same_at xs i y x at (subst (λ (k : ℕ). slice_get xs k ≡ Some x) q is) in subst (λ (z : Path). takes p e z ≡ false) same (not_value p e y v));
  apart = λ one other x z less lt a b. last_or _ other i lt (λ l. s.apart one other x z less l a b)
      (λ q. let same : y ≡ z = same_at xs i y z at (subst (λ (k : ℕ). slice_get xs k ≡ Some z) q b) in subst (λ (u : Path). takes p x.to.0 u ≡ false) same (not_value p x.to.0 y v));
}

set_here : (bs : List Bool) (x q : ℕ) (v : Bool) → x < length bs → q ≡ x → get_or (set bs x v) q false ≡ v
set_here bs x q v lt e = grind (arith, common_steps)

set_other : (bs : List Bool) (x q : ℕ) (v : Bool) → (q ≡ x → ⊥) → get_or (set bs x v) q false ≡ get_or bs q false
set_other bs x q v ne = grind (arith, common_steps)

clash : (b : Bool) → b ≡ true → b ≡ false → ⊥
clash b a c = cc

-- where an earlier path doesn't end at the endpoint of this one, this one doesn't end at that of the earlier: both have
-- one endpoint, and so one kind
crossed : (p : Program) (x y : Path) → takes p y.to.0 x ≡ false → is_value (end_at p y.to).kind ≡ true → takes p x.to.0 y ≡ false
crossed p x y h v = ⊎_elim
    (λ (q : x.to.0 ≡ y.to.0). absurd (clash _ (subst (λ (i : EndId). ((i.0 == y.to.0) && is_value (end_at p i).kind) ≡ true) (ap (λ (k : ℕ). let i : EndId = record { 0 = k } in i) (sym q)) (takes_own p y v)) h))
    (λ (ne : x.to.0 ≡ y.to.0 → ⊥). takes_not p x.to.0 y ne)
    (cases_eq x.to.0 y.to.0)

-- one more that ends at an endpoint for values
pub seen_value : (p : Program) (xs : List Path) (i : ℕ) (taken : List Bool) (y : Path) → Seen p xs i taken → slice_get xs i ≡ Some y → is_value (end_at p y.to).kind ≡ true → y.to.0 < length taken
    → get_or taken y.to.0 false ≡ false → Seen p xs (i + 1) (set taken y.to.0 true)
seen_value p xs i taken y s at v within off = record {
  some = λ e h. ⊎_elim
      (λ (q : e ≡ y.to.0). (i, y, omega arith, at, subst (λ (k : ℕ). takes p k y ≡ true) (sym q) (takes_own p y v)))
      (λ (ne : e ≡ y.to.0 → ⊥). let o = s.some e (sym (set_other taken y.to.0 e true ne) ∙ h) in (o.0, o.1, (let lt = o.2 in omega (arith, lt)), o.3, o.4))
      (cases_eq e y.to.0);
  none = λ e j x h lt is. ⊎_elim
      (λ (q : e ≡ y.to.0). absurd (clash _ (set_here taken y.to.0 e true within q) h))
      (λ (ne : e ≡ y.to.0 → ⊥).
      let old : get_or taken e false ≡ false = sym (set_other taken y.to.0 e true ne) ∙ h in
      last_or (takes p e x ≡ false) j i lt (λ l. s.none e j x old l is)
      (λ q. let same : y ≡ x = same_at xs i y x at (subst (λ (k : ℕ). slice_get xs k ≡ Some x) q is) in subst (λ (z : Path). takes p e z ≡ false) same (takes_not p e y ne)))
      (cases_eq e y.to.0);
  apart = λ one other x z less lt a b. last_or _ other i lt (λ l. s.apart one other x z less l a b)
      (λ q.
      let same : y ≡ z = same_at xs i y z at (subst (λ (k : ℕ). slice_get xs k ≡ Some z) q b) in
      let first : takes p y.to.0 x ≡ false = s.none y.to.0 one x off (omega (arith, less, q)) a in
      subst (λ (u : Path). takes p x.to.0 u ≡ false) same (crossed p x y first v));
}

-- a second one at an endpoint
pub seen_twice : (p : Program) (xs : List Path) (i : ℕ) (taken : List Bool) (y : Path) (place : Place) → Seen p xs i taken → slice_get xs i ≡ Some y → is_value (end_at p y.to).kind ≡ true
    → get_or taken y.to.0 false ≡ true → y.last ≡ place → AreShared p xs place
seen_twice p xs i taken y place s at v on last =
    let o = s.some y.to.0 on in
    let e : o.1.to.0 ≡ y.to.0 = takes_to p y.to.0 o.1 o.4 in
    record {
      one = o.0;
      other = i;
      order = o.2;
      path = o.1;
      rival = y;
      path_is = o.3;
      rival_is = at;
      same = subst (λ (k : ℕ). takes p k y ≡ true) (sym e) (takes_own p y v);
      at = last;
    }

pub got : {X : Type 0} (xs : List X) (i : ℕ) (d : X) → i < length xs → slice_get xs i ≡ Some (get_or xs i d)
got [] i d lt = absurd (omega (arith, lt))
got (x ∷ xs) zero d lt = refl
got (x ∷ xs) (suc i) d lt = got xs i d (omega (arith, lt))

none_got : {X : Type 0} (x : X) (P : Type 0) → None ≡ Some x → P
none_got x P h = absurd (let f : None ≡ Some x = h in cc)

pub got_within : {X : Type 0} (xs : List X) (i : ℕ) (x : X) → slice_get xs i ≡ Some x → i < length xs
got_within [] i x e = none_got x _ e
got_within (y ∷ xs) zero x e = omega arith
got_within (y ∷ xs) (suc i) x e = let r = got_within xs i x e in omega (arith, r)
