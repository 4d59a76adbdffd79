-- Endpoints of the host of which no two have one name.
use Rattle.std.proofs.Common.{◌≡◌, ◌≢◌, ℕ, ◌+◌, ◌<◌, List, [], ◌∷◌, length, get_or, drop, Bool, true, false, cond, Option, Some, None, refl, sym, subst, drop-cons, add-one}
use Rattle.std.specs.List.{AllByRecursion, position_from}
use Rattle.std.specs.Option.{is_some}
use Rattle.std.specs.Str.{bytes_eq}
use Rattle.std.proofs.lemmas.Slice.Eq.{bytes_eq-Decides}
use Rattle.cm_base.specs.declared.host.HostEnd.{HostEnd}
use Rattle.cm_base.specs.HostEnds.{AreDistinct, names_of}

-- the first of the endpoints from one on that has a name
pub position_drop : (name : List ℕ) (ends : List HostEnd) (i : ℕ) (end : HostEnd) → i < length ends → end ≡ get_or ends i end
    → position_from (λ e. bytes_eq e.name name) i (drop i ends) ≡ cond (bytes_eq end.name name) (Some i) (position_from (λ e. bytes_eq e.name name) (i + 1) (drop (i + 1) ends))
position_drop name ends i end within is = rw (drop-cons ends i end within, sym is, add-one i) refl

differ : (xs ys : List ℕ) → bytes_eq xs ys ≡ false → xs ≢ ys
differ xs ys h = λ same. let t : bytes_eq xs ys ≡ true = (bytes_eq-Decides xs ys).1 same in absurd (cc)

none_step : (b : Bool) (i : ℕ) (o : Option ℕ) → cond b (Some i) o ≡ None → (b ≡ false) × (o ≡ None)
none_step true i o h = absurd (cc)
none_step false i o h = (refl, h)

pub no_value : (o : Option ℕ) → is_some o ≡ false → o ≡ None
no_value None h = refl
no_value (Some x) h = absurd (cc)

-- a name that none of the endpoints has
pub none_has : (name : List ℕ) (i : ℕ) (ends : List HostEnd) → position_from (λ e. bytes_eq e.name name) i ends ≡ None → AllByRecursion (λ other. other ≢ name) (names_of ends)
none_has name i [] h = tt
none_has name i (end ∷ ends) h =
    let step = none_step (bytes_eq end.name name) i (position_from (λ e. bytes_eq e.name name) (i + 1) ends) h in
    (differ end.name name step.0, none_has name (i + 1) ends step.1)

-- an endpoint in front of others that have other names
pub distinct_drop : (ends : List HostEnd) (i : ℕ) (end : HostEnd) → i < length ends → end ≡ get_or ends i end
    → AllByRecursion (λ other. other ≢ end.name) (names_of (drop (i + 1) ends)) → AreDistinct (names_of (drop (i + 1) ends)) → AreDistinct (names_of (drop i ends))
distinct_drop ends i end within is apart rest =
    rw (drop-cons ends i end within, sym is)
    (subst (λ (n : ℕ). AllByRecursion (λ other. other ≢ end.name) (names_of (drop n ends)) × AreDistinct (names_of (drop n ends))) (add-one i) (apart, rest))
