-- What is known of an endpoint that was found among endpoints.
use Rattle.std.proofs.Common.{◌≡◌, ℕ, zero, suc, ◌+◌, ◌<◌, List, [], ◌∷◌, length, get_or, drop, cond, Some, refl, sym, subst, drop-cons, add-one}
use Rattle.std.specs.Prelude.{slice_get}
use Rattle.std.specs.List.{AllByRecursion, position_from}
use Rattle.std.specs.Str.{bytes_eq}
use Rattle.cm_base.specs.declared.host.HostEnd.{HostEnd}
use Rattle.cm_base.specs.HostEnds.{IsLawfulEnd}

the_same : (one other : HostEnd) → Some one ≡ Some other → one ≡ other
the_same one other h = cc

-- what holds of all holds of each
pub lawful_at : (ends : List HostEnd) (number : ℕ) (end : HostEnd) → slice_get ends number ≡ Some end → AllByRecursion IsLawfulEnd ends → IsLawfulEnd end
lawful_at [] number end found all = absurd (cc)
lawful_at (first ∷ ends) zero end found all = subst IsLawfulEnd (the_same first end found) all.0
lawful_at (first ∷ ends) (suc number) end found all = lawful_at ends number end found all.1

-- the first of the endpoints from one on
pub position-drop : (name : List ℕ) (ends : List HostEnd) (i : ℕ) (end : HostEnd) → i < length ends → end ≡ get_or ends i end
    → position_from (λ e. bytes_eq e.name name) i (drop i ends) ≡ cond (bytes_eq end.name name) (Some i) (position_from (λ e. bytes_eq e.name name) (i + 1) (drop (i + 1) ends))
position-drop name ends i end within is = rw (drop-cons ends i end within, sym is, add-one i) refl
