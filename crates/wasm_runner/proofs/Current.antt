-- The scalars of value inputs, endpoint by endpoint.
use Rattle.std.proofs.Common.{◌≡◌, ◌<◌, ◌+◌, ℕ, List, [], ◌∷◌, length, get_or, take, drop, ◌++◌, min, ℤ, sym, ap, ◌∙◌, subst, ◌↔◌}
use Rattle.std.specs.Prelude.{Bool, true, false, if◌then◌else◌}
use Rattle.std.proofs.lemmas.List.{drop_more, take_min, drop_min}
use Rattle.cm_base.specs.declared.host.HostEnd.{HostEnd}
use Rattle.cm_base.specs.declared.host.Scalar.{Scalar}
use Rattle.cm_base.specs.Scripts.{HasShape}
use Rattle.wasm_tree.specs.Slots.{is_value_input}
use Rattle.wasm_runner.specs.Snapshots.{kept_kinds}

-- scalars of one shape and then of another
both_shaped : (a b : List Scalar) (values : List ℤ) → HasShape (a ++ b) values → HasShape a (take (length a) values) × HasShape b (drop (length a) values)
both_shaped [] b values h = (tt, h)
both_shaped (kind ∷ kinds) b [] h = absurd h
both_shaped (kind ∷ kinds) b (z ∷ zs) h = let r = both_shaped kinds b zs h.1 in ((h.0, r.0), r.1)

shaped_both : (a b : List Scalar) (values : List ℤ) → HasShape a (take (length a) values) → HasShape b (drop (length a) values) → HasShape (a ++ b) values
shaped_both [] b values f g = g
shaped_both (kind ∷ kinds) b [] f g = absurd f
shaped_both (kind ∷ kinds) b (z ∷ zs) f g = (f.0, shaped_both kinds b zs f.1 g)

module _ (ends : List HostEnd) (i : ℕ) (end : HostEnd) (l : i < length ends) (e : end ≡ get_or ends i end) (Whole : Type 0) (rest : List ℤ) (w : Whole ↔ HasShape (kept_kinds (drop i ends)) rest) where
  abbrev others : List Scalar
  others = kept_kinds (drop (i + 1) ends)

  here : (t : Bool) → is_value_input end ≡ t → kept_kinds (drop i ends) ≡ (if t then end.shape ++ others else others)
  here t h =
      ap kept_kinds (drop_more ends i end l ∙ ap (λ (x : HostEnd). x ∷ drop (i + 1) ends) (sym e)) ∙ ap (λ b. if b then end.shape ++ others else others) h

  -- no value is set of this endpoint
  pub passed : is_value_input end ≡ false → Whole ↔ HasShape others rest
  passed h = ((λ x. subst (λ kinds. HasShape kinds rest) (here false h) (w.0 x)), (λ x. w.1 (subst (λ kinds. HasShape kinds rest) (sym (here false h)) x)))

  module _ (h : is_value_input end ≡ true) (n : ℕ) (m : n ≡ min (length end.shape) (length rest)) (values : List ℤ) (v : values ≡ take n rest) where
    front : values ≡ take (length end.shape) rest
    front = v ∙ ap (λ k. take k rest) m ∙ take_min (length end.shape) rest

    split : Whole → HasShape end.shape (take (length end.shape) rest) × HasShape others (drop (length end.shape) rest)
    split x = both_shaped end.shape others rest (subst (λ kinds. HasShape kinds rest) (here true h) (w.0 x))

    -- the scalars that come next are of this endpoint
    pub next : Whole → HasShape end.shape values
    next x = subst (HasShape end.shape) (sym front) (split x).0

    pub went : (more : List ℤ) → more ≡ drop n rest → HasShape end.shape values → Whole ↔ HasShape others more
    went more r f =
        let back : more ≡ drop (length end.shape) rest = r ∙ ap (λ k. drop k rest) m ∙ drop_min (length end.shape) rest in (
          (λ x. subst (HasShape others) (sym back) (split x).1),
          (λ x. w.1 (subst (λ kinds. HasShape kinds rest) (sym (here true h)) (shaped_both end.shape others rest (subst (HasShape end.shape) front f) (subst (HasShape others) back x)))),
        )
