-- Endpoints and addresses of slots.
use Rattle.std.proofs.Common.{◌≡◌, ℕ, List, [], ◌∷◌, length, refl, ap, arith}
use Rattle.std.specs.Prelude.{map}
use Rattle.cm_base.specs.declared.host.HostEnd.{HostEnd}
use Rattle.wasm_tree.specs.Section.{slots_of}

pub ends_are : (ends : List HostEnd) (addresses : List ℕ) → length ends ≡ length addresses → map (λ slot. slot.end) (slots_of ends addresses) ≡ ends
ends_are [] addresses e = refl
ends_are (end ∷ ends) [] e = absurd (omega (arith, e))
ends_are (end ∷ ends) (address ∷ addresses) e = ap (λ (l : List HostEnd). end ∷ l) (ends_are ends addresses (omega (arith, e)))

pub addresses_are : (ends : List HostEnd) (addresses : List ℕ) → length ends ≡ length addresses → map (λ slot. slot.address) (slots_of ends addresses) ≡ addresses
addresses_are [] [] e = refl
addresses_are [] (address ∷ addresses) e = absurd (omega (arith, e))
addresses_are (end ∷ ends) [] e = absurd (omega (arith, e))
addresses_are (end ∷ ends) (address ∷ addresses) e = ap (λ (l : List ℕ). address ∷ l) (addresses_are ends addresses (omega (arith, e)))
