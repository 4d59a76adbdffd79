-- The current values of a snapshot, endpoint by endpoint.
use Rattle.std.proofs.Common.{◌≡◌, ◌<◌, ◌≤◌, ◌+◌, ◌++◌, ℕ, zero, suc, List, [], ◌∷◌, length, get_or, take, drop, min, replicate, refl, sym, ap, ◌∙◌, subst, arith, append_assoc, append-nil, ℤ, pos}
use Rattle.std.specs.Prelude.{Bool, true, false, if◌then◌else◌}
use Rattle.std.specs.List.{AllByRecursion}
use Rattle.std.proofs.lemmas.List.{drop_more, drop_all, take_min, drop_min}
use Rattle.cm_base.specs.declared.host.HostEnd.{HostEnd}
use Rattle.cm_base.specs.declared.host.Scalar.{Scalar}
use Rattle.cm_base.specs.HostEnds.{IsLawful, IsLawfulEnd}
use Rattle.cm_base.specs.Parts.{first_of}
use Rattle.cm_base.specs.Scripts.{HasShape}
use Rattle.wasm_tree.specs.HostRun.{zeros_of}
use Rattle.wasm_tree.specs.Section.{Slot}
use Rattle.wasm_tree.specs.Slots.{is_value_input, others_of}
use Rattle.wasm_tree.specs.Stopped.{kept_current, restored_current}
use Rattle.wasm_runner.specs.Snapshots.{kept_kinds}
use Rattle.module_player.specs.Given.{numbers_from, AreGiven}
use Rattle.module_player.specs.Rooms.{HaveRooms}
use Rattle.module_player.specs.Writing.{ends_in, AreValues}
use Rattle.module_player.proofs.States.{zeros_shaped, zeros_long}
use Rattle.module_player.proofs.Written.{others_left, first_left}

-- ---- what a snapshot gives back

-- so many endpoints are restored, and the scalars that are left are of the others
pub record AreRestored (ends : List HostEnd) (kept : List ℤ) (i : ℕ) (rest : List ℤ) (all : List (List ℤ)) : Type 0 where
  pub joined : all ++ restored_current (drop i ends) rest ≡ restored_current ends kept

pub restored_first : (ends : List HostEnd) (kept : List ℤ) → AreRestored ends kept 0 kept []
restored_first ends kept = record { joined = refl }

-- what the next endpoint takes, and what is left then
value_by : (b : Bool) (shape : List Scalar) (rest front : List ℤ) → front ≡ take (min (if b then length shape else 0) (length rest)) rest →
    (if b then front else replicate (length shape) (pos 0)) ≡ (if b then take (length shape) rest else replicate (length shape) (pos 0))
value_by true shape rest front e = e ∙ take_min (length shape) rest
value_by false shape rest front e = refl

left_by : (b : Bool) (shape : List Scalar) (rest back : List ℤ) → back ≡ drop (min (if b then length shape else 0) (length rest)) rest → back ≡ (if b then drop (length shape) rest else rest)
left_by true shape rest back e = e ∙ drop_min (length shape) rest
left_by false shape rest back e = e ∙ drop_min 0 rest

pub restored_next : (ends : List HostEnd) (kept : List ℤ) (i : ℕ) (end : HostEnd) (rest front back value : List ℤ) (all all' : List (List ℤ)) (n : ℕ) → i < length ends → end ≡ get_or ends i end →
    n ≡ min (if is_value_input end then length end.shape else 0) (length rest) → front ≡ take n rest → back ≡ drop n rest → value ≡ (if is_value_input end then front else replicate (length end.shape) (pos 0)) →
    all' ≡ all ++ value ∷ [] → AreRestored ends kept i rest all → AreRestored ends kept (i + 1) back all'
restored_next ends kept i end rest front back value all all' n l e m f b v a are =
    let here : drop i ends ≡ end ∷ drop (i + 1) ends = drop_more ends i end l ∙ ap (λ (x : HostEnd). x ∷ drop (i + 1) ends) (sym e) in
    let takes = v ∙ value_by (is_value_input end) end.shape rest front (f ∙ ap (λ k. take k rest) m) in
    let leaves = left_by (is_value_input end) end.shape rest back (b ∙ ap (λ k. drop k rest) m) in
    record {
      joined =
          ap (λ (x : List (List ℤ)). x ++ restored_current (drop (i + 1) ends) back) a
          ∙ (append_assoc all (value ∷ []) (restored_current (drop (i + 1) ends) back)
          ∙ (ap (λ (x : List ℤ). all ++ x ∷ restored_current (drop (i + 1) ends) back) takes
          ∙ (ap (λ (x : List ℤ). all ++ (if is_value_input end then take (length end.shape) rest else replicate (length end.shape) (pos 0)) ∷ restored_current (drop (i + 1) ends) x) leaves
          ∙ (ap (λ (x : List HostEnd). all ++ restored_current x rest) (sym here) ∙ are.joined))));
    }

pub restored_all : (ends : List HostEnd) (kept : List ℤ) (i : ℕ) (rest : List ℤ) (all : List (List ℤ)) → length ends ≤ i → AreRestored ends kept i rest all → all ≡ restored_current ends kept
restored_all ends kept i rest all l are =
    sym (append-nil all) ∙ (ap (λ (x : List HostEnd). all ++ restored_current x rest) (sym (drop_all i ends l)) ∙ are.joined)

-- ---- they have their shapes

-- scalars of one shape and then of another
both_shaped : (a b : List Scalar) (values : List ℤ) → HasShape (a ++ b) values → HasShape a (take (length a) values) × HasShape b (drop (length a) values)
both_shaped [] b values h = (tt, h)
both_shaped (kind ∷ kinds) b [] h = absurd h
both_shaped (kind ∷ kinds) b (z ∷ zs) h = let r = both_shaped kinds b zs h.1 in ((h.0, r.0), r.1)

shaped_by : (t : Bool) (slot : Slot) (others : List Scalar) (kept : List ℤ) → IsLawfulEnd slot.end → HasShape (if t then slot.end.shape ++ others else others) kept →
    HasShape slot.end.shape (if t then take (length slot.end.shape) kept else replicate (length slot.end.shape) (pos 0)) × HasShape others (if t then drop (length slot.end.shape) kept else kept)
shaped_by true slot others kept lawful h = both_shaped slot.end.shape others kept h
shaped_by false slot others kept lawful h = (zeros_shaped slot.end.shape lawful.scalars, h)

restored_shaped : (slots : List Slot) (kept : List ℤ) → AllByRecursion IsLawfulEnd (ends_in slots) → HasShape (kept_kinds (ends_in slots)) kept → AreValues slots (restored_current (ends_in slots) kept)
restored_shaped [] kept lawful h = refl
restored_shaped (slot ∷ slots) kept lawful h =
    let both = shaped_by (is_value_input slot.end) slot (kept_kinds (ends_in slots)) kept lawful.0 h in
    (both.0, restored_shaped slots (if is_value_input slot.end then drop (length slot.end.shape) kept else kept) lawful.1 both.1)

pub given_resumed : (slots : List Slot) (kept : List ℤ) (current rooms : List (List ℤ)) (numbers : List ℕ) → IsLawful (ends_in slots) → HasShape (kept_kinds (ends_in slots)) kept → current ≡ restored_current (ends_in slots) kept →
    rooms ≡ zeros_of (ends_in slots) → numbers ≡ numbers_from 0 slots → AreGiven slots current rooms numbers
given_resumed slots kept current rooms numbers lawful h c r n = record {
  values = subst (AreValues slots) (sym c) (restored_shaped slots kept lawful.each h);
  long = subst (HaveRooms slots) (sym r) (zeros_long slots);
  numbered = n;
}

-- ---- what a snapshot keeps

pub record AreKept (ends : List HostEnd) (current : List (List ℤ)) (i : ℕ) (all : List ℤ) : Type 0 where
  pub joined : all ++ kept_current (drop i ends) (drop i current) ≡ kept_current ends current

pub kept_first : (ends : List HostEnd) (current : List (List ℤ)) → AreKept ends current 0 []
kept_first ends current = record { joined = refl }

pub kept_next : (ends : List HostEnd) (current : List (List ℤ)) (i : ℕ) (end : HostEnd) (value all all' : List ℤ) → i < length ends → end ≡ get_or ends i end → value ≡ (if is_value_input end then get_or current i [] else []) →
    all' ≡ all ++ value → AreKept ends current i all → AreKept ends current (i + 1) all'
kept_next ends current i end value all all' l e v a are =
    let here : drop i ends ≡ end ∷ drop (i + 1) ends = drop_more ends i end l ∙ ap (λ (x : HostEnd). x ∷ drop (i + 1) ends) (sym e) in
    let takes : value ≡ (if is_value_input end then first_of (drop i current) else []) = v ∙ ap (λ (x : List ℤ). if is_value_input end then x else []) (sym (first_left current i)) in
    record {
      joined =
          ap (λ (x : List ℤ). x ++ kept_current (drop (i + 1) ends) (drop (i + 1) current)) a
          ∙ (append_assoc all value (kept_current (drop (i + 1) ends) (drop (i + 1) current))
          ∙ (ap (λ (x : List ℤ). all ++ (x ++ kept_current (drop (i + 1) ends) (drop (i + 1) current))) takes
          ∙ (ap (λ (x : List (List ℤ)). all ++ ((if is_value_input end then first_of (drop i current) else []) ++ kept_current (drop (i + 1) ends) x)) (sym (others_left current i))
          ∙ (ap (λ (x : List HostEnd). all ++ kept_current x (drop i current)) (sym here) ∙ are.joined))));
    }

pub kept_all : (ends : List HostEnd) (current : List (List ℤ)) (i : ℕ) (all : List ℤ) → length ends ≤ i → AreKept ends current i all → all ≡ kept_current ends current
kept_all ends current i all l are =
    sym (append-nil all) ∙ (ap (λ (x : List HostEnd). all ++ kept_current x (drop i current)) (sym (drop_all i ends l)) ∙ are.joined)
