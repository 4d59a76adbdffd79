-- A file of version 2 has one state at most, and reading finds it or shows that there is none.
use Rattle.std.proofs.Common.{◌≡◌, ◌≢◌, ℕ, Bool, true, false, List, [], ◌++◌, take, drop, Some, None, refl, sym, ap, subst, ◌∙◌}
use Rattle.std.specs.Prelude.{IsFalse}
use Rattle.std.specs.Str.{bytes_eq}
use Rattle.std.proofs.lemmas.List.{take-append-drop}
use Rattle.std.proofs.lemmas.Slice.Eq.{bytes_eq-Decides}
use Rattle.saved_state.specs.declared.cursor.Stop.{Stop}
use Rattle.saved_state.specs.declared.cursor.Stop.TheVariants as stop
use Rattle.saved_state.specs.declared.state.Version2.{Version2}
use Rattle.saved_state.specs.declared.state.State.{State}
use Rattle.saved_state.specs.declared.state.State.TheVariants as states
use Rattle.saved_state.specs.State.{is_version_2, IsState, of_version_1, of_version_2}
use Rattle.saved_state.specs.Reading.{Fails, state_at}
use Rattle.saved_state.specs.Version2.{mark, IsVersion2}
use Rattle.saved_state.proofs.Codes.{AreBytes, read, first_is, rest_is}
use Rattle.saved_state.proofs.Parts.{state_again, state_found}

pub whole_found : (bytes : List ℕ) (state : Version2) → AreBytes bytes → state_at bytes ≡ read state [] → IsVersion2 (mark ++ bytes) state
whole_found bytes state all h =
    let found = state_found bytes state all h in
    record { writable = found.1; spelled = ap (λ b. mark ++ b) found.0 }

-- the state of the bytes behind the mark is read
pub whole_again : (bytes : List ℕ) (state : Version2) → IsVersion2 (mark ++ bytes) state → state_at bytes ≡ read state []
whole_again bytes state is =
    let same = ap (drop 4) is.spelled in
    subst (λ b. state_at b ≡ read state []) (sym same) (state_again state is.writable)

pub none_where_more : (bytes : List ℕ) (other : Version2) (rest : List ℕ) → state_at bytes ≡ read other rest → rest ≢ [] → (state : Version2) → ¬ IsVersion2 (mark ++ bytes) state
none_where_more bytes other rest h more state is = more (rest_is other state rest [] (sym h ∙ whole_again bytes state is))

abbrev the_end : List ℕ
the_end = []

no_version_1 : (test : Bool) → test ≡ true → IsFalse test → ⊥
no_version_1 true is other = absurd (cc)
no_version_1 false is other = absurd (cc)

is_none : {X : Type 0} (x : X) → Some x ≡ None → ⊥
is_none x h = absurd (cc)

pub none_where_early : (bytes : List ℕ) → state_at bytes ≡ None → (state : Version2) → ¬ IsVersion2 (mark ++ bytes) state
none_where_early bytes h state is = is_none (state, the_end) (sym (whole_again bytes state is) ∙ h)

pub unique : (bytes : List ℕ) (first second : Version2) → IsVersion2 bytes first → IsVersion2 bytes second → first ≡ second
unique bytes first second one other =
    let behind = drop 4 bytes in
    let marked : bytes ≡ mark ++ behind = one.spelled ∙ ap (λ b. mark ++ b) (sym (ap (drop 4) one.spelled)) in
    let a = whole_again behind first (subst (λ b. IsVersion2 b first) marked one) in
    let b = whole_again behind second (subst (λ b. IsVersion2 b second) marked other) in
    first_is first second [] [] (sym a ∙ b)

-- what was read of the same bytes
pub same_read : (bytes from : List ℕ) (state : Version2) (left rest : List ℕ) → from ≡ bytes → left ≡ rest → state_at from ≡ read state left → state_at bytes ≡ read state rest
same_read bytes from state left rest one other h = subst (λ b. state_at b ≡ read state rest) one (subst (λ r. state_at from ≡ read state r) other h)

-- nothing was read of the same bytes
pub early : (bytes from : List ℕ) (e : Stop) → from ≡ bytes → e ≡ stop.Early → Fails e (state_at from) → state_at bytes ≡ None
early bytes from e one is h = subst (λ b. state_at b ≡ None) one (subst (λ x. Fails x (state_at from)) is h)

-- a file of version 2 begins with the mark
pub marked : (bytes : List ℕ) → bytes_eq (take 4 bytes) mark ≡ true → bytes ≡ mark ++ drop 4 bytes
marked bytes h = sym (take-append-drop 4 bytes) ∙ ap (λ b. b ++ drop 4 bytes) ((bytes_eq-Decides (take 4 bytes) mark).0 h)

is_marked : (bytes : List ℕ) (state : Version2) → IsVersion2 bytes state → is_version_2 bytes ≡ true
is_marked bytes state is = rw is.spelled refl

-- the bytes that a state is written as have that state alone
pub written_once : (bytes : List ℕ) (state : Version2) (found : State) → IsVersion2 bytes state → IsState bytes found → found ≡ states.Version2 state
written_once bytes state found is (of_version_1 saved other h) = absurd (no_version_1 (is_version_2 bytes) (is_marked bytes state is) other)
written_once bytes state found is (of_version_2 other marks also) = ap states.Version2 (unique bytes other state also is)
