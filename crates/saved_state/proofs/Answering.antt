-- What reading a file answers, from what reading it as one version answers.
use Rattle.std.proofs.Common.{◌≡◌, ℕ, true, false, List, ◌++◌, drop, Err, sym, subst}
use Rattle.cm_base.specs.declared.forms.FormFail.{FormFail}
use Rattle.cm_base.specs.declared.forms.FormFail.TheVariants as fail
use Rattle.cm_base.specs.declared.play.Saved.{Saved}
use Rattle.saved_state.specs.declared.state.Version2.{Version2}
use Rattle.saved_state.specs.declared.state.State.TheVariants as states
use Rattle.saved_state.specs.State.{is_version_2, IsState, of_version_2, IsStateFault, in_version_1, in_version_2, IsVersion2Fail, IsStateFail}
use Rattle.json_value.specs.Form.{Answers}
use Rattle.saved_state.specs.Version1.{version_1}
use Rattle.saved_state.specs.Version2.{mark, IsVersion2}
use Rattle.saved_state.proofs.Whole.{marked}

pub version_2_state : (bytes : List ℕ) (state : Version2) → is_version_2 bytes ≡ true → IsVersion2 (mark ++ drop 4 bytes) state → IsState bytes (states.Version2 state)
version_2_state bytes state is found = of_version_2 state is (subst (λ b. IsVersion2 b state) (sym (marked bytes is)) found)

pub version_2_fail : (bytes : List ℕ) (e : FormFail) → is_version_2 bytes ≡ true → IsVersion2Fail (mark ++ drop 4 bytes) e → IsStateFail bytes e
version_2_fail bytes fail.NoMemory is failed = tt
version_2_fail bytes (fail.Refused found) is failed =
    subst (IsStateFault bytes) (sym failed.0) (in_version_2 is (λ state stands. failed.1 state (subst (λ b. IsVersion2 b state) (marked bytes is) stands)))

pub version_1_fail : (bytes : List ℕ) (e : FormFail) → is_version_2 bytes ≡ false → Answers {X = List Saved} (Err e) (version_1 bytes) → IsStateFail bytes e
version_1_fail bytes fail.NoMemory is failed = tt
version_1_fail bytes (fail.Refused found) is failed = in_version_1 found is failed
