-- The values of parameters at the end of a run.
use Rattle.std.proofs.Common.{◌≡◌, ℕ, suc, ◌+◌, ◌<◌, ◌==◌, List, [], ◌∷◌, ◌++◌, length, map, get_or, set, drop, drop-cons, add-one, append_assoc, Bool, true, false, if◌then◌else◌, Option, Some, None, option_map, unwrap_or, refl, sym, ap, subst, ◌∙◌, ℤ, pos, arith, inl, inr}
use Rattle.std.specs.Prelude.{is_some, option_to_list, slice_get, ◌≤ℤ◌}
use Rattle.std.specs.List.{AllByRecursion}
use Rattle.std.proofs.lemmas.Bool.{cases_eq, ne_eqb}
use Rattle.std.proofs.lemmas.List.{get_or-set_same, get_or-set_other, length-map, length-set}
use Rattle.cm_base.specs.declared.host.Range.{Range}
use Rattle.cm_base.specs.declared.host.HostEnd.{HostEnd}
use Rattle.cm_base.specs.declared.host.Kind.{Kind}
use Rattle.cm_base.specs.declared.host.Scalar.{Scalar}
use Rattle.cm_base.specs.declared.host.Scalar.TheVariants.{Int32}
use Rattle.cm_base.specs.declared.play.Saved.{Saved}
use Rattle.cm_base.specs.declared.play.Script.{Script}
use Rattle.cm_base.specs.declared.play.Setting.{Setting}
use Rattle.cm_base.specs.HostEnds.{IsLawful, IsLawfulEnd, IsLawfulRange}
use Rattle.cm_base.specs.Parts.{saved_value, start_of}
use Rattle.cm_base.specs.Scripts.{AreSaved, IsSavedIn, IsScriptFor, IsSetting, IsInRange, HasShape}
use Rattle.saved_state.specs.Applied.{AreValues, IsValueOf}
use Rattle.saved_state.specs.Finals.{scalar_in, last_or, final_of, finals_from, final_values, start_in, after_settings, kept_of, kept_in}

-- what an endpoint starts with, by what is found under its name
pub start_is : (end : HostEnd) (parameter : Option Range) (saved : List Saved) (found : Option ℤ) → found ≡ saved_value end.name saved →
    unwrap_or (option_map (λ range. unwrap_or found range.init) parameter) (pos 0) ≡ start_in end parameter saved
start_is end None saved found is = refl
start_is end (Some range) saved found is = rw is refl

starts-drop : (ends : List HostEnd) (saved : List Saved) (i : ℕ) (end : HostEnd) → i < length ends → end ≡ get_or ends i end →
    map (λ (e : HostEnd). start_in e e.parameter saved) (drop i ends) ≡ start_in end end.parameter saved ∷ map (λ (e : HostEnd). start_in e e.parameter saved) (drop (i + 1) ends)
starts-drop ends saved i end within is = rw (drop-cons ends i end within, sym is, add-one i) refl

-- one more endpoint starts
pub starts_on : (ends : List HostEnd) (saved : List Saved) (i : ℕ) (end : HostEnd) (front new total : List ℤ) (z : ℤ) (found : Option ℤ) → i < length ends → end ≡ get_or ends i end → found ≡ saved_value end.name saved →
    z ≡ unwrap_or (option_map (λ range. unwrap_or found range.init) end.parameter) (pos 0) → new ≡ front ++ z ∷ [] → front ++ map (λ (e : HostEnd). start_in e e.parameter saved) (drop i ends) ≡ total →
    new ++ map (λ (e : HostEnd). start_in e e.parameter saved) (drop (i + 1) ends) ≡ total
starts_on ends saved i end front new total z found within is value starts pushed so_far =
    let rest = map (λ (e : HostEnd). start_in e e.parameter saved) (drop (i + 1) ends) in
    ap (λ v. v ++ rest) pushed ∙ (append_assoc front (z ∷ []) rest
    ∙ (ap (λ (y : ℤ). front ++ (y ∷ rest)) (starts ∙ start_is end end.parameter saved found value) ∙ (ap (λ v. front ++ v) (sym (starts-drop ends saved i end within is)) ∙ so_far)))

-- the settings of one list after those of another
pub after_both : (first second : List Setting) (now : List ℤ) → after_settings second (after_settings first now) ≡ after_settings (first ++ second) now
after_both [] second now = refl
after_both (setting ∷ first) second now = after_both first second (set now setting.endpoint (scalar_in setting.value))

pub length_after : (settings : List Setting) (now : List ℤ) → length (after_settings settings now) ≡ length now
length_after [] now = refl
length_after (setting ∷ settings) now = length_after settings (set now setting.endpoint (scalar_in setting.value)) ∙ length-set now setting.endpoint (scalar_in setting.value)

-- ---- endpoint by endpoint

choice : {X : Type 0} (test : Bool) (x y : X) → test ≡ true → (if test then x else y) ≡ x
choice test x y is = rw is refl

other_choice : {X : Type 0} (test : Bool) (x y : X) → test ≡ false → (if test then x else y) ≡ y
other_choice test x y is = rw is refl

eq_itself : (k : ℕ) → (k == k) ≡ true
eq_itself k = grind arith

set_at : (now : List ℤ) (i k : ℕ) (z : ℤ) → k < length now → get_or (set now i z) k (pos 0) ≡ (if i == k then z else get_or now k (pos 0))
set_at now i k z within = elim (cases_eq i k) [
  | inl e ↦ subst (λ (j : ℕ). get_or (set now j z) k (pos 0) ≡ (if j == k then z else get_or now k (pos 0))) (sym e) (get_or-set_same now k z (pos 0) within ∙ sym (choice (k == k) z (get_or now k (pos 0)) (eq_itself k)))
  | inr ne ↦ get_or-set_other now i k z (pos 0) (λ e. ne (sym e)) ∙ sym (other_choice (i == k) z (get_or now k (pos 0)) (ne_eqb i k ne))
]

-- the value of an endpoint after settings
value_after : (settings : List Setting) (now : List ℤ) (k : ℕ) → k < length now → get_or (after_settings settings now) k (pos 0) ≡ last_or (get_or now k (pos 0)) k settings
value_after [] now k within = refl
value_after (setting ∷ settings) now k within =
    let z = scalar_in setting.value in
    value_after settings (set now setting.endpoint z) k (subst (λ (n : ℕ). k < n) (sym (length-set now setting.endpoint z)) within) ∙ ap (λ other. last_or other k settings) (set_at now setting.endpoint k z within)

abbrev starts_of : List HostEnd → List Saved → List ℤ
starts_of ends saved = map (λ end. start_in end end.parameter saved) ends

-- the values from one endpoint on
abbrev EndAt : (now : List ℤ) (number : ℕ) (ends : List HostEnd) (saved : List Saved) (settings : List Setting) → Type 0
EndAt now number ends saved settings = (k : ℕ) → k < length ends → get_or now k (pos 0) ≡ last_or (get_or (starts_of ends saved) k (pos 0)) (number + k) settings

kept_one : (end : HostEnd) (parameter : Option Range) (number : ℕ) (saved : List Saved) (script : Script) (z : ℤ) → z ≡ last_or (start_in end parameter saved) number (script.values ++ script.events) →
    kept_of parameter z ≡ option_to_list (final_of end parameter number saved script)
kept_one end None number saved script z is = refl
kept_one end (Some range) number saved script z is = ap (λ (y : ℤ). y ∷ []) is

kept_is : (ends : List HostEnd) (now : List ℤ) (number : ℕ) (saved : List Saved) (script : Script) → length now ≡ length ends → EndAt now number ends saved (script.values ++ script.events) → kept_in ends now ≡ finals_from number ends saved script
kept_is [] now number saved script long each = refl
kept_is (end ∷ ends) [] number saved script long each = absurd (cc long)
kept_is (end ∷ ends) (z ∷ now) number saved script long each =
    let settings = script.values ++ script.events in
    let first : z ≡ last_or (start_in end end.parameter saved) number settings = subst (λ (n : ℕ). z ≡ last_or (start_in end end.parameter saved) n settings) (omega arith) (each 0 (omega arith)) in
    let rest = kept_is ends now (number + 1) saved script (omega (arith, long))
    (λ k within. subst (λ (n : ℕ). get_or now k (pos 0) ≡ last_or (get_or (starts_of ends saved) k (pos 0)) n settings) (omega arith) (each (suc k) (omega (arith, within)))) in
    ap (λ v. v ++ kept_in ends now) (kept_one end end.parameter number saved script z first) ∙ ap (λ v. option_to_list (final_of end end.parameter number saved script) ++ v) rest

-- as many values as endpoints
pub long_after : (ends : List HostEnd) (saved : List Saved) (start first second : List ℤ) (values events : List Setting) → start ≡ starts_of ends saved → first ≡ after_settings values start → second ≡ after_settings events first →
    length second ≡ length ends
long_after ends saved start first second values events at_start at_values at_events =
    ap length at_events ∙ (length_after events first ∙ (ap length at_values ∙ (length_after values start ∙ (ap length at_start ∙ length-map ends (λ (end : HostEnd). start_in end end.parameter saved)))))

-- the values that are kept after all settings are the final ones
pub finals_are : (ends : List HostEnd) (saved : List Saved) (script : Script) (start first second : List ℤ) → start ≡ starts_of ends saved → first ≡ after_settings script.values start → second ≡ after_settings script.events first →
    kept_in ends second ≡ final_values ends saved script
finals_are ends saved script start first second at_start at_values at_events =
    let settings = script.values ++ script.events in
    let all : second ≡ after_settings settings (starts_of ends saved) = at_events ∙ ap (after_settings script.events) (at_values ∙ ap (after_settings script.values) at_start) ∙ after_both script.values script.events (starts_of ends saved) in
    let long : length (starts_of ends saved) ≡ length ends = length-map ends (λ (end : HostEnd). start_in end end.parameter saved) in
    ap (kept_in ends) all
    ∙ kept_is ends (after_settings settings (starts_of ends saved)) 0 saved script (length_after settings (starts_of ends saved) ∙ long)
    (λ k within. subst (λ (n : ℕ). get_or (after_settings settings (starts_of ends saved)) k (pos 0) ≡ last_or (get_or (starts_of ends saved) k (pos 0)) n settings) (omega arith) (value_after settings (starts_of ends saved) k (omega (arith, long, within))))

-- ---- in range

abbrev IsIn : Range → ℤ → Type 0
IsIn range z = (range.min ≤ℤ z) × (z ≤ℤ range.max)

scalar_is_in : (range : Range) (shape : List Scalar) (value : List ℤ) → shape ≡ Int32 ∷ [] → HasShape shape value → IsInRange (Some range) value → IsIn range (scalar_in value)
scalar_is_in range shape [] is has within = absurd (subst (λ (s : List Scalar). HasShape s []) is has)
scalar_is_in range shape (z ∷ zs) is has within = within.0

abbrev SetsIn : (number : ℕ) → Range → Setting → Type 0
SetsIn number range setting = setting.endpoint ≡ number → IsIn range (scalar_in setting.value)

same_some : {X : Type 0} (x y : X) (o : Option X) → o ≡ Some x → o ≡ Some y → x ≡ y
same_some x y o one other = cc (one, other)

setting_is_in : (kind : Kind) (frames : ℕ) (ends : List HostEnd) (number : ℕ) (end : HostEnd) (range : Range) (setting : Setting) → slice_get ends number ≡ Some end → end.parameter ≡ Some range → end.shape ≡ Int32 ∷ [] →
    IsSetting kind frames ends setting → SetsIn number range setting
setting_is_in kind frames ends number end range setting found parameter shape is at =
    let same : is.end ≡ end = same_some is.end end (slice_get ends number) (subst (λ (n : ℕ). slice_get ends n ≡ Some is.end) at is.found) found in
    scalar_is_in range is.end.shape setting.value (ap (λ (e : HostEnd). e.shape) same ∙ shape) is.takes.shape
    (subst (λ (p : Option Range). IsInRange p setting.value) (ap (λ (e : HostEnd). e.parameter) same ∙ parameter) is.takes.range)

settings_are_in : (kind : Kind) (frames : ℕ) (ends : List HostEnd) (number : ℕ) (end : HostEnd) (range : Range) (settings : List Setting) → slice_get ends number ≡ Some end → end.parameter ≡ Some range → end.shape ≡ Int32 ∷ [] →
    AllByRecursion (IsSetting kind frames ends) settings → AllByRecursion (SetsIn number range) settings
settings_are_in kind frames ends number end range [] found parameter shape are = tt
settings_are_in kind frames ends number end range (setting ∷ settings) found parameter shape are =
    (setting_is_in kind frames ends number end range setting found parameter shape are.0, settings_are_in kind frames ends number end range settings found parameter shape are.1)

last_is_in : (range : Range) (number : ℕ) (settings : List Setting) (other : ℤ) → AllByRecursion (SetsIn number range) settings → IsIn range other → IsIn range (last_or other number settings)
last_is_in range number [] other are within = within
last_is_in range number (setting ∷ settings) other are within = last_is_in range number settings (if setting.endpoint == number then scalar_in setting.value else other) are.1 (elim (cases_eq setting.endpoint number) [
  | inl e ↦ subst (IsIn range) (sym (choice (setting.endpoint == number) (scalar_in setting.value) other (subst (λ (n : ℕ). (setting.endpoint == n) ≡ true) e (eq_itself setting.endpoint)))) (are.0 e)
  | inr ne ↦ subst (IsIn range) (sym (other_choice (setting.endpoint == number) (scalar_in setting.value) other (ne_eqb setting.endpoint number ne))) within
])

last_both : (number : ℕ) (first second : List Setting) (other : ℤ) → last_or other number (first ++ second) ≡ last_or (last_or other number first) number second
last_both number [] second other = refl
last_both number (setting ∷ first) second other = last_both number first second (if setting.endpoint == number then scalar_in setting.value else other)

final_is_in : (all : List HostEnd) (end : HostEnd) (parameter : Option Range) (number : ℕ) (saved : List Saved) (script : Script) (rest : List ℤ) → end.parameter ≡ parameter → slice_get all number ≡ Some end → IsLawfulRange end parameter → IsSavedIn end parameter saved →
    IsScriptFor all script → IsValueOf parameter (option_to_list (final_of end parameter number saved script) ++ rest)
final_is_in all end None number saved script rest is found lawful within belongs = tt
final_is_in all end (Some range) number saved script rest is found lawful within belongs =
    let set = last_is_in range number script.values (start_of end range saved) (settings_are_in _ script.frames all number end range script.values found is lawful.shape belongs.values) within in
    subst (IsIn range) (sym (last_both number script.values script.events (start_of end range saved)))
    (last_is_in range number script.events (last_or (start_of end range saved) number script.values) (settings_are_in _ script.frames all number end range script.events found is lawful.shape belongs.events) set)

after_final : (end : HostEnd) (parameter : Option Range) (number : ℕ) (saved : List Saved) (script : Script) (rest : List ℤ) →
    (if is_some parameter then drop 1 (option_to_list (final_of end parameter number saved script) ++ rest) else option_to_list (final_of end parameter number saved script) ++ rest) ≡ rest
after_final end None number saved script rest = refl
after_final end (Some range) number saved script rest = refl

finals_are_in : (all ends : List HostEnd) (number : ℕ) (saved : List Saved) (script : Script) → ((k : ℕ) → slice_get all (number + k) ≡ slice_get ends k) → AllByRecursion IsLawfulEnd ends → AreSaved ends saved → IsScriptFor all script →
    AreValues ends (finals_from number ends saved script)
finals_are_in all [] number saved script at lawful within belongs = refl
finals_are_in all (end ∷ ends) number saved script at lawful within belongs =
    let rest = finals_from (number + 1) ends saved script in
    let here : slice_get all number ≡ Some end = subst (λ (n : ℕ). slice_get all n ≡ Some end) (omega arith) (at 0) in
    let later = finals_are_in all ends (number + 1) saved script (λ k. subst (λ (n : ℕ). slice_get all n ≡ slice_get ends k) (omega arith) (at (suc k))) lawful.1 within.1 belongs in
    (final_is_in all end end.parameter number saved script rest refl here lawful.0.parameter within.0 belongs, subst (AreValues ends) (sym (after_final end end.parameter number saved script rest)) later)

-- the final values are in the ranges of the parameters
pub finals_in_range : (ends : List HostEnd) (saved : List Saved) (script : Script) → IsLawful ends → AreSaved ends saved → IsScriptFor ends script → AreValues ends (final_values ends saved script)
finals_in_range ends saved script lawful within belongs = finals_are_in ends ends 0 saved script (λ k. ap (slice_get ends) (omega arith)) lawful.each within belongs
