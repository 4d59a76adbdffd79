-- The settings of a frame, and those that come later.
use Rattle.std.proofs.Common.{◌≡◌, ◌≢◌, ◌<◌, ◌≤◌, ◌+◌, ◌-◌, ◌++◌, ℕ, zero, suc, List, [], ◌∷◌, length, drop, take, filter, map, get_or, min, Bool, true, false, refl, sym, ap, ◌∙◌, subst, arith, ℤ}
use Rattle.std.specs.Prelude.{◌==◌, if◌then◌else◌, slice_set, slice_get, Some}
use Rattle.std.specs.List.{AllByRecursion}
use Rattle.std.proofs.lemmas.List.{drop_more, drop_all}
use Rattle.std.proofs.lemmas.Bool.Decides.{nat_tests}
use Rattle.cm_base.specs.declared.play.Setting.{Setting}
use Rattle.cm_base.specs.declared.host.Kind.{Kind}
use Rattle.cm_base.specs.declared.host.HostEnd.{HostEnd}
use Rattle.cm_base.specs.Parts.{settings_at}
use Rattle.cm_base.specs.Scripts.{AreFrom, IsSetting}
use Rattle.module_player.specs.Cursors.{IsPlace, after_settings, next_of}

-- ---- one setting

equal_numbers : (a b : ℕ) → a ≡ b → (a == b) ≡ true
equal_numbers a b e = grind (arith, nat_tests)

other_numbers : (a b : ℕ) → a ≢ b → (a == b) ≡ false
other_numbers a b e = grind (arith, nat_tests)

pub kept_here : (setting : Setting) (settings : List Setting) (frame : ℕ) → setting.frame ≡ frame → settings_at frame (setting ∷ settings) ≡ setting ∷ settings_at frame settings
kept_here setting settings frame e = ap (λ b. if b then setting ∷ settings_at frame settings else settings_at frame settings) (equal_numbers setting.frame frame e)

pub kept_not : (setting : Setting) (settings : List Setting) (frame : ℕ) → setting.frame ≢ frame → settings_at frame (setting ∷ settings) ≡ settings_at frame settings
kept_not setting settings frame e = ap (λ b. if b then setting ∷ settings_at frame settings else settings_at frame settings) (other_numbers setting.frame frame e)

-- none is at a frame before the first
pub none_before : (settings : List Setting) (from frame : ℕ) → frame < from → AreFrom from settings → settings_at frame settings ≡ []
none_before [] from frame l rise = refl
none_before (setting ∷ settings) from frame l rise =
    let first : from ≤ setting.frame = rise.0 in
    kept_not setting settings frame (λ e. omega (arith, e, l, first)) ∙ none_before settings setting.frame frame (omega (arith, l, first)) rise.1

from_later : (settings : List Setting) (frame later : ℕ) → AreFrom frame settings → later ≤ next_of later settings → AreFrom later settings
from_later [] frame later rise l = tt
from_later (setting ∷ settings) frame later rise l = (l, rise.1)

-- ---- places

-- a place is one of a later frame if no setting is before that
pub later_place : (settings : List Setting) (frame later place : ℕ) → IsPlace settings frame place → frame ≤ later → later ≤ next_of later (drop place settings) → IsPlace settings later place
later_place settings frame later place is l before = record {
  within = is.within;
  rise = from_later (drop place settings) frame later is.rise before;
  same = λ at up. is.same at (omega (arith, l, up));
}

-- nothing is set between a place and its first setting
pub nothing_between : (settings : List Setting) (from frames place at : ℕ) → IsPlace settings from place → from ≤ at → at < next_of frames (drop place settings) → at < frames → settings_at at settings ≡ []
nothing_between settings from frames place at is l before within = is.same at l ∙ none_first (drop place settings) from frames at is.rise before
  where
    none_first : (rest : List Setting) (from frames at : ℕ) → AreFrom from rest → at < next_of frames rest → settings_at at rest ≡ []
    none_first [] from frames at rise before = refl
    none_first (setting ∷ rest) from frames at rise before = none_before (setting ∷ rest) setting.frame at before (omega arith, rise.1)

-- the first setting is at its frame
pub something_at : (settings : List Setting) (from frames place : ℕ) → IsPlace settings from place → from ≤ next_of frames (drop place settings) → next_of frames (drop place settings) < frames →
    (setting : Setting) × (more : List Setting) × (settings_at (next_of frames (drop place settings)) settings ≡ setting ∷ more)
something_at settings from frames place is up l = (
  first_of_all (drop place settings) frames l,
  settings_at (next_of frames (drop place settings)) (drop 1 (drop place settings)),
  is.same (next_of frames (drop place settings)) up ∙ first_kept (drop place settings) frames l,
)
  where
    first_of_all : (rest : List Setting) (frames : ℕ) → next_of frames rest < frames → Setting
    first_of_all [] frames l = absurd (omega (arith, l))
    first_of_all (setting ∷ rest) frames l = setting

    first_kept : (rest : List Setting) (frames : ℕ) (l : next_of frames rest < frames) → settings_at (next_of frames rest) rest ≡ first_of_all rest frames l ∷ settings_at (next_of frames rest) (drop 1 rest)
    first_kept [] frames l = absurd (omega (arith, l))
    first_kept (setting ∷ rest) frames l = kept_here setting rest setting.frame refl

-- ---- going over the settings of a frame

-- From the setting at a place on: those of later frames are as from the place before.
pub record AreBehind (settings : List Setting) (frame at : ℕ) : Type 0 where
  pub rise : AreFrom frame (drop at settings)
  pub same : (later : ℕ) → frame < later → settings_at later settings ≡ settings_at later (drop at settings)

pub behind_place : (settings : List Setting) (frame place : ℕ) → IsPlace settings frame place → AreBehind settings frame place
behind_place settings frame place is = record { rise = is.rise; same = λ later l. is.same later (omega (arith, l)) }

-- what is left at a place, with its first setting
pub first_of_rest : (settings : List Setting) (at : ℕ) (setting : Setting) → at < length settings → setting ≡ get_or settings at setting → drop at settings ≡ setting ∷ drop (at + 1) settings
first_of_rest settings at setting l e = drop_more settings at setting l ∙ ap (λ s. s ∷ drop (at + 1) settings) (sym e)

pub behind_next : (settings : List Setting) (frame at : ℕ) (setting : Setting) → drop at settings ≡ setting ∷ drop (at + 1) settings → setting.frame ≡ frame → AreBehind settings frame at → AreBehind settings frame (at + 1)
behind_next settings frame at setting e f are =
    let rise : AreFrom frame (setting ∷ drop (at + 1) settings) = subst (λ rest. AreFrom frame rest) e are.rise in
    record {
      rise = subst (λ n. AreFrom n (drop (at + 1) settings)) f rise.1;
      same = λ later l. are.same later l ∙ (ap (settings_at later) e ∙ kept_not setting (drop (at + 1) settings) later (λ x. omega (arith, x, f, l)));
    }

-- the place of the next frame, at a setting of another frame
pub place_at_other : (settings : List Setting) (frame at : ℕ) (setting : Setting) → at ≤ length settings → drop at settings ≡ setting ∷ drop (at + 1) settings → setting.frame ≢ frame → AreBehind settings frame at → IsPlace settings (frame + 1) at
place_at_other settings frame at setting w e f are =
    let rise : AreFrom frame (setting ∷ drop (at + 1) settings) = subst (λ rest. AreFrom frame rest) e are.rise in
    let above : frame ≤ setting.frame = rise.0 in
    record {
      within = w;
      rise = subst (λ rest. AreFrom (frame + 1) rest) (sym e) (omega (arith, above, f), rise.1);
      same = λ later l. are.same later (omega (arith, l));
    }

-- at the end
pub place_at_end : (settings : List Setting) (frame at : ℕ) → length settings ≤ at → AreBehind settings frame at → IsPlace settings (frame + 1) (length settings)
place_at_end settings frame at l are =
    let none : drop (length settings) settings ≡ [] = drop_all (length settings) settings (omega arith) in
    let last : drop at settings ≡ [] = drop_all at settings l in
    record {
      within = omega arith;
      rise = subst (λ rest. AreFrom (frame + 1) rest) (sym none) tt;
      same = λ later up. are.same later (omega (arith, up)) ∙ ap (settings_at later) (last ∙ sym none);
    }

-- none is left of the frame at a setting of another one, or at the end
pub none_at_other : (settings : List Setting) (frame at : ℕ) (setting : Setting) → drop at settings ≡ setting ∷ drop (at + 1) settings → setting.frame ≢ frame → AreBehind settings frame at → settings_at frame (drop at settings) ≡ []
none_at_other settings frame at setting e f are =
    let rise : AreFrom frame (setting ∷ drop (at + 1) settings) = subst (λ rest. AreFrom frame rest) e are.rise in
    let above : frame ≤ setting.frame = rise.0 in
    ap (settings_at frame) e ∙ none_before (setting ∷ drop (at + 1) settings) (frame + 1) frame (omega arith) (omega (arith, above, f), rise.1)

pub none_at_end : (settings : List Setting) (frame at : ℕ) → length settings ≤ at → settings_at frame (drop at settings) ≡ []
none_at_end settings frame at l = ap (settings_at frame) (drop_all at settings l)

pub next_at : (settings : List Setting) (frame at : ℕ) (setting : Setting) → drop at settings ≡ setting ∷ drop (at + 1) settings → setting.frame ≡ frame → settings_at frame (drop at settings) ≡ setting ∷ settings_at frame (drop (at + 1) settings)
next_at settings frame at setting e f = ap (settings_at frame) e ∙ kept_here setting (drop (at + 1) settings) frame f

-- each one is so
pub one_of_all : {X : Type 0} (P : X → Type 0) (xs : List X) (at : ℕ) (x : X) → at < length xs → x ≡ get_or xs at x → AllByRecursion P xs → P x
one_of_all P [] at x l e all = absurd (omega (arith, l))
one_of_all P (first ∷ xs) zero x l e all = subst P (sym e) all.0
one_of_all P (first ∷ xs) (suc at) x l e all = one_of_all P xs at x (omega (arith, l)) e all.1
