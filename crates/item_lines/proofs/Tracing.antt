-- How items are told one after another.
use Rattle.std.proofs.Common.{◌≡◌, ℕ, zero, suc, ◌≤◌, List, [], ◌∷◌, ◌++◌, length, Option, Some, None, refl, sym, ◌∙◌, ap, append_assoc, append-nil}
use native.Mathlib.Omega.{arith}
use Rattle.cm_base.specs.declared.host.HostEnd.{HostEnd}
use Rattle.cm_base.specs.declared.play.Item.{Item}
use Rattle.cm_io.specs.Told.{appended}
use Rattle.item_lines.specs.declared.telling.Told.TheVariants as told
use Rattle.item_lines.specs.Hearing.{Ear, Hears, AllHear}
use Rattle.item_lines.specs.Lines.{item_line, lines_of}
use Rattle.item_lines.specs.Telling.{Outside, Puts, Tells, IsHeard, HearsItems, AllHearItems, AreTold, raised_by}

pub appended_none : {A : Type 0} (w : Option (List A)) → appended w [] ≡ w
appended_none None = refl
appended_none (Some w) = ap Some (append-nil w)

pub appended_twice : {A : Type 0} (w : Option (List A)) (a b : List A) → appended (appended w a) b ≡ appended w (a ++ b)
appended_twice None a b = refl
appended_twice (Some w) a b = ap Some (append_assoc w a b)

hears_none : (ears : List Ear) → AllHearItems [] ears ears
hears_none [] = tt
hears_none (ear ∷ ears) = (record { heard = sym (appended_none ear.heard); count = refl; faults = omega arith; refusals = omega arith }, hears_none ears)

-- no item changes nothing
pub told_none : (ends : List HostEnd) (outside : Outside) → AreTold ends [] outside outside
told_none ends outside = record { written = sym (appended_none outside.out.written); faults = omega arith; refusals = omega arith; ears = hears_none outside.ears }

hears_first : (item : Item) (items : List Item) (a b c : List Ear) → AllHear item a b → AllHearItems items b c → AllHearItems (item ∷ items) a c
hears_first item items [] [] [] first others = tt
hears_first item items [] [] (z ∷ zs) first others = absurd others
hears_first item items [] (y ∷ ys) c first others = absurd first
hears_first item items (x ∷ xs) [] c first others = absurd first
hears_first item items (x ∷ xs) (y ∷ ys) [] first others = absurd others
hears_first item items (x ∷ xs) (y ∷ ys) (z ∷ zs) first others = (
  record {
    heard = others.0.heard ∙ (ap (λ h. appended h items) first.0.heard ∙ appended_twice x.heard (item ∷ []) items);
    count = others.0.count ∙ ap (raised_by (length items)) first.0.count;
    faults = omega (arith, first.0.faults, others.0.faults);
    refusals = omega (arith, first.0.refusals, others.0.refusals);
  },
  hears_first item items xs ys zs first.1 others.1,
)

told_put : (ends : List HostEnd) (item : Item) (items : List Item) (a b c : Outside) → Puts (item_line ends item) a.out b.out → AllHear item a.ears b.ears → AreTold ends items b c → AreTold ends (item ∷ items) a c
told_put ends item items a b c puts hears others = record {
  written = others.written ∙ (ap (λ w. appended w (lines_of ends items)) puts.written ∙ appended_twice a.out.written (item_line ends item) (lines_of ends items));
  faults = omega (arith, puts.faults, others.faults);
  refusals = omega (arith, puts.refusals, others.refusals);
  ears = hears_first item items a.ears b.ears c.ears hears others.ears;
}

-- an item and then others
pub told_first : (ends : List HostEnd) (item : Item) (items : List Item) (a b c : Outside) → Tells ends item a b told.Heard → AreTold ends items b c → AreTold ends (item ∷ items) a c
told_first ends item items a b c (IsHeard puts hears) others = told_put ends item items a b c puts hears others
