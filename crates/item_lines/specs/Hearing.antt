-- How listeners hear an item, one after another in their order: docs/COMMANDS.md, "Listeners".
use Rattle.std.specs.Prelude.{ℕ, zero, suc, ◌≡◌, ◌≤◌, List, [], ◌∷◌, Option}
use Rattle.cm_base.specs.declared.play.Item.{Item}
use Rattle.cm_io.specs.Count.{Rose, raised}
use Rattle.cm_io.specs.declared.listener.Heard.{Heard}
use Rattle.cm_io.specs.declared.listener.Heard.TheVariants as answer
use Rattle.cm_io.specs.Told.{appended}
use Rattle.item_lines.specs.declared.hearing.Hearing.{Hearing}
use Rattle.item_lines.specs.declared.hearing.Hearing.TheVariants as hearing

-- what is seen of a listener at one time: what it tells of the items that it heard, how many it heard, and how many of its
-- calls failed or lacked memory
pub record Ear : Type 0 where
  pub heard : Option (List Item)
  pub count : ℕ
  pub faults : ℕ
  pub refusals : ℕ

abbrev pub ear : Option (List Item) → ℕ → ℕ → ℕ → Ear
ear heard count faults refusals = record { heard = heard; count = count; faults = faults; refusals = refusals }

-- a listener that heard the item
pub record Hears (item : Item) (before after : Ear) : Type 0 where
  pub heard : after.heard ≡ appended before.heard (item ∷ [])
  pub count : after.count ≡ raised before.count
  pub faults : before.faults ≤ after.faults
  pub refusals : before.refusals ≤ after.refusals

-- a listener that was told an item and didn't hear it
pub record Unheard (before after : Ear) : Type 0 where
  pub heard : after.heard ≡ before.heard
  pub count : after.count ≡ before.count
  pub faults : before.faults ≤ after.faults
  pub refusals : before.refusals ≤ after.refusals

-- the item failed, or it lacked memory
abbrev pub Fails : Ear → Ear → Type 0
Fails before after = Unheard before after × Rose before.faults after.faults

abbrev pub Lacks : Ear → Ear → Type 0
Lacks before after = Unheard before after × Rose before.refusals after.refusals

-- what stands with the answer of one listener
abbrev pub AnswersAs : Item → Ear → Heard → Ear → Type 0
AnswersAs item before answer.On after = Hears item before after
AnswersAs item before answer.Failed after = Fails before after
AnswersAs item before answer.NoMemory after = Lacks before after

-- the first listeners heard the item, so many of them, and the others are as before
abbrev pub FirstHear : Item → ℕ → List Ear → List Ear → Type 0
FirstHear item zero before after = after ≡ before
FirstHear item (suc n) (b ∷ bs) (a ∷ others) = Hears item b a × FirstHear item n bs others
FirstHear item (suc n) [] after = ⊥
FirstHear item (suc n) (b ∷ bs) [] = ⊥

-- all heard it
abbrev pub AllHear : Item → List Ear → List Ear → Type 0
AllHear item [] [] = Unit {0}
AllHear item (b ∷ bs) (a ∷ others) = Hears item b a × AllHear item bs others
AllHear item [] (a ∷ others) = ⊥
AllHear item (b ∷ bs) [] = ⊥

-- those before the listener at this position heard the item, it didn't, and those behind it are as before
abbrev pub HearUpTo : (Ear → Ear → Type 0) → Item → ℕ → List Ear → List Ear → Type 0
HearUpTo Stops item zero (b ∷ bs) (a ∷ others) = Stops b a × (others ≡ bs)
HearUpTo Stops item (suc n) (b ∷ bs) (a ∷ others) = Hears item b a × HearUpTo Stops item n bs others
HearUpTo Stops item zero [] after = ⊥
HearUpTo Stops item zero (b ∷ bs) [] = ⊥
HearUpTo Stops item (suc n) [] after = ⊥
HearUpTo Stops item (suc n) (b ∷ bs) [] = ⊥

-- what stands with the answer of the listeners
abbrev pub HeardAs : Item → List Ear → Hearing → List Ear → Type 0
HeardAs item before hearing.All after = AllHear item before after
HeardAs item before (hearing.Failed number) after = HearUpTo Fails item number before after
HeardAs item before (hearing.NoMemory number) after = HearUpTo Lacks item number before after
