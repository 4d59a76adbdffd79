-- How an item is told: its line is put, and then the listeners hear it. And how the items of a trace are told, one after
-- another: docs/COMMANDS.md, "Lines of a run" and "Listeners".
use Rattle.std.specs.Prelude.{ℕ, zero, suc, ◌≡◌, ◌≤◌, List, [], ◌∷◌, length, Bool, true, false, Option}
use Rattle.cm_base.specs.declared.host.HostEnd.{HostEnd}
use Rattle.cm_base.specs.declared.play.Item.{Item}
use Rattle.cm_io.specs.Count.{Rose, raised}
use Rattle.cm_io.specs.Told.{appended, AppendsPrefix}
use Rattle.cm_io.specs.declared.sink.Put.{Put}
use Rattle.cm_io.specs.declared.sink.Put.TheVariants as answer
use Rattle.item_lines.specs.declared.telling.Told.{Told}
use Rattle.item_lines.specs.declared.telling.Told.TheVariants as told
use Rattle.item_lines.specs.Hearing.{Ear, Fails, Lacks, AllHear, HearUpTo}
use Rattle.item_lines.specs.Lines.{item_line, lines_of}

-- the item's line was put, and each listener heard it
abbrev pub is_heard : Told → Bool
is_heard told.Heard = true
is_heard _ = false

-- what is seen of a sink at one time
pub record Mouth : Type 0 where
  pub written : Option (List ℕ)
  pub faults : ℕ
  pub refusals : ℕ

abbrev pub mouth : Option (List ℕ) → ℕ → ℕ → Mouth
mouth written faults refusals = record { written = written; faults = faults; refusals = refusals }

-- what is seen of a sink and of the listeners
pub record Outside : Type 0 where
  pub out : Mouth
  pub ears : List Ear

-- the piece was written whole, and no count fell
pub record Puts (piece : List ℕ) (before after : Mouth) : Type 0 where
  pub written : after.written ≡ appended before.written piece
  pub faults : before.faults ≤ after.faults
  pub refusals : before.refusals ≤ after.refusals

-- the put failed: some of the first bytes of the piece were written
pub record PutFails (piece : List ℕ) (before after : Mouth) : Type 0 where
  pub written : AppendsPrefix before.written after.written piece
  pub rose : Rose before.faults after.faults
  pub refusals : before.refusals ≤ after.refusals

-- the put lacked memory
pub record PutLacks (before after : Mouth) : Type 0 where
  pub written : after.written ≡ before.written
  pub rose : Rose before.refusals after.refusals
  pub faults : before.faults ≤ after.faults

-- what stands with the answer of the sink
abbrev pub PutsAs : List ℕ → Mouth → Put → Mouth → Type 0
PutsAs piece before answer.Ok after = Puts piece before after
PutsAs piece before answer.Failed after = PutFails piece before after
PutsAs piece before answer.NoMemory after = PutLacks before after

-- what stands with the answer to an item
pub data Tells (ends : List HostEnd) (item : Item) (before after : Outside) : Told → Type 0 where
  IsHeard : Puts (item_line ends item) before.out after.out → AllHear item before.ears after.ears → Tells ends item before after told.Heard
  NotPut : PutFails (item_line ends item) before.out after.out → after.ears ≡ before.ears → Tells ends item before after told.PutFailed
  NoRoom : PutLacks before.out after.out → after.ears ≡ before.ears → Tells ends item before after told.PutLacksMemory
  -- without memory for its line nothing is told
  NoLine : after ≡ before → Tells ends item before after told.LineLacksMemory
  EarFails : (number : ℕ) → Puts (item_line ends item) before.out after.out → HearUpTo Fails item number before.ears after.ears → Tells ends item before after (told.ListenerFailed number)
  EarLacks : (number : ℕ) → Puts (item_line ends item) before.out after.out → HearUpTo Lacks item number before.ears after.ears → Tells ends item before after (told.ListenerLacksMemory number)

-- ---- the items of a trace

-- a count after so many more: at the greatest number it stands still
abbrev pub raised_by : (more : ℕ) → ℕ → ℕ
raised_by zero count = count
raised_by (suc more) count = raised_by more (raised count)

-- a listener that heard these items
pub record HearsItems (items : List Item) (before after : Ear) : Type 0 where
  pub heard : after.heard ≡ appended before.heard items
  pub count : after.count ≡ raised_by (length items) before.count
  pub faults : before.faults ≤ after.faults
  pub refusals : before.refusals ≤ after.refusals

abbrev pub AllHearItems : List Item → List Ear → List Ear → Type 0
AllHearItems items [] [] = Unit {0}
AllHearItems items (b ∷ bs) (a ∷ others) = HearsItems items b a × AllHearItems items bs others
AllHearItems items [] (a ∷ others) = ⊥
AllHearItems items (b ∷ bs) [] = ⊥

-- the lines of the items were put, each as one piece, and every listener heard the items
pub record AreTold (ends : List HostEnd) (items : List Item) (before after : Outside) : Type 0 where
  pub written : after.out.written ≡ appended before.out.written (lines_of ends items)
  pub faults : before.out.faults ≤ after.out.faults
  pub refusals : before.out.refusals ≤ after.out.refusals
  pub ears : AllHearItems items before.ears after.ears
