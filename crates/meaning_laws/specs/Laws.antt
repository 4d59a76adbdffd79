-- What holds of all runs of patches: docs/LANGUAGE.md, "Frames" and "Loops".
use Rattle.std.specs.Prelude.{ℕ, ◌+◌, ◌≡◌, ◌<◌, ◌≤◌, true, length, List, [], ◌++◌}
use Rattle.cm_base.specs.declared.play.Item.{Item}
use Rattle.cm_base.specs.Parts.{Inputs, Part, Frame, Task}
use Rattle.cm_base.specs.Players.{Left, Goes, Spent, Traps, Stop, AtEnd, OutIn, TrappedIn, last_world, stops}
use Rattle.cm_tree.specs.declared.stmt.Stmt.{Stmt}
use Rattle.cm_meaning.specs.Scopes.{Around}
use Rattle.cm_meaning.specs.Linked.{Linked, ends_at}
use Rattle.cm_meaning.specs.Turns.{is_placed}
use Rattle.cm_meaning.specs.World.{World, Todo, leaf_at}
use Rattle.cm_meaning.specs.Acts.{Given, Gives, Short, Done}
use Rattle.cm_meaning.specs.Resume.{Way, exec, resume}
use Rattle.cm_meaning.specs.Calls.{hooks}
use Rattle.cm_meaning.specs.PatchRun.{act_of, zero_ends, perform, patch_player}

-- what is told first is a part of what is told later
abbrev pub Prefix : List Item → List Item → Type 0
Prefix a b = (c : List Item) × (a ++ c ≡ b)

abbrev pub told_left : Left World → List Item
told_left (Goes w) = w.trace
told_left (Spent w) = w.trace
told_left (Traps w) = w.trace

abbrev pub told_stop : Stop World → List Item
told_stop (AtEnd w) = w.trace
told_stop (OutIn part w) = w.trace
told_stop (TrappedIn part w) = w.trace

-- what more turns give in place of this: a part that ends ends in the same world, and one that lacks a turn told no more;
-- none traps
abbrev pub LeftLater : Left World → Left World → Type 0
LeftLater (Goes w) y = y ≡ Goes w
LeftLater (Spent w) y = Prefix w.trace (told_left y)
LeftLater (Traps w) y = ⊥

-- the same of runs
abbrev pub StopLater : Stop World → Stop World → Type 0
StopLater (AtEnd w) y = y ≡ AtEnd w
StopLater (OutIn part w) y = Prefix w.trace (told_stop y)
StopLater (TrappedIn part w) y = ⊥

abbrev pub MoreTurnsInPart : Type 0
MoreTurnsInPart = (l : Linked) (depth d n : ℕ) (part : Part) (w : World) → LeftLater (perform l depth n part w) (perform l depth (n + d) part w)

abbrev pub MoreTurns : Type 0
MoreTurns = (l : Linked) (depth d n : ℕ) (tasks : List Task) (w : World) → StopLater (stops (patch_player l depth) n tasks w) (stops (patch_player l depth) (n + d) tasks w)

-- a trace only grows
abbrev pub TraceGrows : Type 0
TraceGrows = (l : Linked) (depth n : ℕ) (tasks : List Task) (w : World) → Prefix w.trace (told_stop (stops (patch_player l depth) n tasks w))

-- ---- turns

-- at most as many turns are left
abbrev pub IsWithin : {A : Type 0} → ℕ → Given A → Type 0
IsWithin n (Gives value w m) = m ≤ n
IsWithin n (Short w) = Unit {0}

-- of a statement of a leaf, and of what is left of its main
abbrev pub AddsNoTurns : Type 0
AddsNoTurns = (l : Linked) (depth i : ℕ) (w : World) (n : ℕ) →
    ((s : Stmt) (r : Around) → IsWithin n (exec s r (hooks l depth i) w n)) × ((rest : List Todo) (way : Way) → IsWithin n (resume rest (hooks l depth i) way w n))

-- ---- leaves

-- nothing is left of the leaf's main, and as many turns are left
abbrev pub IsDoneAt : ℕ → ℕ → Given Done → Type 0
IsDoneAt i n (Gives value w m) = ((leaf_at i w).rest ≡ []) × (m ≡ n)
IsDoneAt i n (Short w) = ⊥

-- a leaf whose main returned has no turn begun by it, and nothing left to do in later frames
abbrev pub ReturnedStays : Type 0
ReturnedStays = (l : Linked) (depth i : ℕ) (w : World) (n : ℕ) → (leaf_at i w).rest ≡ [] → IsDoneAt i n (act_of l depth i w n)

-- a leaf whose main returned has nothing left to do where the run ends, whatever the other leaves do and the host sends
abbrev pub StaysReturned : Type 0
StaysReturned = (l : Linked) (depth n : ℕ) (tasks : List Task) (w : World) (i : ℕ) → (leaf_at i w).rest ≡ [] →
    (leaf_at i (last_world (stops (patch_player l depth) n tasks w))).rest ≡ []

-- the stream sums of each leaf that has a place in the order are zero after a frame
abbrev pub SumsAreCleared : Type 0
SumsAreCleared = (l : Linked) (depth n frame : ℕ) (inputs : Inputs) (w v : World) (i : ℕ) → perform l depth n (Frame frame inputs) w ≡ Goes v →
    is_placed l.order i ≡ true → i < length v.leaves → (leaf_at i v).sums ≡ zero_ends (ends_at l i)
