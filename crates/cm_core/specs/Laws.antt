-- What holds of all runs of programs: docs/LANGUAGE.md, "Frames" and "Loops".
use Rattle.std.specs.Prelude.{ℕ, ◌+◌, ◌≡◌, ◌<◌, true, length, List, [], ◌++◌}
use Rattle.cm_base.specs.declared.play.Item.{Item}
use Rattle.cm_base.specs.Parts.{Part, Task}
use Rattle.cm_base.specs.Players.{Left, Goes, Spent, Traps, Stop, AtEnd, OutIn, TrappedIn, stops}
use Rattle.cm_core.specs.World.{World, leaf_at}
use Rattle.cm_core.specs.Acts.{Given, Gives, Short, Done}
use Rattle.cm_core.specs.Linked.{Linked, unit_at}
use Rattle.cm_core.specs.Calls.{depth_of}
use Rattle.cm_core.specs.CoreRun.{act_of, zero_sums, end_frame, perform, core_player, first_world}
use Rattle.cm_core.specs.Lawful.{IsLawful}
use Rattle.cm_core.specs.Forward.{has_leaf, IsForward}

-- what is told first is a part of what is told later
abbrev pub Prefix : List Item → List Item → Type 0
Prefix a b = (c : List Item) × (a ++ c ≡ b)

abbrev pub told_left : Left World → List Item
told_left (Goes w) = w.trace
told_left (Spent w) = w.trace
told_left (Traps w) = w.trace

abbrev pub told_stop : Stop World → List Item
told_stop (AtEnd w) = w.trace
told_stop (OutIn part w) = w.trace
told_stop (TrappedIn part w) = w.trace

-- what more turns give in place of this: a part that ends ends in the same world, and one that lacks a turn told no more;
-- none traps
abbrev pub LeftLater : Left World → Left World → Type 0
LeftLater (Goes w) y = y ≡ Goes w
LeftLater (Spent w) y = Prefix w.trace (told_left y)
LeftLater (Traps w) y = ⊥

-- the same of runs
abbrev pub StopLater : Stop World → Stop World → Type 0
StopLater (AtEnd w) y = y ≡ AtEnd w
StopLater (OutIn part w) y = Prefix w.trace (told_stop y)
StopLater (TrappedIn part w) y = ⊥

abbrev pub MoreTurnsInPart : Type 0
MoreTurnsInPart = (l : Linked) (depth d n : ℕ) (part : Part) (w : World) → LeftLater (perform l depth n part w) (perform l depth (n + d) part w)

abbrev pub MoreTurns : Type 0
MoreTurns = (l : Linked) (depth d n : ℕ) (tasks : List Task) (w : World) → StopLater (stops (core_player l depth) n tasks w) (stops (core_player l depth) (n + d) tasks w)

-- a trace only grows
abbrev pub TraceGrows : Type 0
TraceGrows = (l : Linked) (depth n : ℕ) (tasks : List Task) (w : World) → Prefix w.trace (told_stop (stops (core_player l depth) n tasks w))

-- the run of a lawful program whose events lead forward is what it is at each greater depth of calls and handlers
abbrev pub DepthIsEnough : Type 0
DepthIsEnough = (l : Linked) → IsLawful l.program → IsForward l → (n : ℕ) (tasks : List Task) (more : ℕ) →
    stops (core_player l (depth_of l)) n tasks (first_world l) ≡ stops (core_player l (depth_of l + more)) n tasks (first_world l)

-- ---- leaves

-- nothing is left of the leaf's main, and as many turns are left
abbrev pub IsDoneAt : ℕ → ℕ → Given Done → Type 0
IsDoneAt i n (Gives value w m) = ((leaf_at i w).rest ≡ []) × (m ≡ n)
IsDoneAt i n (Short w) = ⊥

-- a leaf whose main returned has no turn begun by it, and nothing left to do in later frames
abbrev pub ReturnedStays : Type 0
ReturnedStays = (l : Linked) (depth i : ℕ) (w : World) (n : ℕ) → (leaf_at i w).rest ≡ [] → IsDoneAt i n (act_of l depth i w n)

-- the stream sums of each leaf are zero after a frame
abbrev pub SumsAreCleared : Type 0
SumsAreCleared = (l : Linked) (w : World) (i : ℕ) → has_leaf l.order i ≡ true → i < length w.leaves → (leaf_at i (end_frame l w)).sums ≡ zero_sums (unit_at l i)
