-- When one player does what another does, part by part, so that its runs are the other's: docs/PROOFS.md, "The
-- headline". The one that follows is the second.
use Rattle.std.specs.Prelude.{◌≡◌, ◌+◌, ◌*◌, ℕ, List, [], ℤ}
use Rattle.std.specs.List.{AllByRecursion}
use Rattle.cm_base.specs.declared.host.HostEnd.{HostEnd}
use Rattle.cm_base.specs.declared.host.Kind.TheVariants as kinds
use Rattle.cm_base.specs.declared.play.Item.{Item}
use Rattle.cm_base.specs.Parts.{Inputs, Part, Task}
use Rattle.cm_base.specs.Players.{Left, Goes, Spent, Traps, Player, Stop, AtEnd, OutIn, TrappedIn, Ended, Trapped, Outcome, outcome_of, play, play_part}
use Rattle.cm_base.specs.Tasks.{IsPart, AreInputs, IsTaken, ahead}
use Rattle.wasm_tree.specs.Keeps.{IsFront, KeepsRun}

-- ---- one part

-- what was told when a part is left
abbrev pub told_after : {World : Type 0} → (World → List Item) → Left World → List Item
told_after told (Goes world) = told world
told_after told (Spent world) = told world
told_after told (Traps world) = told world

-- The second goes where the first goes, to related worlds; where the first is spent, the second told at least as
-- much. The first doesn't trap.
abbrev pub Follows : {A B : Type 0} → (A → B → Type 0) → (A → List Item) → (B → List Item) → Left A → Left B → Type 0
Follows R tell_a tell_b (Goes a) (Goes b) = R a b
Follows R tell_a tell_b (Goes a) (Spent b) = ⊥
Follows R tell_a tell_b (Goes a) (Traps b) = ⊥
Follows R tell_a tell_b (Spent a) other = IsFront (tell_a a) (told_after tell_b other)
Follows R tell_a tell_b (Traps a) other = ⊥

-- a player only adds to what it told
pub record Grows {World : Type 0} (player : Player World) : Type 0 where
  pub sets : (endpoint : ℕ) (value : List ℤ) (world : World) → player.told (player.set endpoint value world) ≡ player.told world
  pub parts : (n : ℕ) (part : Part) (coming : List Inputs) (world : World) → IsFront (player.told world) (told_after player.told (player.perform n part coming world))

-- What is told is the same, and setting a value keeps the relation. The relation is between worlds while these
-- frames come next with nothing between.
pub record Agree {A B : Type 0} (ends : List HostEnd) (R : List Inputs → A → B → Type 0) (first : Player A) (second : Player B) : Type 0 where
  pub tells : (coming : List Inputs) (a : A) (b : B) → R coming a b → first.told a ≡ second.told b
  pub sets : (coming : List Inputs) (endpoint : ℕ) (value : List ℤ) (a : A) (b : B) → IsTaken kinds.Value ends endpoint value → R [] a b →
      R coming (first.set endpoint value a) (second.set endpoint value b)

-- each part after the inits, with a bound for each player
abbrev pub PartsFollow : {A B : Type 0} → List HostEnd → (List Inputs → A → B → Type 0) → Player A → ℕ → Player B → ℕ → Type 0
PartsFollow {A} {B} ends R first n second m =
    (part : Part) (coming : List Inputs) (a : A) (b : B) → IsPart ends part → AllByRecursion (AreInputs ends) coming → R (ahead part coming) a b →
    Follows (R coming) first.told second.told (first.perform n part coming a) (second.perform m part coming b)

-- the relation the other way round
abbrev pub flipped : {A B : Type 0} → (List Inputs → A → B → Type 0) → List Inputs → B → A → Type 0
flipped R coming b a = R coming a b

-- ---- whole runs

-- the same of where two runs stop
abbrev pub StopFollows : {A B : Type 0} → (A → B → Type 0) → (A → List Item) → (B → List Item) → Stop A → Stop B → Type 0
StopFollows R tell_a tell_b (AtEnd a) (AtEnd b) = R a b
StopFollows R tell_a tell_b (AtEnd a) (OutIn part b) = ⊥
StopFollows R tell_a tell_b (AtEnd a) (TrappedIn part b) = ⊥
StopFollows R tell_a tell_b (OutIn part a) other = IsFront (tell_a a) (outcome_of tell_b other).trace
StopFollows R tell_a tell_b (TrappedIn part a) other = ⊥

-- and of what they tell
pub record RunFollows (first second : Outcome) : Type 0 where
  pub ended : first.ending ≡ Ended → second ≡ first
  pub front : IsFront first.trace second.trace
  pub never_traps : (part : Part) → first.ending ≡ Trapped part → ⊥

-- ---- both ways

-- One part of a source and of a module from two worlds. With the reductions that the turns are worth the module
-- follows the source; with as many turns as reductions the source follows the module.
pub record KeepsPart {A B : Type 0} (cost : ℕ) (R : A → B → Type 0) (source : Player A) (target : Player B) (part : Part) (coming : List Inputs) (a : A) (b : B) : Type 0 where
  pub forth : (n : ℕ) → Follows R source.told target.told (source.perform n part coming a) (target.perform (cost * (n + 1)) part coming b)
  pub back : (m : ℕ) → Follows (λ y x. R x y) target.told source.told (target.perform m part coming b) (source.perform m part coming a)

-- the parts of a run keep the relation
pub record KeepsParts {A B : Type 0} (ends : List HostEnd) (cost : ℕ) (R : List Inputs → A → B → Type 0) (source : Player A) (target : Player B) : Type 0 where
  pub source_grows : Grows source
  pub target_grows : Grows target
  pub agree : Agree ends R source target
  pub parts : (part : Part) (coming : List Inputs) (a : A) (b : B) → IsPart ends part → AllByRecursion (AreInputs ends) coming → R (ahead part coming) a b →
      KeepsPart cost (R coming) source target part coming a b

-- the runs of two players over the same tasks
abbrev pub KeepsPlay : {A B : Type 0} → ℕ → Player A → Player B → List Task → A → B → Type 0
KeepsPlay cost source target tasks a b =
    KeepsRun cost (λ n. play source n tasks a) (λ m. play target m tasks b)
    (λ before own number. play_part source before own number tasks a) (λ m number. play_part target m m number tasks b)
