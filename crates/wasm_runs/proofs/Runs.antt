-- Whole runs from parts: one induction, which serves both directions.
use Rattle.std.proofs.Common.{◌≡◌, ◌≢◌, ℕ, zero, suc, ◌+◌, ◌*◌, List, [], ◌∷◌, refl, sym, ap, subst}
use Rattle.std.specs.List.{AllByRecursion}
use Rattle.cm_base.specs.declared.host.HostEnd.{HostEnd}
use Rattle.cm_base.specs.declared.play.Item.{Item}
use Rattle.cm_base.specs.Parts.{Inputs, Part, Init, Send, Frame, Task, Set, Begin, following}
use Rattle.cm_base.specs.Players.{Left, Goes, Spent, Traps, Player, Stop, AtEnd, OutIn, TrappedIn, after_part, stops, Ended, Outcome, outcome_of, play, PartEnd, NotBegun, PartEnds, PartSpent, part_end, when_ended, play_part}
use Rattle.cm_base.specs.Tasks.{IsTask, AreInputs, ahead}
use Rattle.wasm_tree.specs.Keeps.{IsFront, KeepsRun}
use Rattle.wasm_runs.specs.Follows.{told_after, Follows, Grows, Agree, PartsFollow, flipped, StopFollows, RunFollows, KeepsPart, KeepsParts, KeepsPlay}
use Rattle.wasm_runs.proofs.Fronts.{front_same, front_of, front_then}

-- ---- what is told only grows

part_grows : {World : Type 0} (player : Player World) (part : Part) (before : List Item) (left : Left World) (go : World → Stop World) →
    ((world : World) → IsFront (player.told world) (outcome_of player.told (go world)).trace) → IsFront before (told_after player.told left) →
    IsFront before (outcome_of player.told (after_part part left go)).trace
part_grows player part before (Goes world) go later first = front_then first (later world)
part_grows player part before (Spent world) go later first = first
part_grows player part before (Traps world) go later first = first

-- a run only adds to what was told before it
pub stops_grow : {World : Type 0} (player : Player World) → Grows player → (n : ℕ) (tasks : List Task) (world : World) → IsFront (player.told world) (play player n tasks world).trace
unfolding stops
stops_grow player grows n [] world = front_same (player.told world)
stops_grow player grows n (Set endpoint value ∷ tasks) world =
    front_then (front_of (sym (grows.sets endpoint value world))) (stops_grow player grows n tasks (player.set endpoint value world))
stops_grow player grows n (Begin part ∷ tasks) world =
    part_grows player part (player.told world) (player.perform n part (following tasks) world) (stops player n tasks) (stops_grow player grows n tasks)
    (grows.parts n part (following tasks) world)

-- ---- tasks one after another

-- what comes next where a part begins
pub following_begin : (part : Part) (tasks : List Task) → following (Begin part ∷ tasks) ≡ ahead part (following tasks)
following_begin Init tasks = refl
following_begin (Send frame endpoint value inputs) tasks = refl
following_begin (Frame frame inputs) tasks = refl

-- the frames that come next have fitting inputs
pub coming_inputs : (ends : List HostEnd) (tasks : List Task) → AllByRecursion (IsTask ends) tasks → AllByRecursion (AreInputs ends) (following tasks)
coming_inputs ends [] all = tt
coming_inputs ends (Set endpoint value ∷ tasks) all = tt
coming_inputs ends (Begin Init ∷ tasks) all = tt
coming_inputs ends (Begin (Send frame endpoint value inputs) ∷ tasks) all = tt
coming_inputs ends (Begin (Frame frame inputs) ∷ tasks) all = (all.0, coming_inputs ends tasks all.1)

-- one part, and then what follows
pub part_follows : {A B : Type 0} (R Q : A → B → Type 0) (first : Player A) (second : Player B) (part : Part) (left : Left A) (other : Left B) (go : A → Stop A) (on : B → Stop B) →
    ((b : B) → IsFront (second.told b) (outcome_of second.told (on b)).trace) → Follows R first.told second.told left other →
    ((a : A) (b : B) → R a b → StopFollows Q first.told second.told (go a) (on b)) → StopFollows Q first.told second.told (after_part part left go) (after_part part other on)
part_follows R Q first second part (Goes a) (Goes b) go on grows follows later = later a b follows
part_follows R Q first second part (Goes a) (Spent b) go on grows follows later = absurd follows
part_follows R Q first second part (Goes a) (Traps b) go on grows follows later = absurd follows
part_follows R Q first second part (Spent a) other go on grows follows later = part_grows second part (first.told a) other on grows follows
part_follows R Q first second part (Traps a) other go on grows follows later = absurd follows

-- the induction
pub stops_follow : {A B : Type 0} (ends : List HostEnd) (R : List Inputs → A → B → Type 0) (first : Player A) (second : Player B) (n m : ℕ) →
    Grows second → Agree ends R first second → PartsFollow ends R first n second m →
    (tasks : List Task) (a : A) (b : B) → AllByRecursion (IsTask ends) tasks → R (following tasks) a b → StopFollows (R []) first.told second.told (stops first n tasks a) (stops second m tasks b)
unfolding stops
stops_follow ends R first second n m grows agree parts [] a b all related = related
stops_follow ends R first second n m grows agree parts (Set endpoint value ∷ tasks) a b all related =
    stops_follow ends R first second n m grows agree parts tasks _ _ all.1 (agree.sets (following tasks) endpoint value a b all.0 related)
stops_follow ends R first second n m grows agree parts (Begin part ∷ tasks) a b all related =
    part_follows (R (following tasks)) (R []) first second part (first.perform n part (following tasks) a) (second.perform m part (following tasks) b) (stops first n tasks) (stops second m tasks) (stops_grow second grows m tasks)
    (parts part (following tasks) a b all.0 (coming_inputs ends tasks all.1) (subst (λ c. R c a b) (following_begin part tasks) related))
    (λ x y next. stops_follow ends R first second n m grows agree parts tasks x y all.1 next)

-- the same where a first part is followed whatever the worlds before it
pub begun_stops_follow : {A B : Type 0} (ends : List HostEnd) (R : List Inputs → A → B → Type 0) (first : Player A) (second : Player B) (n m : ℕ) →
    Grows second → Agree ends R first second → PartsFollow ends R first n second m →
    (part : Part) (tasks : List Task) (a : A) (b : B) → AllByRecursion (IsTask ends) tasks →
    Follows (R (following tasks)) first.told second.told (first.perform n part (following tasks) a) (second.perform m part (following tasks) b) →
    StopFollows (R []) first.told second.told (stops first n (Begin part ∷ tasks) a) (stops second m (Begin part ∷ tasks) b)
unfolding stops
begun_stops_follow ends R first second n m grows agree parts part tasks a b all one =
    part_follows (R (following tasks)) (R []) first second part (first.perform n part (following tasks) a) (second.perform m part (following tasks) b) (stops first n tasks) (stops second m tasks) (stops_grow second grows m tasks)
    one (λ x y next. stops_follow ends R first second n m grows agree parts tasks x y all next)

-- what comes of it for what is told
pub outcomes_follow : {A B : Type 0} (R : A → B → Type 0) (first : Player A) (second : Player B) → ((a : A) (b : B) → R a b → first.told a ≡ second.told b) →
    (stop : Stop A) (other : Stop B) → StopFollows R first.told second.told stop other → RunFollows (outcome_of first.told stop) (outcome_of second.told other)
outcomes_follow R first second tells (AtEnd a) (AtEnd b) follows = record {
  ended = λ _. ap (λ trace. record { trace = trace; ending = Ended }) (sym (tells a b follows));
  front = front_of (tells a b follows);
  never_traps = λ part e. cc (e);
}
outcomes_follow R first second tells (AtEnd a) (OutIn part b) follows = absurd follows
outcomes_follow R first second tells (AtEnd a) (TrappedIn part b) follows = absurd follows
outcomes_follow R first second tells (OutIn part a) other follows = record { ended = λ e. cc (e); front = follows; never_traps = λ other e. cc (e) }
outcomes_follow R first second tells (TrappedIn part a) other follows = absurd follows

-- ---- one part of a run

-- where the source isn't spent, the target ends the part
ends_here : {A B : Type 0} (R : A → B → Type 0) (tell_a : A → List Item) (tell_b : B → List Item) (left : Left A) (other : Left B) →
    Follows R tell_a tell_b left other → part_end left ≢ PartSpent → part_end other ≡ PartEnds
ends_here R tell_a tell_b (Goes a) (Goes b) follows ends = refl
ends_here R tell_a tell_b (Goes a) (Spent b) follows ends = absurd follows
ends_here R tell_a tell_b (Goes a) (Traps b) follows ends = absurd follows
ends_here R tell_a tell_b (Spent a) other follows ends = absurd (ends refl)
ends_here R tell_a tell_b (Traps a) other follows ends = absurd follows

-- the target's part ended, so the source's did
ends_later : {A B : Type 0} (R : A → B → Type 0) (tell_a : A → List Item) (tell_b : B → List Item) (left : Left A) (other : Left B) (of_a : A → PartEnd) (of_b : B → PartEnd) →
    Follows (λ y x. R x y) tell_b tell_a other left → ((a : A) (b : B) → R a b → of_a a ≢ PartSpent → of_b b ≢ NotBegun → of_b b ≡ PartEnds) →
    when_ended left of_a ≢ PartSpent → when_ended other of_b ≢ NotBegun → when_ended other of_b ≡ PartEnds
ends_later R tell_a tell_b (Goes a) (Goes b) of_a of_b follows later ends begun = later a b follows ends begun
ends_later R tell_a tell_b (Spent a) (Goes b) of_a of_b follows later ends begun = absurd follows
ends_later R tell_a tell_b (Traps a) (Goes b) of_a of_b follows later ends begun = absurd follows
ends_later R tell_a tell_b left (Spent b) of_a of_b follows later ends begun = absurd (begun refl)
ends_later R tell_a tell_b left (Traps b) of_a of_b follows later ends begun = absurd (begun refl)

-- with the reductions that n turns are worth, the target ends each part that it begins where the source isn't spent
abbrev EndsPart : {A B : Type 0} → ℕ → Player A → Player B → ℕ → List Task → A → B → Type 0
EndsPart cost source target n tasks a b = (number : ℕ) → play_part source (cost * (n + 1)) n number tasks a ≢ PartSpent →
    play_part target (cost * (n + 1)) (cost * (n + 1)) number tasks b ≢ NotBegun → play_part target (cost * (n + 1)) (cost * (n + 1)) number tasks b ≡ PartEnds

begun_part_ends : {A B : Type 0} (cost : ℕ) (R : A → B → Type 0) (source : Player A) (target : Player B) (n : ℕ) (part : Part) (tasks : List Task) (a : A) (b : B) →
    KeepsPart cost R source target part (following tasks) a b → ((x : A) (y : B) → R x y → EndsPart cost source target n tasks x y) → EndsPart cost source target n (Begin part ∷ tasks) a b
unfolding play_part
begun_part_ends cost R source target n part tasks a b one later zero spent begun =
    ends_here R source.told target.told (source.perform n part (following tasks) a) (target.perform (cost * (n + 1)) part (following tasks) b) (one.forth n) spent
begun_part_ends cost R source target n part tasks a b one later (suc number) spent begun =
    ends_later R source.told target.told (source.perform (cost * (n + 1)) part (following tasks) a) (target.perform (cost * (n + 1)) part (following tasks) b)
    (play_part source (cost * (n + 1)) n number tasks) (play_part target (cost * (n + 1)) (cost * (n + 1)) number tasks)
    (one.back (cost * (n + 1))) (λ x y next. later x y next number) spent begun

parts_end : {A B : Type 0} (ends : List HostEnd) (cost : ℕ) (R : List Inputs → A → B → Type 0) (source : Player A) (target : Player B) → KeepsParts ends cost R source target →
    (n : ℕ) (tasks : List Task) (a : A) (b : B) → AllByRecursion (IsTask ends) tasks → R (following tasks) a b → EndsPart cost source target n tasks a b
unfolding play_part
parts_end ends cost R source target keeps n [] a b all related number spent begun = absurd (begun refl)
parts_end ends cost R source target keeps n (Set endpoint value ∷ tasks) a b all related number spent begun =
    parts_end ends cost R source target keeps n tasks _ _ all.1 (keeps.agree.sets (following tasks) endpoint value a b all.0 related) number spent begun
parts_end ends cost R source target keeps n (Begin part ∷ tasks) a b all related number spent begun =
    begun_part_ends cost (R (following tasks)) source target n part tasks a b
    (keeps.parts part (following tasks) a b all.0 (coming_inputs ends tasks all.1) (subst (λ c. R c a b) (following_begin part tasks) related))
    (λ x y next. parts_end ends cost R source target keeps n tasks x y all.1 next) number spent begun

-- ---- both directions of whole runs

-- two runs of which each follows the other
pub keeps_of : (cost : ℕ) (source target : ℕ → Outcome) (source_part : (before own number : ℕ) → PartEnd) (target_part : (bound number : ℕ) → PartEnd) →
    ((n : ℕ) → RunFollows (source n) (target (cost * (n + 1)))) → ((m : ℕ) → RunFollows (target m) (source m)) →
    ((n number : ℕ) → source_part (cost * (n + 1)) n number ≢ PartSpent → target_part (cost * (n + 1)) number ≢ NotBegun → target_part (cost * (n + 1)) number ≡ PartEnds) →
    KeepsRun cost source target source_part target_part
keeps_of cost source target source_part target_part forth back parts = record {
  forward = λ n. (forth n).ended;
  backward = λ m. (back m).ended;
  told = λ m. (back m).front;
  reached = λ n. (forth n).front;
  never_traps = λ m. (back m).never_traps;
  part_by_part = parts;
}

-- players agree the other way round
pub agree_flipped : {A B : Type 0} {ends : List HostEnd} {R : List Inputs → A → B → Type 0} {first : Player A} {second : Player B} → Agree ends R first second → Agree ends (flipped R) second first
agree_flipped agree = record {
  tells = λ coming b a related. sym (agree.tells coming a b related);
  sets = λ coming endpoint value b a taken related. agree.sets coming endpoint value a b taken related;
}

-- the tasks after the inits, from related worlds
pub plays_keep : {A B : Type 0} (ends : List HostEnd) (cost : ℕ) (R : List Inputs → A → B → Type 0) (source : Player A) (target : Player B) → KeepsParts ends cost R source target →
    (tasks : List Task) (a : A) (b : B) → AllByRecursion (IsTask ends) tasks → R (following tasks) a b → KeepsPlay cost source target tasks a b
plays_keep ends cost R source target keeps tasks a b all related =
    keeps_of cost _ _ _ _
    (λ n. outcomes_follow (R []) source target (keeps.agree.tells []) (stops source n tasks a) (stops target (cost * (n + 1)) tasks b)
    (stops_follow ends R source target n (cost * (n + 1)) keeps.target_grows keeps.agree (λ part coming x y is fit next. (keeps.parts part coming x y is fit next).forth n) tasks a b all related))
    (λ m. outcomes_follow (flipped R []) target source ((agree_flipped keeps.agree).tells []) (stops target m tasks b) (stops source m tasks a)
    (stops_follow ends (flipped R) target source m m keeps.source_grows (agree_flipped keeps.agree) (λ part coming y x is fit next. (keeps.parts part coming x y is fit next).back m) tasks b a all related))
    (λ n. parts_end ends cost R source target keeps n tasks a b all related)

-- a whole run: the inits, and then the other tasks
pub runs_keep : {A B : Type 0} (ends : List HostEnd) (cost : ℕ) (R : List Inputs → A → B → Type 0) (source : Player A) (target : Player B) → KeepsParts ends cost R source target →
    (tasks : List Task) (a : A) (b : B) → AllByRecursion (IsTask ends) tasks → KeepsPart cost (R (following tasks)) source target Init (following tasks) a b →
    KeepsPlay cost source target (Begin Init ∷ tasks) a b
runs_keep ends cost R source target keeps tasks a b all one =
    keeps_of cost _ _ _ _
    (λ n. outcomes_follow (R []) source target (keeps.agree.tells []) (stops source n (Begin Init ∷ tasks) a) (stops target (cost * (n + 1)) (Begin Init ∷ tasks) b)
    (begun_stops_follow ends R source target n (cost * (n + 1)) keeps.target_grows keeps.agree (λ part coming x y is fit next. (keeps.parts part coming x y is fit next).forth n) Init tasks a b all (one.forth n)))
    (λ m. outcomes_follow (flipped R []) target source ((agree_flipped keeps.agree).tells []) (stops target m (Begin Init ∷ tasks) b) (stops source m (Begin Init ∷ tasks) a)
    (begun_stops_follow ends (flipped R) target source m m keeps.source_grows (agree_flipped keeps.agree) (λ part coming y x is fit next. (keeps.parts part coming x y is fit next).back m) Init tasks b a all (one.back m)))
    (λ n. begun_part_ends cost (R (following tasks)) source target n Init tasks a b one (λ x y next. parts_end ends cost R source target keeps n tasks x y all next))
