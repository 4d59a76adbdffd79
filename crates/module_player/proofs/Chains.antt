-- Pieces of a run, one after another.
use Rattle.std.proofs.Common.{◌≡◌, ◌≢◌, ◌+◌, ◌++◌, ℕ, List, [], ◌∷◌, Bool, true, false, None, refl, sym, ap, ◌∙◌, subst, append_assoc, append-nil, ℤ}
use Rattle.std.specs.Prelude.{slice_set}
use Rattle.cm_base.specs.declared.play.Item.{Item}
use Rattle.cm_base.specs.Parts.{Part, Task, Set, Begin, at_of, following}
use Rattle.cm_base.specs.Players.{Player, Stop, AtEnd, after_part, stops}
use Rattle.wasm_tree.specs.HostRun.{Instance, module_player, module_part}
use Rattle.wasm_valid.specs.Checked.{Checked}
use Rattle.module_player.specs.declared.came.At.{At}
use Rattle.module_player.specs.declared.came.Came.{Came}
use Rattle.module_player.specs.declared.came.Came.TheVariants as came
use Rattle.module_player.specs.Coming.{Comes, ComesThrough, ComesSpent, ComesTrapped, ComesHalted, machine_of}
use Rattle.module_player.specs.Telling.{TellsAll, TellsNone, TellsNext, StopsAmong}
use Rattle.module_player.specs.Playing.{Playing, IsSame, instance_of, goes, ComesTo, ComesOf}

-- ---- what is told

pub tells_both : {T : Type 0} (tells : T → Item → Bool → T → Type 0) (before between after : T) (items more : List Item) → TellsAll tells before items between → TellsAll tells between more after → TellsAll tells before (items ++ more) after
tells_both tells _ _ after _ more (TellsNone teller) later = later
tells_both tells _ _ after _ more (TellsNext before between last item items told others) later =
    TellsNext before between after item (items ++ more) told (tells_both tells between last after items more others later)

pub stops_both : {T : Type 0} (tells : T → Item → Bool → T → Type 0) (before between after : T) (items more : List Item) → TellsAll tells before items between → StopsAmong tells between more after → StopsAmong tells before (items ++ more) after
stops_both tells before between after items more all stop = record {
  first = items ++ stop.first;
  item = stop.item;
  others = stop.others;
  parts = ap (λ l. items ++ l) stop.parts ∙ sym (append_assoc items stop.first (stop.item ∷ stop.others));
  between = stop.between;
  told = tells_both tells before between stop.between items stop.first all stop.told;
  stopped = stop.stopped;
}

-- others may follow
pub stops_before : {T : Type 0} (tells : T → Item → Bool → T → Type 0) (before : T) (items more : List Item) (after : T) → StopsAmong tells before items after → StopsAmong tells before (items ++ more) after
stops_before tells before items more after stop = record {
  first = stop.first;
  item = stop.item;
  others = stop.others ++ more;
  parts = ap (λ l. l ++ more) stop.parts ∙ append_assoc stop.first (stop.item ∷ stop.others) more;
  between = stop.between;
  told = stop.told;
  stopped = stop.stopped;
}

-- ---- one piece and then another

-- after some items, the later piece
after_items : {T : Type 0} (tells : T → Item → Bool → T → Type 0) (trace items : List Item) (go : Instance → Stop Instance) (stop : Stop Instance) (before between : T) → TellsAll tells before items between →
    (end : Came) (globals memory : List ℕ) (current : List (List ℤ)) (after : T) → Comes tells (trace ++ items) go stop between end globals memory current after → Comes tells trace go stop before end globals memory current after
after_items tells trace items go stop before between all _ _ _ _ _ (ComesThrough more globals memory current after later is) =
    ComesThrough (items ++ more) globals memory current after (tells_both tells before between after items more all later)
    (is ∙ ap (λ l. go (record { globals = globals; memory = memory; current = current; block = None; trace = l })) (append_assoc trace items more))
after_items tells trace items go stop before between all _ _ _ _ _ (ComesSpent more globals memory current after part world at later is told place) =
    ComesSpent (items ++ more) globals memory current after part world at (tells_both tells before between after items more all later) is (told ∙ append_assoc trace items more) place
after_items tells trace items go stop before between all _ _ _ _ _ (ComesTrapped more globals memory current after part world at later is told place) =
    ComesTrapped (items ++ more) globals memory current after part world at (tells_both tells before between after items more all later) is (told ∙ append_assoc trace items more) place
after_items tells trace items go stop before between all _ _ _ _ _ (ComesHalted more globals memory current after is later) =
    ComesHalted (items ++ more) globals memory current after (is ∙ append_assoc trace items more) (stops_both tells before between after items more all later)

-- what a piece that ended comes to
pub record Through {T : Type 0} (tells : T → Item → Bool → T → Type 0) (trace : List Item) (go : Instance → Stop Instance) (stop : Stop Instance) (before : T) (globals memory : List ℕ) (current : List (List ℤ)) (after : T) : Type 0 where
  pub items : List Item
  pub told : TellsAll tells before items after
  pub is : stop ≡ go (record { globals = globals; memory = memory; current = current; block = None; trace = trace ++ items })

through : {T : Type 0} (tells : T → Item → Bool → T → Type 0) (trace : List Item) (go : Instance → Stop Instance) (stop : Stop Instance) (before : T) (end : Came) (globals memory : List ℕ) (current : List (List ℤ)) (after : T) →
    end ≡ came.Ended → Comes tells trace go stop before end globals memory current after → Through tells trace go stop before globals memory current after
through tells trace go stop before _ _ _ _ _ e (ComesThrough items globals memory current after all is) = record { items = items; told = all; is = is }
through tells trace go stop before _ _ _ _ _ e (ComesSpent items globals memory current after part world at all is told place) = absurd (cc (e))
through tells trace go stop before _ _ _ _ _ e (ComesTrapped items globals memory current after part world at all is told place) = absurd (cc (e))
through tells trace go stop before _ _ _ _ _ e (ComesHalted items globals memory current after is all) = absurd (cc (e))

-- where a piece goes on doesn't matter if it doesn't end
elsewhere : {T : Type 0} (tells : T → Item → Bool → T → Type 0) (trace : List Item) (go other : Instance → Stop Instance) (stop : Stop Instance) (before : T) (end : Came) (globals memory : List ℕ) (current : List (List ℤ)) (after : T) →
    end ≢ came.Ended → Comes tells trace go stop before end globals memory current after → Comes tells trace other stop before end globals memory current after
elsewhere tells trace go other stop before _ _ _ _ _ e (ComesThrough items globals memory current after all is) = absurd (e refl)
elsewhere tells trace go other stop before _ _ _ _ _ e (ComesSpent items globals memory current after part world at all is told place) = ComesSpent items globals memory current after part world at all is told place
elsewhere tells trace go other stop before _ _ _ _ _ e (ComesTrapped items globals memory current after part world at all is told place) = ComesTrapped items globals memory current after part world at all is told place
elsewhere tells trace go other stop before _ _ _ _ _ e (ComesHalted items globals memory current after is all) = ComesHalted items globals memory current after is all

-- ---- from tasks to tasks

-- nothing is done
pub comes_none : {T : Type 0} (tells : T → Item → Bool → T → Type 0) (p : Playing) (tasks : List Task) (before : T) → ComesTo tells p tasks tasks before came.Ended p before
comes_none tells p tasks before trace =
    ComesThrough [] p.globals p.memory p.current before (TellsNone before) (ap (λ t. goes p tasks (instance_of p t)) (sym (append-nil trace)))

-- the same module and budget go on in the same way
pub same_goes : (p q : Playing) → IsSame p q → (tasks : List Task) → goes q tasks ≡ goes p tasks
same_goes p q same tasks =
    ap (λ (c : Checked). stops (module_player c.of c.section) q.steps tasks) same.of ∙ ap (λ steps. stops (module_player p.of.of p.of.section) steps tasks) same.steps

pub same_none : (p : Playing) → IsSame p p
same_none p = record { of = refl; steps = refl }

pub same_both : (p q r : Playing) → IsSame p q → IsSame q r → IsSame p r
same_both p q r first second = record { of = second.of ∙ first.of; steps = second.steps ∙ first.steps }

-- one piece that ends, and then another
pub comes_both : {T : Type 0} (tells : T → Item → Bool → T → Type 0) (p q r : Playing) (tasks middle left : List Task) (before between after : T) (first second : Came) → IsSame p q → first ≡ came.Ended →
    ComesTo tells p tasks middle before first q between → ComesTo tells q middle left between second r after → ComesTo tells p tasks left before second r after
comes_both tells p q r tasks middle left before between after first second same e one two trace =
    let t = through tells trace (goes p middle) (goes p tasks (instance_of p trace)) before first q.globals q.memory q.current between e (one trace) in
    let now : List Item = trace ++ t.items in
    let go : goes q left ≡ goes p left = same_goes p q same left in
    let stop : goes q middle (instance_of q now) ≡ goes p tasks (instance_of p trace) = ap (λ (f : Instance → Stop Instance). f (instance_of q now)) (same_goes p q same middle) ∙ sym t.is in
    after_items tells trace t.items (goes p left) (goes p tasks (instance_of p trace)) before between t.told second r.globals r.memory r.current after
    (subst (λ g. Comes tells now g (goes p tasks (instance_of p trace)) between second r.globals r.memory r.current after) go
    (subst (λ s. Comes tells now (goes q left) s between second r.globals r.memory r.current after) stop (two now)))

-- a piece that doesn't end leaves any tasks
pub comes_early : {T : Type 0} (tells : T → Item → Bool → T → Type 0) (p q : Playing) (tasks left other : List Task) (before after : T) (end : Came) → end ≢ came.Ended → ComesTo tells p tasks left before end q after → ComesTo tells p tasks other before end q after
comes_early tells p q tasks left other before after end e one trace =
    elsewhere tells trace (goes p left) (goes p other) (goes p tasks (instance_of p trace)) before end q.globals q.memory q.current after e (one trace)

-- the same tasks by another name
pub comes_from : {T : Type 0} (tells : T → Item → Bool → T → Type 0) (p q : Playing) (tasks other left : List Task) (before after : T) (end : Came) → tasks ≡ other → ComesTo tells p tasks left before end q after → ComesTo tells p other left before end q after
comes_from tells p q tasks other left before after end e one = subst (λ ts. ComesTo tells p ts left before end q after) e one

-- ---- one task

pub goes_begin : (p : Playing) (part : Part) (tasks : List Task) (instance : Instance) →
    goes p (Begin part ∷ tasks) instance ≡ after_part part (module_part (machine_of p.of p.steps) part (following tasks) instance) (goes p tasks)
unfolding stops
goes_begin p part tasks instance = refl

pub goes_set : (p : Playing) (endpoint : ℕ) (value : List ℤ) (tasks : List Task) (trace : List Item) →
    goes p (Set endpoint value ∷ tasks) (instance_of p trace) ≡ goes p tasks (instance_of (record p { current = slice_set p.current endpoint value }) trace)
unfolding stops
goes_set p endpoint value tasks trace = refl

pub goes_nowhere : (p : Playing) (instance : Instance) → goes p [] instance ≡ AtEnd instance
unfolding stops
goes_nowhere p instance = refl

-- a value is set
pub comes_set : {T : Type 0} (tells : T → Item → Bool → T → Type 0) (p : Playing) (endpoint : ℕ) (value : List ℤ) (tasks : List Task) (before : T) →
    ComesTo tells p (Set endpoint value ∷ tasks) tasks before came.Ended (record p { current = slice_set p.current endpoint value }) before
comes_set tells p endpoint value tasks before trace =
    let q : Playing = record p { current = slice_set p.current endpoint value } in
    ComesThrough [] q.globals q.memory q.current before (TellsNone before)
    (goes_set p endpoint value tasks trace ∙ ap (λ t. goes p tasks (instance_of q t)) (sym (append-nil trace)))
