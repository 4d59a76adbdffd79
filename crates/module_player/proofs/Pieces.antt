-- How pieces of a run are put together: a first item, and a call that is a part.
use Rattle.std.proofs.Common.{◌≡◌, ◌++◌, ℕ, List, [], ◌∷◌, Bool, true, false, None, refl, sym, ap, ◌∙◌, append_assoc, ℤ}
use Rattle.cm_base.specs.declared.play.Item.{Item}
use Rattle.cm_base.specs.Parts.{Part, Task, at_of}
use Rattle.cm_base.specs.Players.{Left, Goes, Spent, Traps, Stop, after_part, stops}
use Rattle.wasm_tree.specs.declared.module.Module.{Module}
use Rattle.wasm_tree.specs.Calls.{Heard, Returned, Marked, Exhausted, Failed}
use Rattle.wasm_tree.specs.HostRun.{Instance, call_left, no_more, module_player}
use Rattle.wasm_tree.specs.Keeps.{IsFront}
use Rattle.wasm_tree.specs.Section.{CmajorSection}
use Rattle.wasm_runner.specs.declared.host.Ended.{Ended}
use Rattle.wasm_runs.specs.Follows.{told_after}
use Rattle.wasm_runs.proofs.Calls.{trace_of, call_left_grows, adds_none}
use Rattle.wasm_runs.proofs.Fronts.{front_same, front_then}
use Rattle.wasm_runs.proofs.Growth.{module_grows}
use Rattle.wasm_runs.proofs.Heard.{heard_told}
use Rattle.wasm_runs.proofs.Runs.{stops_grow}
use Rattle.module_player.specs.declared.came.At.{At}
use Rattle.module_player.specs.declared.came.Came.{Came}
use Rattle.module_player.specs.Coming.{told_of, CallTells, CallReturns, CallLacks, CallFails, CallStops, place_of, trace_at, Comes, ComesThrough, ComesSpent, ComesTrapped, ComesHalted, part_came}
use Rattle.module_player.specs.Telling.{TellsNone, TellsNext, StopsAmong}

-- ---- one item, and then others

one_more : (told : List Item) (item : Item) (items : List Item) → (told ++ item ∷ []) ++ items ≡ told ++ (item ∷ items)
one_more told item items = append_assoc told (item ∷ []) items

stops_later : {T : Type 0} (tells : T → Item → Bool → T → Type 0) (before between : T) (item : Item) (items : List Item) (after : T) → tells before item true between → StopsAmong tells between items after →
    StopsAmong tells before (item ∷ items) after
stops_later tells before between item items after told stops = record {
  first = item ∷ stops.first;
  item = stops.item;
  others = stops.others;
  parts = ap (λ l. item ∷ l) stops.parts;
  between = stops.between;
  told = TellsNext before between stops.between item stops.first told stops.told;
  stopped = stops.stopped;
}

-- the teller stops at the first item
pub stops_first : {T : Type 0} (tells : T → Item → Bool → T → Type 0) (before : T) (item : Item) (others : List Item) (after : T) → tells before item false after → StopsAmong tells before (item ∷ others) after
stops_first tells before item others after stopped = record {
  first = [];
  item = item;
  others = others;
  parts = refl;
  between = before;
  told = TellsNone before;
  stopped = stopped;
}

-- others may follow
stops_before : {T : Type 0} (tells : T → Item → Bool → T → Type 0) (before : T) (items more : List Item) (after : T) → StopsAmong tells before items after → StopsAmong tells before (items ++ more) after
stops_before tells before items more after stops = record {
  first = stops.first;
  item = stops.item;
  others = stops.others ++ more;
  parts = ap (λ l. l ++ more) stops.parts ∙ append_assoc stops.first (stops.item ∷ stops.others) more;
  between = stops.between;
  told = stops.told;
  stopped = stops.stopped;
}

-- a call that tells an item first
pub call_more : {T : Type 0} (tells : T → Item → Bool → T → Type 0) (told : List Item) (item : Item) (h : Heard) (before between : T) → tells before item true between → (end : Ended) (globals memory : List ℕ) (after : T) →
    CallTells tells (told ++ item ∷ []) h between end globals memory after → CallTells tells told h before end globals memory after
call_more tells told item h before between t _ _ _ _ (CallReturns items globals memory after is all) =
    CallReturns (item ∷ items) globals memory after (is ∙ ap (λ l. Returned globals memory l) (one_more told item items)) (TellsNext before between after item items t all)
call_more tells told item h before between t _ _ _ _ (CallLacks items globals memory after is all) =
    CallLacks (item ∷ items) globals memory after (is ∙ ap (λ l. Exhausted l) (one_more told item items)) (TellsNext before between after item items t all)
call_more tells told item h before between t _ _ _ _ (CallFails items globals memory after is all) =
    CallFails (item ∷ items) globals memory after (is ∙ ap (λ l. Failed l) (one_more told item items)) (TellsNext before between after item items t all)
call_more tells told item h before between t _ _ _ _ (CallStops items globals memory after is all) =
    CallStops (item ∷ items) globals memory after (is ∙ one_more told item items) (stops_later tells before between item items after t all)

-- a piece of a run that tells an item first
pub comes_more : {T : Type 0} (tells : T → Item → Bool → T → Type 0) (told : List Item) (item : Item) (go : Instance → Stop Instance) (stop : Stop Instance) (before between : T) → tells before item true between →
    (end : Came) (globals memory : List ℕ) (current : List (List ℤ)) (after : T) → Comes tells (told ++ item ∷ []) go stop between end globals memory current after → Comes tells told go stop before end globals memory current after
comes_more tells told item go stop before between t _ _ _ _ _ (ComesThrough items globals memory current after all is) =
    ComesThrough (item ∷ items) globals memory current after (TellsNext before between after item items t all)
    (is ∙ ap (λ l. go (record { globals = globals; memory = memory; current = current; block = None; trace = l })) (one_more told item items))
comes_more tells told item go stop before between t _ _ _ _ _ (ComesSpent items globals memory current after part world at all is trace place) =
    ComesSpent (item ∷ items) globals memory current after part world at (TellsNext before between after item items t all) is (trace ∙ one_more told item items) place
comes_more tells told item go stop before between t _ _ _ _ _ (ComesTrapped items globals memory current after part world at all is trace place) =
    ComesTrapped (item ∷ items) globals memory current after part world at (TellsNext before between after item items t all) is (trace ∙ one_more told item items) place
comes_more tells told item go stop before between t _ _ _ _ _ (ComesHalted items globals memory current after is all) =
    ComesHalted (item ∷ items) globals memory current after (is ∙ one_more told item items) (stops_later tells before between item items after t all)

-- ---- what is told only grows

pub told_is : (h : Heard) → told_of h ≡ heard_told h
told_is (Returned globals memory told) = refl
told_is (Marked memory next told) = refl
told_is (Exhausted told) = refl
told_is (Failed told) = refl

-- from a part on
pub after_grows : (m : Module) (section : CmajorSection) (steps : ℕ) (part : Part) (left : Left Instance) (tasks : List Task) →
    IsFront (told_after trace_of left) (trace_at (after_part part left (stops (module_player m section) steps tasks)))
after_grows m section steps part (Goes world) tasks = stops_grow (module_player m section) (module_grows m section) steps tasks world
after_grows m section steps part (Spent world) tasks = front_same world.trace
after_grows m section steps part (Traps world) tasks = front_same world.trace

-- ---- a call that is a part

pub part_comes : {T : Type 0} (tells : T → Item → Bool → T → Type 0) (m : Module) (section : CmajorSection) (steps : ℕ) (rest : List Task) (part : Part) (at : At) → place_of at ≡ at_of part → (instance : Instance) (h : Heard) (before : T) →
    (end : Ended) (globals memory : List ℕ) (after : T) → CallTells tells instance.trace h before end globals memory after →
    Comes tells instance.trace (stops (module_player m section) steps rest) (after_part part (call_left instance no_more h) (stops (module_player m section) steps rest)) before (part_came end at) globals memory instance.current after
part_comes tells m section steps rest part at place instance h before _ _ _ _ (CallReturns items globals memory after is all) =
    ComesThrough items globals memory instance.current after all (ap (λ x. after_part part (call_left instance no_more x) (stops (module_player m section) steps rest)) is)
part_comes tells m section steps rest part at place instance h before _ _ _ _ (CallLacks items globals memory after is all) =
    ComesSpent items globals memory instance.current after part (record instance { trace = instance.trace ++ items }) at all
    (ap (λ x. after_part part (call_left instance no_more x) (stops (module_player m section) steps rest)) is) refl place
part_comes tells m section steps rest part at place instance h before _ _ _ _ (CallFails items globals memory after is all) =
    ComesTrapped items globals memory instance.current after part (record instance { trace = instance.trace ++ items }) at all
    (ap (λ x. after_part part (call_left instance no_more x) (stops (module_player m section) steps rest)) is) refl place
part_comes tells m section steps rest part at place instance h before _ _ _ _ (CallStops items globals memory after is all) =
    let front = front_then (call_left_grows instance no_more adds_none h) (after_grows m section steps part (call_left instance no_more h) rest) in
    ComesHalted (items ++ front.rest) globals memory instance.current after
    (front.joined ∙ (ap (λ l. l ++ front.rest) (sym (told_is h) ∙ is) ∙ append_assoc instance.trace items front.rest))
    (stops_before tells before items front.rest after all)
