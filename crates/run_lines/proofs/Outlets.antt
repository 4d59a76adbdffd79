-- How an outlet tells the items of a run.
use Rattle.std.proofs.Common.{◌≡◌, ℕ, ℤ, List, [], map, Option, None, Bor, Bool, true, false, refl, sym, ◌∙◌, ap, subst}
use Rattle.cm_base.specs.declared.host.HostEnd.{HostEnd}
use Rattle.cm_base.specs.declared.play.Item.{Item}
use Rattle.cm_base.specs.declared.play.Saved.{Saved}
use Rattle.cm_base.specs.declared.play.Script.{Script}
use Rattle.cm_base.specs.declared.play.Snapshot.{Snapshot}
use Rattle.cm_base.specs.Parts.{frames_from}
use Rattle.cm_base.specs.Players.{Stop, AtEnd, Outcome, outcome_of, stops}
use Rattle.item_lines.specs.declared.telling.Told.{Told}
use Rattle.item_lines.specs.declared.telling.Told.TheVariants as told
use Rattle.item_lines.specs.Hearing.{ear}
use Rattle.item_lines.specs.Telling.{Outside, Tells, AreTold, is_heard, mouth}
use Rattle.item_lines.proofs.Tracing.{told_none, told_first}
use Rattle.module_player.specs.declared.came.At.{At}
use Rattle.module_player.specs.declared.came.At.TheVariants as at
use Rattle.module_player.specs.declared.came.Came.{Came}
use Rattle.module_player.specs.Coming.{Comes, ComesThrough, ComesSpent, ComesTrapped, ComesHalted, place_of}
use Rattle.module_player.specs.declared.came.Came.TheVariants as came
use Rattle.module_player.specs.Playing.{Playing, ComesTo, IsPlayed, goes, resumed, instance_of}
use Rattle.module_player.specs.Telling.{TellsAll, TellsNone, TellsNext, StopsAmong}
use Rattle.wasm_tree.specs.HostRun.{Instance, host_run, host_stops}
use Rattle.wasm_tree.specs.Stopped.{restored_instance, resumed_run, resumed_stops}
use Rattle.wasm_tree.specs.Section.{Slot, ends_of}
use Rattle.wasm_valid.specs.Checked.{Checked}
use Rattle.run_lines.specs.declared.ending.RunEnd.{RunEnd}
use Rattle.run_lines.specs.declared.ending.RunEnd.TheVariants as run
use Rattle.run_lines.specs.declared.outlet.Outlet.{Outlet}
use Rattle.run_lines.specs.Runs.{RunTells, Whole, Cut, NotBegun, IsLeft, named, end_of, end_at, end_by, due_of, script_stops}

-- what a call of `tell` does, by what is seen of the sink and the listeners
abbrev pub OutletTells : {O L : Type 0} → (Outlet O L → Outside) → Outlet O L → Item → Bool → Outlet O L → Type 0
OutletTells see o item go p =
    (p.out.ghost_name ≡ o.out.ghost_name) × (p.listeners.ghost_name ≡ o.listeners.ghost_name) × (p.line.ghost_name ≡ o.line.ghost_name) × (p.slots ≡ o.slots) × (go ≡ is_heard p.last)
    × Tells (map (λ (slot : Slot). slot.end) o.slots.now) item (see o) (see p) p.last

-- the references and the slots
pub record Keeps {O L : Type 0} (a b : Outlet O L) : Type 0 where
  pub out : b.out.ghost_name ≡ a.out.ghost_name
  pub listeners : b.listeners.ghost_name ≡ a.listeners.ghost_name
  pub line : b.line.ghost_name ≡ a.line.ghost_name
  pub slots : b.slots ≡ a.slots

keeps_same : {O L : Type 0} (a : Outlet O L) → Keeps a a
keeps_same a = record { out = refl; listeners = refl; line = refl; slots = refl }

keeps_then : {O L : Type 0} (a b c : Outlet O L) → Keeps a b → Keeps b c → Keeps a c
keeps_then a b c first second = record { out = second.out ∙ first.out; listeners = second.listeners ∙ first.listeners; line = second.line ∙ first.line; slots = second.slots ∙ first.slots }

keeps_one : {O L : Type 0} (see : Outlet O L → Outside) (a b : Outlet O L) (item : Item) (go : Bool) → OutletTells see a item go b → Keeps a b
keeps_one see a b item go t = record { out = t.0; listeners = t.1; line = t.2; slots = t.3 }

abbrev ends_in : List Slot → List HostEnd
ends_in slots = map (λ (slot : Slot). slot.end) slots

heard_is : (last : Told) → true ≡ is_heard last → last ≡ told.Heard
heard_is told.Heard is = refl
heard_is told.PutFailed is = absurd (cc is)
heard_is told.PutLacksMemory is = absurd (cc is)
heard_is told.LineLacksMemory is = absurd (cc is)
heard_is (told.ListenerFailed number) is = absurd (cc is)
heard_is (told.ListenerLacksMemory number) is = absurd (cc is)

pub record ToldAll {O L : Type 0} (see : Outlet O L → Outside) (a : Outlet O L) (items : List Item) (b : Outlet O L) : Type 0 where
  pub keeps : Keeps a b
  pub told : AreTold (ends_in a.slots.now) items (see a) (see b)

-- the items of a run that goes on after each
all_told : {O L : Type 0} (see : Outlet O L → Outside) (a : Outlet O L) (items : List Item) (b : Outlet O L) → TellsAll (OutletTells see) a items b → ToldAll see a items b
all_told see _ _ _ (TellsNone a) = record { keeps = keeps_same a; told = told_none (ends_in a.slots.now) (see a) }
all_told see _ _ _ (TellsNext a b c item items first more) =
    let others = all_told see b items c more in
    let heard = subst (λ (last : Told). Tells (ends_in a.slots.now) item (see a) (see b) last) (heard_is b.last first.4) first.5 in
    record {
      keeps = keeps_then a b c (keeps_one see a b item true first) others.keeps;
      told = told_first (ends_in a.slots.now) item items (see a) (see b) (see c) heard (subst (λ (slots : Bor (List Slot)). AreTold (ends_in slots.now) items (see b) (see c)) first.3 others.told);
    }

-- the references of an outlet, and what the run tells that it was told of
pub record RunTold {O L : Type 0} (see : Outlet O L → Outside) (due : Outcome) (a : Outlet O L) (end : RunEnd) (b : Outlet O L) : Type 0 where
  pub keeps : Keeps a b
  pub tells : RunTells (ends_in a.slots.now) due (see a) (see b) end

named_place : (p : At) → named (place_of p) ≡ p
named_place at.Init = refl
named_place (at.Frame frame) = refl

whole : {O L : Type 0} (see : Outlet O L → Outside) (due : Outcome) (a : Outlet O L) (items : List Item) (end : RunEnd) (b : Outlet O L) → due.trace ≡ items → end ≡ end_of due.ending →
    ToldAll see a items b → RunTold see due a end b
whole see due a items end b trace is told = record {
  keeps = told.keeps;
  tells = Whole is (subst (λ (l : List Item). AreTold (ends_in a.slots.now) l (see a) (see b)) (sym trace) told.told);
}

halted : {O L : Type 0} (see : Outlet O L → Outside) (due : Outcome) (a : Outlet O L) (items : List Item) (b : Outlet O L) → due.trace ≡ items → StopsAmong (OutletTells see) a items b →
    RunTold see due a (end_at b.last) b
halted see due a items b trace stops =
    let first = all_told see a stops.first stops.between stops.told in
    let last = subst (λ (slots : Bor (List Slot)). Tells (ends_in slots.now) stops.item (see stops.between) (see b) b.last) first.keeps.slots stops.stopped.5 in
    record {
      keeps = keeps_then a stops.between b first.keeps (keeps_one see stops.between b stops.item false stops.stopped);
      tells = Cut stops.first stops.item stops.others (see stops.between) b.last (trace ∙ stops.parts) first.told last (sym stops.stopped.4) refl;
    }

-- a run comes out as it is told
pub run_told : {O L : Type 0} (see : Outlet O L → Outside) (stop : Stop Instance) (a : Outlet O L) (came : Came) (globals memory : List ℕ) (current : List (List ℤ)) (b : Outlet O L) →
    Comes (OutletTells see) [] AtEnd stop a came globals memory current b → RunTold see (due_of stop) a (end_by came b.last) b
run_told see stop a _ _ _ _ _ (ComesThrough items globals memory current b told is) =
    whole see (due_of stop) a items run.Ended b (ap (λ s. (due_of s).trace) is) (sym (ap (λ s. end_of (due_of s).ending) is)) (all_told see a items b told)
run_told see stop a _ _ _ _ _ (ComesSpent items globals memory current b part world p told is trace place) =
    whole see (due_of stop) a items (run.StepsSpent p) b (ap (λ s. (due_of s).trace) is ∙ trace)
    (ap run.StepsSpent (sym (named_place p) ∙ ap named place) ∙ sym (ap (λ s. end_of (due_of s).ending) is)) (all_told see a items b told)
run_told see stop a _ _ _ _ _ (ComesTrapped items globals memory current b part world p told is trace place) =
    whole see (due_of stop) a items (run.Trapped p) b (ap (λ s. (due_of s).trace) is ∙ trace)
    (ap run.Trapped (sym (named_place p) ∙ ap named place) ∙ sym (ap (λ s. end_of (due_of s).ending) is)) (all_told see a items b told)
run_told see stop a _ _ _ _ _ (ComesHalted items globals memory current b trace stops) = halted see (due_of stop) a items b trace stops

-- ---- over the traits

-- what is seen of the sink and the listeners
abbrev pub outside_of : {O L : Type 0} → (written : O → Option (List ℕ)) → (faults refusals : O → ℕ) → (heard : L → Option (List Item)) → (count failed lacked : L → ℕ) → Outlet O L → Outside
outside_of written faults refusals heard count failed lacked o =
    record { out = mouth (written o.out.now) (faults o.out.now) (refusals o.out.now); ears = map (λ l. ear (heard l) (count l) (failed l) (lacked l)) o.listeners.now.items }

-- the references of an outlet, and how the run of a module over a script is told
pub record PlayTold {O L : Type 0} (see : Outlet O L → Outside) (of : Checked) (saved : List Saved) (script : Script) (steps : ℕ) (a : Outlet O L) (end : RunEnd) (b : Outlet O L) : Type 0 where
  pub keeps : Keeps a b
  pub tells : RunTells (ends_of of.section) (host_run of.of of.section saved script script.frames steps) (see a) (see b) end

told_from_start : {O L : Type 0} (see : Outlet O L → Outside) (of : Checked) (saved : List Saved) (script : Script) (steps : ℕ) (a : Outlet O L) (came : Came) (b : Outlet O L) → a.slots.now ≡ of.section.slots →
    IsPlayed (OutletTells see) of saved script steps a came b → PlayTold see of saved script steps a (end_by came b.last) b
told_from_start see of saved script steps a came b slots played =
    let told = run_told see (host_stops of.of of.section saved script script.frames steps) a came played.globals played.memory played.current b played.comes in
    record {
      keeps = told.keeps;
      tells = subst (λ (s : List Slot). RunTells (ends_in s) (host_run of.of of.section saved script script.frames steps) (see a) (see b) (end_by came b.last)) slots told.tells;
    }

-- a module is played
pub play_told : {O L : Type 0} (see : Outlet O L → Outside) (of : Checked) (saved : List Saved) (script : Script) (steps : ℕ) (a : Outlet O L) (came : Came) (end : RunEnd) (b : Outlet O L) → end ≡ end_by came b.last →
    a.slots.now ≡ of.section.slots → IsPlayed (OutletTells see) of saved script steps a came b → PlayTold see of saved script steps a end b
play_told see of saved script steps a came end b is slots played =
    subst (λ (e : RunEnd). PlayTold see of saved script steps a e b) (sym is) (told_from_start see of saved script steps a came b slots played)

-- ---- a run that goes on with a player

-- after its last task a run stops at its end
at_end : (p : Playing) (instance : Instance) → goes p [] instance ≡ AtEnd instance
unfolding stops
at_end p instance = refl

to_end : {O L : Type 0} (see : Outlet O L → Outside) (p : Playing) (stop : Stop Instance) (a : Outlet O L) (c : Came) (globals memory : List ℕ) (current : List (List ℤ)) (b : Outlet O L) →
    Comes (OutletTells see) [] (goes p []) stop a c globals memory current b → Comes (OutletTells see) [] AtEnd stop a c globals memory current b
to_end see p stop a _ _ _ _ _ (ComesThrough items globals memory current b told is) =
    ComesThrough items globals memory current b told (is ∙ at_end p (record { globals = globals; memory = memory; current = current; block = None; trace = items }))
to_end see p stop a _ _ _ _ _ (ComesSpent items globals memory current b part world place told is trace at) = ComesSpent items globals memory current b part world place told is trace at
to_end see p stop a _ _ _ _ _ (ComesTrapped items globals memory current b part world place told is trace at) = ComesTrapped items globals memory current b part world place told is trace at
to_end see p stop a _ _ _ _ _ (ComesHalted items globals memory current b is stops) = ComesHalted items globals memory current b is stops

-- a run comes through where it ends by its definition
ended_came : {O L : Type 0} (see : Outlet O L → Outside) (stop : Stop Instance) (a : Outlet O L) (c : Came) (globals memory : List ℕ) (current : List (List ℤ)) (b : Outlet O L) →
    Comes (OutletTells see) [] AtEnd stop a c globals memory current b → end_by c b.last ≡ run.Ended → c ≡ came.Ended
ended_came see stop a _ _ _ _ _ (ComesThrough items globals memory current b told is) e = refl
ended_came see stop a _ _ _ _ _ (ComesSpent items globals memory current b part world p told is trace place) e = absurd (cc (e))
ended_came see stop a _ _ _ _ _ (ComesTrapped items globals memory current b part world p told is trace place) e = absurd (cc (e))
ended_came see stop a _ _ _ _ _ (ComesHalted items globals memory current b trace stops) e = absurd (unheard b.last stops.stopped.4 e)
  where
    unheard : (last : Told) → false ≡ is_heard last → end_at last ≡ run.Ended → ⊥
    unheard told.Heard not is = cc not
    unheard told.PutFailed not is = cc is
    unheard told.PutLacksMemory not is = cc is
    unheard told.LineLacksMemory not is = cc is
    unheard (told.ListenerFailed number) not is = cc is
    unheard (told.ListenerLacksMemory number) not is = cc is

-- a run that comes through stops at its end
through : {O L : Type 0} (see : Outlet O L → Outside) (stop : Stop Instance) (a : Outlet O L) (c : Came) (q : Playing) (b : Outlet O L) →
    Comes (OutletTells see) [] AtEnd stop a c q.globals q.memory q.current b → c ≡ came.Ended → (trace : List Item) × (stop ≡ AtEnd (instance_of q trace))
through see stop a _ q _ (ComesThrough items globals memory current b told is) e = (items, is)
through see stop a _ q _ (ComesSpent items globals memory current b part world p told is trace place) e = absurd (cc (e))
through see stop a _ q _ (ComesTrapped items globals memory current b part world p told is trace place) e = absurd (cc (e))
through see stop a _ q _ (ComesHalted items globals memory current b trace stops) e = absurd (cc (e))

-- the references of an outlet, how the run of a script is told that goes on with a player, and where the player then stands
pub record ScriptTold {O L : Type 0} (see : Outlet O L → Outside) (p : Playing) (script : Script) (a : Outlet O L) (end : RunEnd) (q : Playing) (b : Outlet O L) : Type 0 where
  pub keeps : Keeps a b
  pub tells : RunTells (ends_of p.of.section) (due_of (script_stops p script)) (see a) (see b) end
  pub left : end ≡ run.Ended → IsLeft (script_stops p script) p.of q

script_goes : {O L : Type 0} (see : Outlet O L → Outside) (p : Playing) (script : Script) (a : Outlet O L) (c : Came) (q : Playing) (b : Outlet O L) → a.slots.now ≡ p.of.section.slots →
    ComesTo (OutletTells see) p (frames_from (ends_of p.of.section) script 0 script.frames) [] a c q b → q.of ≡ p.of → (c ≡ came.Ended → q.live ≡ true) → ScriptTold see p script a (end_by c b.last) q b
script_goes see p script a c q b slots comes same live =
    let comes_to_end = to_end see p (script_stops p script) a c q.globals q.memory q.current b (comes []) in
    let told = run_told see (script_stops p script) a c q.globals q.memory q.current b comes_to_end in
    record {
      keeps = told.keeps;
      tells = subst (λ (s : List Slot). RunTells (ends_in s) (due_of (script_stops p script)) (see a) (see b) (end_by c b.last)) slots told.tells;
      left = λ e.
          let ended = ended_came see (script_stops p script) a c q.globals q.memory q.current b comes_to_end e in
          let stands = through see (script_stops p script) a c q b comes_to_end ended in
          record { trace = stands.0; ends = stands.1; of = same; live = live ended };
    }

pub script_told : {O L : Type 0} (see : Outlet O L → Outside) (p : Playing) (script : Script) (a : Outlet O L) (c : Came) (end : RunEnd) (q : Playing) (b : Outlet O L) → end ≡ end_by c b.last → a.slots.now ≡ p.of.section.slots →
    ComesTo (OutletTells see) p (frames_from (ends_of p.of.section) script 0 script.frames) [] a c q b → q.of ≡ p.of → (c ≡ came.Ended → q.live ≡ true) → ScriptTold see p script a end q b
script_told see p script a c end q b is slots comes same live =
    subst (λ (e : RunEnd). ScriptTold see p script a e q b) (sym is) (script_goes see p script a c q b slots comes same live)

-- with the player of a snapshot it is the resumed run
pub resumed_tells : (of : Checked) (snapshot : Snapshot) (script : Script) (steps : ℕ) (p : Playing) (before after : Outside) (end : RunEnd) → p ≡ resumed of steps (restored_instance of.of of.section snapshot) →
    RunTells (ends_of p.of.section) (due_of (script_stops p script)) before after end →
    RunTells (ends_of of.section) (resumed_run of.of of.section snapshot script script.frames steps) before after end
resumed_tells of snapshot script steps p before after end is tells = subst (λ (x : Playing). RunTells (ends_of x.of.section) (due_of (script_stops x script)) before after end) is tells

pub resumed_left : (of : Checked) (snapshot : Snapshot) (script : Script) (steps : ℕ) (p q : Playing) → p ≡ resumed of steps (restored_instance of.of of.section snapshot) → IsLeft (script_stops p script) p.of q →
    IsLeft (resumed_stops of.of of.section snapshot script script.frames steps) of q
resumed_left of snapshot script steps p q is left = subst (λ (x : Playing). IsLeft (script_stops x script) x.of q) is left
