-- Parts that are one call: the module follows the source, and the source the module.
use Rattle.std.proofs.Common.{◌≡◌, ℕ, suc, ◌+◌, ◌-◌, ◌*◌, ◌<◌, ◌≤◌, List, ◌++◌, false, None, refl, sym, ap, ◌∙◌, subst, ℤ, arith, inl, inr}
use Rattle.std.proofs.lemmas.Bool.{cases_lt}
use Rattle.cm_base.specs.declared.host.Kind.TheVariants as kinds
use Rattle.cm_base.specs.declared.play.Item.{Item}
use Rattle.cm_base.specs.Parts.{Inputs, Part, Init, Send, Frame}
use Rattle.cm_base.specs.Players.{Left, Goes, Spent, Traps, Source}
use Rattle.cm_base.specs.Tasks.{AreInputs, IsTaken}
use Rattle.wasm_tree.specs.declared.module.Module.{Module}
use Rattle.wasm_tree.specs.declared.interface.Interface.{Interface}
use Rattle.wasm_tree.specs.declared.interface.Interface.TheVariants.{Single}
use Rattle.wasm_tree.specs.Section.{CmajorSection, Slot}
use Rattle.wasm_tree.specs.Reduce.{Func, Config, Step, exec, follow}
use Rattle.wasm_tree.specs.Calls.{Heard, Returned, Marked, Exhausted, Failed, heard}
use Rattle.wasm_tree.specs.HostRun.{Instance, call_left, no_more, frame_told, frame_part, module_player}
use Rattle.wasm_tree.specs.Instance.{funcs_of}
use Rattle.wasm_tree.specs.Keeps.{IsFront}
use Rattle.wasm_runs.specs.Follows.{Follows, told_after, KeepsPart}
use Rattle.wasm_runs.specs.Calling.{Keeping, CallKeeps, CallEnds, CallReturns, CallsKeep, InitKeeps, SinglesKeep, IsFree}
use Rattle.wasm_runs.proofs.Fronts.{front_same, front_of, front_add, front_then}
use Rattle.wasm_runs.proofs.Heard.{heard_told, hears_last, hears_spent, hears_more}

-- what an instance told
abbrev pub trace_of : Instance → List Item
trace_of instance = instance.trace

-- what comes after a call only adds to what it told
abbrev pub Adds : (List ℕ → List Item → List Item) → Type 0
Adds finish = (memory : List ℕ) (told : List Item) → IsFront told (finish memory told)

-- a part that is a call only adds to what the call told
pub call_left_grows : (instance : Instance) (finish : List ℕ → List Item → List Item) → Adds finish → (h : Heard) → IsFront (heard_told h) (told_after trace_of (call_left instance finish h))
call_left_grows instance finish adds (Returned globals memory told) = adds memory told
call_left_grows instance finish adds (Marked memory next told) = front_same told
call_left_grows instance finish adds (Exhausted told) = front_same told
call_left_grows instance finish adds (Failed told) = front_same told

-- the relation is kept under a weaker one
pub follows_map : {A B : Type 0} (R Q : A → B → Type 0) (tell_a : A → List Item) (tell_b : B → List Item) → ((a : A) (b : B) → R a b → Q a b) → (left : Left A) (other : Left B) →
    Follows R tell_a tell_b left other → Follows Q tell_a tell_b left other
follows_map R Q tell_a tell_b weaker (Goes a) (Goes b) follows = weaker a b follows
follows_map R Q tell_a tell_b weaker (Goes a) (Spent b) follows = absurd follows
follows_map R Q tell_a tell_b weaker (Goes a) (Traps b) follows = absurd follows
follows_map R Q tell_a tell_b weaker (Spent a) other follows = follows
follows_map R Q tell_a tell_b weaker (Traps a) other follows = absurd follows

-- a call that returns, with this many reductions
returns : {World : Type 0} (Kept : Keeping World) (told : World → List Item) (funcs : List Func) (slots : List Slot) (frame most steps : ℕ) (c : Config) (instance : Instance) (finish : List ℕ → List Item → List Item) (world : World) →
    (ends : CallEnds funcs slots frame most c instance.trace (CallReturns Kept told instance.current finish world)) → ends.count < steps →
    (after : Instance) × (call_left instance finish (heard slots false frame (exec funcs steps c) instance.trace) ≡ Goes after) × (IsFree Kept told world after)
unfolding heard
returns Kept told funcs slots frame most steps c instance finish world ends enough =
    let t = instance.trace ++ ends.items in (
      record instance { globals = ends.after.globals; memory = ends.after.memory; block = None; trace = finish ends.after.memory t },
      ap (call_left instance finish)
          (hears_last funcs slots false frame ends.count steps ends.es c ends.last ends.items instance.trace ends.leads ends.heard enough
          ∙ ap (λ step. heard slots false frame (follow step (exec funcs (steps - suc ends.count))) t) ends.after.is),
      record { block = refl; tells = ends.after.tells; kept = ends.after.kept },
    )

-- with the reductions that the turns are worth, the call follows the source
pub call_forth : {World : Type 0} (Kept : Keeping World) (told : World → List Item) (funcs : List Func) (slots : List Slot) (frame cost n : ℕ) (c : Config) (instance : Instance) (finish : List ℕ → List Item → List Item) →
    Adds finish → (left : Left World) → CallKeeps funcs slots frame cost n c instance.trace told (CallReturns Kept told instance.current finish) left →
    Follows (IsFree Kept told) told trace_of left (call_left instance finish (heard slots false frame (exec funcs (cost * (n + 1)) c) instance.trace))
call_forth Kept told funcs slots frame cost n c instance finish adds (Goes world) keeps =
    let done = returns Kept told funcs slots frame (cost * (n + 1)) (cost * (n + 1)) c instance finish world keeps keeps.few in
    subst (λ other. Follows (IsFree Kept told) told trace_of (Goes world) other) (sym done.1) done.2
call_forth Kept told funcs slots frame cost n c instance finish adds (Spent world) keeps =
    front_then (front_of keeps.tells)
    (front_then (hears_more funcs slots false frame keeps.count (cost * (n + 1)) keeps.es c keeps.last keeps.items instance.trace keeps.leads keeps.heard keeps.few)
    (call_left_grows instance finish adds (heard slots false frame (exec funcs (cost * (n + 1)) c) instance.trace)))
call_forth Kept told funcs slots frame cost n c instance finish adds (Traps world) keeps = absurd keeps

-- with as many turns as reductions, the source follows the call
pub call_back : {World : Type 0} (Kept : Keeping World) (told : World → List Item) (funcs : List Func) (slots : List Slot) (frame cost m : ℕ) (c : Config) (instance : Instance) (finish : List ℕ → List Item → List Item) →
    Adds finish → (left : Left World) → CallKeeps funcs slots frame cost m c instance.trace told (CallReturns Kept told instance.current finish) left →
    Follows (λ y x. IsFree Kept told x y) trace_of told (call_left instance finish (heard slots false frame (exec funcs m c) instance.trace)) left
call_back Kept told funcs slots frame cost m c instance finish adds (Goes world) keeps =
    elim (cases_lt keeps.count m) [
      | inl h ↦
          let done = returns Kept told funcs slots frame (cost * (m + 1)) m c instance finish world keeps h in
          subst (λ other. Follows (λ y x. IsFree Kept told x y) trace_of told other (Goes world)) (sym done.1) done.2
      | inr h ↦
          let few : m ≤ keeps.count = omega arith in
          let out = hears_spent funcs slots false frame keeps.count m keeps.es c keeps.last keeps.items instance.trace keeps.leads keeps.heard few in
          subst (λ result. Follows (λ y x. IsFree Kept told x y) trace_of told (call_left instance finish result) (Goes world)) (sym out.is)
          (front_then out.front (front_then (adds keeps.after.memory _) (front_of (sym keeps.after.tells))))
    ]
call_back Kept told funcs slots frame cost m c instance finish adds (Spent world) keeps =
    let out = hears_spent funcs slots false frame keeps.count m keeps.es c keeps.last keeps.items instance.trace keeps.leads keeps.heard keeps.enough in
    subst (λ result. Follows (λ y x. IsFree Kept told x y) trace_of told (call_left instance finish result) (Spent world)) (sym out.is)
    (front_then out.front (front_of (sym keeps.tells)))
call_back Kept told funcs slots frame cost m c instance finish adds (Traps world) keeps = absurd keeps

-- ---- parts that are a call

pub adds_none : Adds no_more
adds_none memory told = front_same told

pub adds_frame : (slots : List Slot) (entry frame : ℕ) → Adds (frame_told slots entry frame)
adds_frame slots entry frame memory told = front_add told _

-- the same trace on both sides
pub from_trace : {World : Type 0} (funcs : List Func) (slots : List Slot) (frame cost n : ℕ) (c : Config) (told : World → List Item) (After : World → Step → List Item → Type 0) (left : Left World) {a b : List Item} → a ≡ b →
    CallKeeps funcs slots frame cost n c a told After left → CallKeeps funcs slots frame cost n c b told After left
from_trace funcs slots frame cost n c told After left e keeps = subst (λ trace. CallKeeps funcs slots frame cost n c trace told After left) e keeps

-- a part of the module that is one call of it
pub call_keeps : {World : Type 0} (Kept : Keeping World) (m : Module) (section : CmajorSection) (source : Source World) (R : World → Instance → Type 0) (part : Part) (coming : List Inputs) (frame : ℕ)
    (c : Config) (finish : List ℕ → List Item → List Item) (world : World) (instance : Instance) → Adds finish → ((x : World) (y : Instance) → IsFree Kept source.player.told x y → R x y) →
    source.player.told world ≡ instance.trace →
    ((steps : ℕ) → (module_player m section).perform steps part coming instance ≡ call_left instance finish (heard section.slots false frame (exec (funcs_of m) steps c) instance.trace)) →
    ((n : ℕ) → CallKeeps (funcs_of m) section.slots frame source.cost n c (source.player.told world) source.player.told (CallReturns Kept source.player.told instance.current finish) (source.player.perform n part coming world)) →
    KeepsPart source.cost R source.player (module_player m section) part coming world instance
call_keeps Kept m section source R part coming frame c finish world instance adds weaker same is keeps =
    let told = source.player.told in
    let left = λ (n : ℕ). source.player.perform n part coming world in
    let owed = λ (n : ℕ). from_trace (funcs_of m) section.slots frame source.cost n c told (CallReturns Kept told instance.current finish) (left n) same (keeps n) in
    record {
      forth = λ n.
          subst (λ other. Follows R told trace_of (left n) other) (sym (is (source.cost * (n + 1))))
          (follows_map (IsFree Kept told) R told trace_of weaker _ _ (call_forth Kept told (funcs_of m) section.slots frame source.cost n c instance finish adds (left n) (owed n)));
      back = λ steps.
          subst (λ other. Follows (λ y x. R x y) trace_of told other (left steps)) (sym (is steps))
          (follows_map (λ y x. IsFree Kept told x y) (λ y x. R x y) trace_of told (λ y x free. weaker x y free) _ _
          (call_back Kept told (funcs_of m) section.slots frame source.cost steps c instance finish adds (left steps) (owed steps)));
    }

-- the inits
pub init_keeps : {World : Type 0} (Kept : Keeping World) (m : Module) (section : CmajorSection) (source : Source World) (R : World → Instance → Type 0) →
    (coming : List Inputs) (instance : Instance) → ((x : World) (y : Instance) → IsFree Kept source.player.told x y → R x y) → source.player.told source.first ≡ instance.trace →
    InitKeeps Kept m section source instance.current instance.globals instance.memory →
    KeepsPart source.cost R source.player (module_player m section) Init coming source.first instance
init_keeps Kept m section source R coming instance weaker same keeps =
    call_keeps Kept m section source R Init coming 0 _ no_more source.first instance adds_none weaker same (λ steps. refl) (λ n. keeps n coming)

-- an event that is sent
pub send_keeps : {World : Type 0} (Kept : Keeping World) (m : Module) (section : CmajorSection) (source : Source World) (R : World → Instance → Type 0) → CallsKeep Kept m section source →
    (frame endpoint : ℕ) (value : List ℤ) (inputs : Inputs) (coming : List Inputs) (world : World) (instance : Instance) → ((x : World) (y : Instance) → IsFree Kept source.player.told x y → R x y) →
    IsTaken kinds.Event source.ends endpoint value → AreInputs source.ends inputs → IsFree Kept source.player.told world instance →
    KeepsPart source.cost R source.player (module_player m section) (Send frame endpoint value inputs) coming world instance
send_keeps Kept m section source R calls frame endpoint value inputs coming world instance weaker taken fit free =
    call_keeps Kept m section source R (Send frame endpoint value inputs) coming frame _ no_more world instance adds_none weaker free.tells (λ steps. refl)
    (λ n. calls.sends n frame endpoint value inputs coming world instance.current instance.globals instance.memory taken fit free.kept)

-- a frame of interface 1
pub single_keeps : {World : Type 0} (Kept : Keeping World) (m : Module) (section : CmajorSection) (source : Source World) → section.interface ≡ Single → SinglesKeep Kept m section source →
    (frame : ℕ) (inputs : Inputs) (coming : List Inputs) (world : World) (instance : Instance) → AreInputs source.ends inputs → IsFree Kept source.player.told world instance →
    KeepsPart source.cost (IsFree Kept source.player.told) source.player (module_player m section) (Frame frame inputs) coming world instance
single_keeps Kept m section source single keeps frame inputs coming world instance fit free =
    call_keeps Kept m section source (IsFree Kept source.player.told) (Frame frame inputs) coming frame _ (frame_told section.slots 0 frame) world instance (adds_frame section.slots 0 frame)
    (λ x y is. is) free.tells
    (λ steps. ap (λ (i : Interface). frame_part i (record { «module» = m; section = section; steps = steps }) frame inputs coming instance) single)
    (λ n. keeps n frame inputs coming world instance.current instance.globals instance.memory fit free.kept)
