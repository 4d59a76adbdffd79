-- What is heard of a call, and who is told of it where no mark may come.
use Rattle.std.proofs.Common.{◌≡◌, ◌+◌, ◌++◌, ◌⊎◌, inl, inr, ℕ, zero, suc, List, [], ◌∷◌, Bool, true, false, Some, refl, sym, ap, ◌∙◌, subst, append_assoc, append-nil, ℤ, pos, negsuc, arith}
use Rattle.cm_base.specs.declared.play.Item.{Item}
use Rattle.cm_base.specs.declared.play.Item.TheVariants as item
use Rattle.wasm_tree.specs.Section.{Slot}
use Rattle.wasm_tree.specs.Reduce.{Func, Config, Run, Trapped}
use Rattle.wasm_tree.specs.Calls.{Heard, Returned, Marked, Exhausted, Failed, if_some, emitted, heard}
use Rattle.wasm_tree.specs.Slots.{event_slot, read_slot}
use Rattle.wasm_runner.specs.declared.host.HostAnswer.TheVariants as answer
use Rattle.wasm_runner.specs.declared.host.Ended.{Ended}
use Rattle.wasm_runner.specs.declared.host.Ended.TheVariants as ended
use Rattle.wasm_runner.specs.Following.{Follows, Returns, Fails, Lacks, Goes, Renews, Stops, Refuses}
use Rattle.wasm_runs.proofs.Heard.{heard_grows}
use Rattle.module_player.specs.declared.host.Telling.{Telling}
use Rattle.module_player.specs.Coming.{told_of, CallTells, CallReturns, CallLacks, CallFails, CallStops}
use Rattle.module_player.specs.Emitting.{Counts, IsNext, SendsEvent, EndsFrame, IsRefused}
use Rattle.module_player.specs.Telling.{TellsNone}
use Rattle.module_player.proofs.Hosts.{counts_of, TellingEmits, emits_at}
use Rattle.module_player.proofs.Pieces.{call_more, stops_first, told_is}

-- ---- one call of `emit`

-- the item of an event that is sent
abbrev pub sent : ℕ → ℕ → Slot → List ℕ → Item
sent frame endpoint slot memory = item.Event frame endpoint (read_slot slot 0 memory)

pub heard_event : (slots : List Slot) (marks : Bool) (frame : ℕ) (number : ℤ) (memory : List ℕ) (next : Config) (told : List Item) (go : List Item → Heard) (k : ℕ) (slot : Slot) →
    number ≡ pos k → event_slot slots k ≡ Some slot → emitted slots marks frame number memory next told go ≡ go (told ++ sent frame k slot memory ∷ [])
heard_event slots marks frame number memory next told go k slot is found =
    ap (λ z. emitted slots marks frame z memory next told go) is ∙ ap (λ o. if_some o (Failed told) (λ s. go (told ++ sent frame k s memory ∷ []))) found

pub heard_mark : (slots : List Slot) (frame : ℕ) (number : ℤ) (memory : List ℕ) (next : Config) (told : List Item) (go : List Item → Heard) → number ≡ negsuc 0 → emitted slots true frame number memory next told go ≡ Marked memory next told
heard_mark slots frame number memory next told go is = ap (λ z. emitted slots true frame z memory next told go) is

-- a number that is refused where no mark may come
heard_refused : (slots : List Slot) (left frame : ℕ) (number : ℤ) (memory : List ℕ) (next : Config) (told : List Item) (go : List Item → Heard) → IsRefused slots left number → emitted slots false frame number memory next told go ≡ Failed told
heard_refused slots left frame (pos number) memory next told go is = ap (λ o. if_some o (Failed told) (λ s. go (told ++ sent frame number s memory ∷ []))) is
heard_refused slots left frame (negsuc zero) memory next told go is = refl
heard_refused slots left frame (negsuc (suc n)) memory next told go is = refl

-- and where one may
pub heard_refused_marks : (slots : List Slot) (left frame : ℕ) (number : ℤ) (memory : List ℕ) (next : Config) (told : List Item) (go : List Item → Heard) → IsRefused slots (suc left) number → emitted slots true frame number memory next told go ≡ Failed told
heard_refused_marks slots left frame (pos number) memory next told go is = ap (λ o. if_some o (Failed told) (λ s. go (told ++ sent frame number s memory ∷ []))) is
heard_refused_marks slots left frame (negsuc zero) memory next told go is = absurd (cc is)
heard_refused_marks slots left frame (negsuc (suc n)) memory next told go is = refl

-- ---- a call

-- a mark doesn't come where none may
no_mark : (now next : Counts) → now.marks ≡ 0 → IsNext now next → ⊥
no_mark now next none is = let m : now.marks ≡ suc next.marks = is.marks in omega arith

-- the teller stops at an event
stopped : {T : Type 0} (tells : T → Item → Bool → T → Type 0) (slots : List Slot) (now next : Counts) (before after : T) (number : ℤ) (memory : List ℕ) (config : Config) (rest : Run) (told : List Item) (globals memory' : List ℕ) → now.marks ≡ 0 →
    (((next ≡ now) × SendsEvent tells slots now.frame before number memory false after) ⊎ (IsNext now next × EndsFrame tells slots now before number memory false after)) →
    CallTells tells told (emitted slots false now.frame number memory config told (heard slots false now.frame rest)) before ended.Stopped globals memory' after
stopped tells slots now next before after number memory config rest told globals memory' none (inl e) =
    let s = e.1 in
    let event : Item = sent now.frame s.endpoint s.slot memory in
    let grows = heard_grows slots false now.frame rest (told ++ event ∷ []) in
    let h : Heard = heard slots false now.frame rest (told ++ event ∷ []) in
    let is : emitted slots false now.frame number memory config told (heard slots false now.frame rest) ≡ h = heard_event slots false now.frame number memory config told (heard slots false now.frame rest) s.endpoint s.slot s.is s.found in
    CallStops (event ∷ grows.rest) globals memory' after
    (ap told_of is ∙ (told_is h ∙ (grows.joined ∙ append_assoc told (event ∷ []) grows.rest)))
    (stops_first tells before event grows.rest after s.told)
stopped tells slots now next before after number memory config rest told globals memory' none (inr e) = absurd (no_mark now next none e.0)

-- What is heard of a call in which no mark may come is told.
pub call_heard : {T : Type 0} (tells : T → Item → Bool → T → Type 0) (funcs : List Func) (steps : ℕ) (slots : List Slot) (now : Counts) (run : Run) (a : Telling T) (end : Ended) (globals memory : List ℕ) (b : Telling T) →
    Follows (TellingEmits tells) funcs steps run a end globals memory b → a.outputs.now ≡ slots → counts_of a ≡ now → now.marks ≡ 0 → (told : List Item) →
    CallTells tells told (heard slots false now.frame run told) a.teller.now end globals memory b.teller.now
unfolding heard
call_heard tells funcs steps slots now _ _ _ _ _ _ (Returns globals memory host) same here none told =
    CallReturns [] globals memory host.teller.now (ap (λ l. Returned globals memory l) (sym (append-nil told))) (TellsNone host.teller.now)
call_heard tells funcs steps slots now _ _ _ _ _ _ (Fails globals memory host) same here none told =
    CallFails [] globals memory host.teller.now (ap (λ l. Failed l) (sym (append-nil told))) (TellsNone host.teller.now)
call_heard tells funcs steps slots now _ _ _ _ _ _ (Lacks globals memory host) same here none told =
    CallLacks [] globals memory host.teller.now (ap (λ l. Exhausted l) (sym (append-nil told))) (TellsNone host.teller.now)
call_heard tells funcs steps slots now _ _ _ _ _ _ (Goes number moment next rest host after last end globals memory e more) same here none told =
    let does = emits_at tells slots now host after number moment answer.Go same here e in
    let s = does.1 in
    let event : Item = sent now.frame s.endpoint s.slot moment in
    let later = call_heard tells funcs steps slots now rest after end globals memory last more (e.2 ∙ same) does.0 none (told ++ event ∷ []) in
    subst (λ h. CallTells tells told h host.teller.now end globals memory last.teller.now)
    (sym (heard_event slots false now.frame number moment next told (heard slots false now.frame rest) s.endpoint s.slot s.is s.found))
    (call_more tells told event _ host.teller.now after.teller.now s.told end globals memory last.teller.now later)
call_heard tells funcs steps slots now _ _ _ _ _ _ (Renews number moment next rest host after last end globals memory e more) same here none told =
    absurd (no_mark now (counts_of after) none (emits_at tells slots now host after number moment answer.Fresh same here e).0)
call_heard tells funcs steps slots now _ _ _ _ _ _ (Stops number moment next rest host after globals memory e) same here none told =
    stopped tells slots now (counts_of after) host.teller.now after.teller.now number moment next rest told globals memory none (emits_at tells slots now host after number moment answer.Stop same here e)
call_heard tells funcs steps slots now _ _ _ _ _ _ (Refuses number moment next rest host after globals memory e) same here none told =
    let does = emits_at tells slots now host after number moment answer.Trap same here e in
    subst (λ t. CallTells tells told (emitted slots false now.frame number moment next told (heard slots false now.frame rest)) host.teller.now ended.Trapped globals memory t) (sym does.1)
    (CallFails [] globals memory host.teller.now
    (heard_refused slots now.marks now.frame number moment next told (heard slots false now.frame rest) does.2 ∙ ap (λ l. Failed l) (sym (append-nil told)))
    (TellsNone host.teller.now))
