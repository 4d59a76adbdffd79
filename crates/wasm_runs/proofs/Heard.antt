-- What a host hears of a run whose calls of the host are known.
use Rattle.std.proofs.Common.{◌≡◌, ℕ, zero, suc, ◌+◌, ◌-◌, ◌<◌, ◌≤◌, List, [], ◌∷◌, ◌++◌, take, Bool, true, false, Option, Some, None, refl, sym, ap, ◌∙◌, subst, append_assoc, append-nil, ℤ, pos, negsuc, arith}
use Rattle.cm_base.specs.declared.play.Item.{Item}
use Rattle.cm_base.specs.declared.play.Item.TheVariants as item
use Rattle.wasm_tree.specs.Section.{Slot}
use Rattle.wasm_tree.specs.Reduce.{Func, Config, Run, Done, Trapped, Out, Stuck, Emits, exec, follow}
use Rattle.wasm_tree.specs.Calls.{Heard, Returned, Marked, Exhausted, Failed, if_some, emitted, heard}
use Rattle.wasm_tree.specs.Slots.{event_slot, read_slot}
use Rattle.wasm_tree.specs.Keeps.{IsFront}
use Rattle.wasm_steps.specs.Steps.{Emission, host_calls, emitting, Leads, reduce}
use Rattle.wasm_steps.proofs.Budgets.{spent}
use Rattle.wasm_steps.proofs.Calls.{runs_to}
use Rattle.wasm_runs.specs.Calling.{TellEvents}
use Rattle.wasm_runs.proofs.Fronts.{front_same, front_add, front_then}

-- what was told when a call is heard
abbrev pub heard_told : Heard → List Item
heard_told (Returned globals memory told) = told
heard_told (Marked memory next told) = told
heard_told (Exhausted told) = told
heard_told (Failed told) = told

-- ---- what is told only grows

emitted_slot_grows : (found : Option Slot) (frame number : ℕ) (memory : List ℕ) (told : List Item) (go : List Item → Heard) →
    ((now : List Item) → IsFront now (heard_told (go now))) →
    IsFront told (heard_told (if_some found (Failed told) (λ slot. go (told ++ item.Event frame number (read_slot slot 0 memory) ∷ []))))
emitted_slot_grows None frame number memory told go later = front_same told
emitted_slot_grows (Some slot) frame number memory told go later = front_then (front_add told _) (later _)

emitted_grows : (slots : List Slot) (marks : Bool) (frame : ℕ) (number : ℤ) (memory : List ℕ) (next : Config) (told : List Item) (go : List Item → Heard) →
    ((now : List Item) → IsFront now (heard_told (go now))) → IsFront told (heard_told (emitted slots marks frame number memory next told go))
emitted_grows slots marks frame (pos number) memory next told go later = emitted_slot_grows (event_slot slots number) frame number memory told go later
emitted_grows slots true frame (negsuc zero) memory next told go later = front_same told
emitted_grows slots false frame (negsuc zero) memory next told go later = front_same told
emitted_grows slots marks frame (negsuc (suc n)) memory next told go later = front_same told

-- a call only adds to what was told before it
pub heard_grows : (slots : List Slot) (marks : Bool) (frame : ℕ) (run : Run) (told : List Item) → IsFront told (heard_told (heard slots marks frame run told))
unfolding heard
heard_grows slots marks frame (Done globals memory) told = front_same told
heard_grows slots marks frame Trapped told = front_same told
heard_grows slots marks frame Out told = front_same told
heard_grows slots marks frame Stuck told = front_same told
heard_grows slots marks frame (Emits number memory next rest) told = emitted_grows slots marks frame number memory next told (heard slots marks frame rest) (heard_grows slots marks frame rest)

-- ---- known calls of the host

emitted_event : (slots : List Slot) (marks : Bool) (frame : ℕ) (number : ℤ) (memory : List ℕ) (next : Config) (told : List Item) (go : List Item → Heard) (k : ℕ) (slot : Slot) →
    number ≡ pos k → event_slot slots k ≡ Some slot → emitted slots marks frame number memory next told go ≡ go (told ++ item.Event frame k (read_slot slot 0 memory) ∷ [])
emitted_event slots marks frame number memory next told go k slot is found =
    ap (λ z. emitted slots marks frame z memory next told go) is ∙ ap (λ o. if_some o (Failed told) (λ s. go (told ++ item.Event frame k (read_slot s 0 memory) ∷ []))) found

-- calls of the host that tell these items, and then a run
pub heard_emitting : (slots : List Slot) (marks : Bool) (frame : ℕ) (es : List Emission) (items : List Item) (run : Run) (told : List Item) → TellEvents slots frame (host_calls es) items →
    heard slots marks frame (emitting es run) told ≡ heard slots marks frame run (told ++ items)
unfolding heard
heard_emitting slots marks frame [] items run told tells = ap (heard slots marks frame run) (sym (append-nil told) ∙ ap (λ l. told ++ l) (sym tells))
heard_emitting slots marks frame (e ∷ es) [] run told tells = absurd tells
heard_emitting slots marks frame (e ∷ es) (i ∷ items) run told tells =
    let one = tells.0 in
    emitted_event slots marks frame e.number e.memory e.after told (heard slots marks frame (emitting es run)) one.number one.slot one.is one.found
    ∙ (heard_emitting slots marks frame es items run _ tells.1
    ∙ ap (heard slots marks frame run) (append_assoc told _ items ∙ ap (λ x. told ++ x ∷ items) (sym one.tells)))

-- a first part of the calls tells a first part
pub record TellsFirst (slots : List Slot) (frame : ℕ) (es : List Emission) (items : List Item) : Type 0 where
  pub first : List Item
  pub rest : List Item
  pub whole : items ≡ first ++ rest
  pub tells : TellEvents slots frame (host_calls es) first

pub tells_first : (slots : List Slot) (frame j : ℕ) (es : List Emission) (items : List Item) → TellEvents slots frame (host_calls es) items → TellsFirst slots frame (take j es) items
tells_first slots frame zero es items tells = record { first = []; rest = items; whole = refl; tells = refl }
tells_first slots frame (suc j) [] items tells = record { first = []; rest = items; whole = refl; tells = refl }
tells_first slots frame (suc j) (e ∷ es) [] tells = absurd tells
tells_first slots frame (suc j) (e ∷ es) (i ∷ items) tells =
    let more = tells_first slots frame j es items tells.1 in
    record { first = i ∷ more.first; rest = more.rest; whole = ap (λ l. i ∷ l) more.whole; tells = (tells.0, more.tells) }

-- ---- runs of a call

-- with more reductions than lead to the last one
pub hears_last : (funcs : List Func) (slots : List Slot) (marks : Bool) (frame count steps : ℕ) (es : List Emission) (c last : Config) (items told : List Item) →
    Leads funcs count es c last → TellEvents slots frame (host_calls es) items → count < steps →
    heard slots marks frame (exec funcs steps c) told ≡ heard slots marks frame (follow (reduce funcs last) (exec funcs (steps - suc count))) (told ++ items)
hears_last funcs slots marks frame count steps es c last items told leads tells more =
    ap (λ run. heard slots marks frame run told) (runs_to steps leads refl more) ∙ heard_emitting slots marks frame es items _ told tells

-- with no more than those
pub record IsSpent (told : List Item) (before after : List Item) (result : Heard) : Type 0 where
  pub so_far : List Item
  pub front : IsFront so_far after
  pub is : result ≡ Exhausted so_far

pub hears_spent : (funcs : List Func) (slots : List Slot) (marks : Bool) (frame count steps : ℕ) (es : List Emission) (c last : Config) (items told : List Item) →
    Leads funcs count es c last → TellEvents slots frame (host_calls es) items → steps ≤ count → IsSpent told told (told ++ items) (heard slots marks frame (exec funcs steps c) told)
unfolding heard
hears_spent funcs slots marks frame count steps es c last items told leads tells few =
    let found = spent steps leads few in
    let first = tells_first slots frame found.0 es items tells in
    record {
      so_far = told ++ first.first;
      front = record { rest = first.rest; joined = ap (λ l. told ++ l) first.whole ∙ sym (append_assoc told first.first first.rest) };
      is = ap (λ run. heard slots marks frame run told) found.2 ∙ heard_emitting slots marks frame (take found.0 es) first.first Out told first.tells;
    }

-- with as many or more, what they tell is told
pub hears_more : (funcs : List Func) (slots : List Slot) (marks : Bool) (frame count steps : ℕ) (es : List Emission) (c last : Config) (items told : List Item) →
    Leads funcs count es c last → TellEvents slots frame (host_calls es) items → count ≤ steps → IsFront (told ++ items) (heard_told (heard slots marks frame (exec funcs steps c) told))
hears_more funcs slots marks frame count steps es c last items told leads tells enough =
    let more : steps ≡ count + (steps - count) = omega arith in
    let is : exec funcs steps c ≡ emitting es (exec funcs (steps - count) last) = ap (λ j. exec funcs j c) more ∙ leads.by (steps - count) in
    subst (λ h. IsFront (told ++ items) (heard_told h))
    (sym (ap (λ run. heard slots marks frame run told) is ∙ heard_emitting slots marks frame es items _ told tells))
    (heard_grows slots marks frame (exec funcs (steps - count) last) (told ++ items))
