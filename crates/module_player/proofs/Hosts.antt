-- The host of a call through the whole call.
use Rattle.std.proofs.Common.{◌≡◌, ◌+◌, ◌≤◌, inl, inr, ℕ, suc, List, Bool, refl, ap, ◌∙◌, subst, ℤ, arith}
use Rattle.cm_base.specs.declared.play.Item.{Item}
use Rattle.wasm_tree.specs.Reduce.{Func, Run}
use Rattle.wasm_tree.specs.Section.{Slot}
use Rattle.wasm_runner.specs.declared.host.HostAnswer.{HostAnswer}
use Rattle.wasm_runner.specs.declared.host.HostAnswer.TheVariants as answer
use Rattle.wasm_runner.specs.declared.host.Ended.{Ended}
use Rattle.wasm_runner.specs.Following.{Follows, Returns, Fails, Lacks, Goes, Renews, Stops, Refuses}
use Rattle.module_player.specs.declared.host.Telling.{Telling}
use Rattle.module_player.specs.Emitting.{Counts, IsNext, Emits}

abbrev pub counts_of : {T : Type 0} → Telling T → Counts
counts_of h = record { frame = h.frame; marks = h.marks; entry = h.entry }

-- what a call of `emit` does to the host
abbrev pub TellingEmits : {T : Type 0} → (T → Item → Bool → T → Type 0) → Telling T → ℤ → List ℕ → HostAnswer → Telling T → Type 0
TellingEmits tells h number memory answer k =
    (k.teller.ghost_name ≡ h.teller.ghost_name) × (k.outputs.ghost_name ≡ h.outputs.ghost_name) × (k.outputs.now ≡ h.outputs.now)
    × Emits tells h.outputs.now (counts_of h) h.teller.now number memory answer (counts_of k) k.teller.now

-- the same, over what is known of the host before
pub emits_at : {T : Type 0} (tells : T → Item → Bool → T → Type 0) (slots : List Slot) (now : Counts) (a b : Telling T) (number : ℤ) (memory : List ℕ) (answer : HostAnswer) → a.outputs.now ≡ slots → counts_of a ≡ now →
    TellingEmits tells a number memory answer b → Emits tells slots now a.teller.now number memory answer (counts_of b) b.teller.now
emits_at tells slots now a b number memory answer same here e =
    subst (λ s. Emits tells s now a.teller.now number memory answer (counts_of b) b.teller.now) same
    (subst (λ c. Emits tells a.outputs.now c a.teller.now number memory answer (counts_of b) b.teller.now) here e.3)

-- ---- what a call keeps

-- the frames that are still to come
abbrev frames_left : Counts → ℕ
frames_left now = now.frame + now.marks

record Moves (now next : Counts) : Type 0 where
  pub sum : frames_left next ≡ frames_left now
  pub fewer : next.marks ≤ now.marks

moves_same : (now next : Counts) → next ≡ now → Moves now next
moves_same now next same = record { sum = ap frames_left same; fewer = let e : next.marks ≡ now.marks = ap (λ c. c.marks) same in omega arith }

moves_next : (now next : Counts) → IsNext now next → Moves now next
moves_next now next is = record {
  sum = let f : next.frame ≡ now.frame + 1 = is.frame in let m : now.marks ≡ suc next.marks = is.marks in omega arith;
  fewer = let m : now.marks ≡ suc next.marks = is.marks in omega arith;
}

moves : {T : Type 0} (tells : T → Item → Bool → T → Type 0) (slots : List Slot) (now : Counts) (before : T) (number : ℤ) (memory : List ℕ) (answer : HostAnswer) (next : Counts) (after : T) →
    Emits tells slots now before number memory answer next after → Moves now next
moves tells slots now before number memory answer.Go next after e = moves_same now next e.0
moves tells slots now before number memory answer.Stop next after (inl e) = moves_same now next e.0
moves tells slots now before number memory answer.Stop next after (inr e) = moves_next now next e.0
moves tells slots now before number memory answer.Trap next after e = moves_same now next e.0
moves tells slots now before number memory answer.Fresh next after e = moves_next now next e.0

-- the references, the slots, and the frames to come with those that came
pub record Keeps {T : Type 0} (a b : Telling T) : Type 0 where
  pub teller : b.teller.ghost_name ≡ a.teller.ghost_name
  pub outputs : b.outputs.ghost_name ≡ a.outputs.ghost_name
  pub slots : b.outputs.now ≡ a.outputs.now
  pub sum : b.frame + b.marks ≡ a.frame + a.marks
  pub fewer : b.marks ≤ a.marks

keeps_same : {T : Type 0} (a : Telling T) → Keeps a a
keeps_same a = record { teller = refl; outputs = refl; slots = refl; sum = refl; fewer = omega arith }

keeps_one : {T : Type 0} (tells : T → Item → Bool → T → Type 0) (a b : Telling T) (number : ℤ) (memory : List ℕ) (answer : HostAnswer) → TellingEmits tells a number memory answer b → Keeps a b
keeps_one tells a b number memory answer e =
    let m = moves tells a.outputs.now (counts_of a) a.teller.now number memory answer (counts_of b) b.teller.now e.3 in
    record { teller = e.0; outputs = e.1; slots = e.2; sum = m.sum; fewer = m.fewer }

keeps_then : {T : Type 0} (a b c : Telling T) → Keeps a b → Keeps b c → Keeps a c
keeps_then a b c first second = record {
  teller = second.teller ∙ first.teller;
  outputs = second.outputs ∙ first.outputs;
  slots = second.slots ∙ first.slots;
  sum = second.sum ∙ first.sum;
  fewer = let f = first.fewer in let s = second.fewer in omega arith;
}

pub keeps : {T : Type 0} (tells : T → Item → Bool → T → Type 0) (funcs : List Func) (steps : ℕ) (run : Run) (a : Telling T) (end : Ended) (globals memory : List ℕ) (b : Telling T) → Follows (TellingEmits tells) funcs steps run a end globals memory b → Keeps a b
keeps tells funcs steps _ _ _ _ _ _ (Returns globals memory host) = keeps_same host
keeps tells funcs steps _ _ _ _ _ _ (Fails globals memory host) = keeps_same host
keeps tells funcs steps _ _ _ _ _ _ (Lacks globals memory host) = keeps_same host
keeps tells funcs steps _ _ _ _ _ _ (Goes number now next rest host after last end globals memory e more) =
    keeps_then host after last (keeps_one tells host after number now answer.Go e) (keeps tells funcs steps rest after end globals memory last more)
keeps tells funcs steps _ _ _ _ _ _ (Renews number now next rest host after last end globals memory e more) =
    keeps_then host after last (keeps_one tells host after number now answer.Fresh e) (keeps tells funcs steps _ after end globals memory last more)
keeps tells funcs steps _ _ _ _ _ _ (Stops number now next rest host after globals memory e) = keeps_one tells host after number now answer.Stop e
keeps tells funcs steps _ _ _ _ _ _ (Refuses number now next rest host after globals memory e) = keeps_one tells host after number now answer.Trap e
