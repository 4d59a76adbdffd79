-- From the code of one function to the next.
use Rattle.std.proofs.Common.{◌≡◌, ◌≢◌, ℕ, suc, ◌+◌, ◌-◌, ◌<◌, ◌≤◌, List, [], ◌∷◌, length, Some, refl, sym, ap, ◌∙◌, subst, arith, get_or}
use Rattle.std.specs.Prelude.{slice_get}
use Rattle.std.proofs.lemmas.Option.{slice_get-get_or, slice_get_within}
use Rattle.wasm_tree.specs.declared.instr.Instr.{Instr}
use Rattle.wasm_tree.specs.declared.instr.Instr.TheVariants as instr
use Rattle.wasm_tree.specs.declared.module.FuncBody.{FuncBody}
use Rattle.wasm_tree.specs.Reduce.{State, CallFrame, Config, Run, Done, Trapped, Out, give_back, follow, exec}
use Rattle.wasm_steps.proofs.Compose.{exec-suc}
use Rattle.wasm_sound.specs.Sound.{Scope}
use Rattle.wasm_runner.specs.declared.function.Function.{Function}
use Rattle.wasm_runner.specs.declared.host.Ended.{Ended}
use Rattle.wasm_runner.specs.declared.host.Ended.TheVariants as ended
use Rattle.wasm_runner.specs.declared.jump.Jump.{Jump}
use Rattle.wasm_runner.specs.declared.place.Place.{Place}
use Rattle.wasm_runner.specs.declared.calls.Activation.{Activation}
use Rattle.wasm_runner.specs.declared.run.Turn.{Turn}
use Rattle.wasm_runner.specs.declared.run.Turn.TheVariants as turn
use Rattle.wasm_runner.specs.Jumps.{AreJumps, rests}
use Rattle.wasm_runner.proofs.Places.{within_code}
use Rattle.wasm_runner.specs.Standing.{Stacks, IsAt, IsSomewhere}
use Rattle.wasm_runner.specs.Pauses.{Calls, Leaves}
use Rattle.wasm_runner.specs.Activations.{IsProgram, IsActive, IsCalling, Enters, CallsSomewhere, LeavesSomewhere}
use Rattle.wasm_runner.specs.Following.{Follows, Returns, Fails, Lacks}
use Rattle.wasm_runner.specs.Turns.{Emits, Proceeds, Turned, RunsSomewhere, AsksSomewhere, ahead}

-- ---- what is read

-- the code and the jumps of the function that runs
pub body_here : (codes : List FuncBody) (n : ℕ) (r body : FuncBody) → slice_get codes n ≡ Some body → r ≡ get_or codes n r → body ≡ r
body_here codes n r body f e = let g = slice_get-get_or codes n r (slice_get_within codes n body f) in let k : Some body ≡ Some r = sym f ∙ g ∙ ap Some (sym e) in cc

module _ (scope : Scope) (codes : List FuncBody) (functions : List Function) (p : IsProgram scope codes functions) (s : Stacks) (now : Activation) (c : Config) (a : IsActive scope codes s now c) where
  pub function_there : (now.function < length codes) × (now.function < length functions)
  function_there =
      let j = p.jumps now.function a.body a.found in
      (slice_get_within codes now.function a.body a.found, slice_get_within functions now.function j.0 j.1)

  pub jumps_here : (body : FuncBody) (function : Function) → body ≡ get_or codes now.function body → function ≡ get_or functions now.function function → AreJumps body.code function.jumps.items
  jumps_here body function e g =
      let j = p.jumps now.function a.body a.found in
      let same : j.0 ≡ function = let k : Some j.0 ≡ Some function = sym j.1 ∙ slice_get-get_or functions now.function function function_there.1 ∙ ap Some (sym g) in cc in
      subst (λ (x : Function). AreJumps body.code x.jumps.items) same (subst (λ (x : FuncBody). AreJumps x.code j.0.jumps.items) (body_here codes now.function body a.body a.found e) j.2)

  pub are_jumps : (body : FuncBody) (function : Function) (code : List Instr) (jumps : List Jump) → body ≡ get_or codes now.function body → function ≡ get_or functions now.function function →
      code ≡ (get_or codes now.function body).code → jumps ≡ (get_or functions now.function function).jumps.items → AreJumps code jumps
  are_jumps body function code jumps e g k l =
      let j = jumps_here body function e g in
      subst (λ x. AreJumps x jumps) (sym (k ∙ ap (λ (x : FuncBody). x.code) (sym e))) (subst (λ x. AreJumps body.code x) (sym (l ∙ ap (λ (x : Function). x.jumps.items) (sym g))) j)

  pub at_here : (body : FuncBody) → body ≡ get_or codes now.function body → IsAt scope codes body.code s now.depth now.place c
  at_here body e = subst (λ (x : FuncBody). IsAt scope codes x.code s now.depth now.place c) (body_here codes now.function body a.body a.found e) a.is

  pub found_here : (body : FuncBody) → body ≡ get_or codes now.function body → slice_get codes now.function ≡ Some body
  found_here body e = a.found ∙ ap Some (body_here codes now.function body a.body a.found e)

  module _ (body : FuncBody) (e : body ≡ get_or codes now.function body) (code : List Instr) (was : code ≡ (get_or codes now.function body).code) where
    k : code ≡ body.code
    k = was ∙ ap (λ (x : FuncBody). x.code) (sym e)

    pub code_at : IsAt scope codes code s now.depth now.place c
    code_at = subst (λ l. IsAt scope codes l s now.depth now.place c) (sym k) (at_here body e)

    pub somewhere : IsSomewhere code s.cells s.blocks s.globals s.memory now.place
    somewhere = record { scope = scope; codes = codes; callers = s.callers; depth = now.depth; c = c; is = code_at }

    abbrev pub there : Place → Activation
    there place = record { function = now.function; place = place; depth = now.depth }

    pub calling : (s' : Stacks) (number : ℕ) (place : Place) (left rest : ℕ) (w : Calls scope codes code s' now.depth number place c left rest) → IsCalling scope codes s' (there place) number w.next
    calling s' number place left rest w =
        record {
          active = record { body = body; found = found_here body e; is = subst (λ l. IsAt scope codes l s' now.depth place w.next) k w.is };
          there = subst (λ l. slice_get l place.at ≡ Some (instr.Call number)) k w.there;
        }

    pub calling_host : (s' : Stacks) (number : ℕ) (place : Place) (left rest : ℕ) (w : Calls scope codes code s' now.depth number place c left rest) → number ≡ 0 → IsCalling scope codes s' (there place) 0 w.next
    calling_host s' number place left rest w e = subst (λ n. IsCalling scope codes s' (there place) n w.next) e (calling s' number place left rest w)

    pub calling_own : (s' : Stacks) (number : ℕ) (place : Place) (left rest : ℕ) (w : Calls scope codes code s' now.depth number place c left rest) → number ≢ 0 → IsCalling scope codes s' (there place) (suc (number - 1)) w.next
    calling_own s' number place left rest w e = let up : number ≡ suc (number - 1) = omega arith in subst (λ n. IsCalling scope codes s' (there place) n w.next) up (calling s' number place left rest w)

    pub asks_somewhere : (s' : Stacks) (number : ℕ) (place : Place) (left rest : ℕ) → Calls scope codes code s' now.depth number place c left rest → number ≡ 0 → AsksSomewhere s'.cells s'.memory (there place)
    asks_somewhere s' number place left rest w e =
        record { scope = scope; codes = codes; typed = p.is; blocks = s'.blocks; callers = s'.callers; globals = s'.globals; c = w.next; is = calling_host s' number place left rest w e }

    pub calls_somewhere : (s' : Stacks) (number : ℕ) (place : Place) (left rest : ℕ) → Calls scope codes code s' now.depth number place c left rest → number ≢ 0 → CallsSomewhere functions s'.cells s'.callers (there place) (suc (number - 1))
    calls_somewhere s' number place left rest w e =
        record { scope = scope; codes = codes; program = p; blocks = s'.blocks; globals = s'.globals; memory = s'.memory; c = w.next; is = calling_own s' number place left rest w e }

    pub leaves_somewhere : (s' : Stacks) (sp left rest : ℕ) → Leaves scope codes s' now.depth now.place sp c left rest → now.depth ≢ length s'.callers → LeavesSomewhere s'.cells s'.callers now sp
    leaves_somewhere s' sp left rest w e =
        let d = w.is.depth_is in
        record { scope = scope; codes = codes; blocks = s'.blocks; globals = s'.globals; memory = s'.memory; c = w.next; is = w.is; waits = omega arith }

    pub in_code_there : (s' : Stacks) (number : ℕ) (place : Place) (left rest : ℕ) → Calls scope codes code s' now.depth number place c left rest → place.at < length code
    in_code_there s' number place left rest w = within_code code place.at w.next.code (rests w.next.labels) w.is.shows.stands

-- ---- turns

module _ {Host : Type 0} (emits : Emits Host) (renewable : Host → ℕ) (scope : Scope) (codes : List FuncBody) (steps : ℕ) where
  -- from an earlier configuration
  pub earlier : (s : Stacks) (before after : Host) (c d : Config) (left rest : ℕ) (t : Turn) → exec scope.funcs left c ≡ exec scope.funcs rest d → rest ≤ left →
      Turned emits renewable scope codes steps s before after d rest t → Turned emits renewable scope codes steps s before after c left t
  earlier s before after c d left rest (turn.Ends end) e l t = subst (λ run. Follows emits scope.funcs steps run before end s.globals s.memory after) (sym e) t
  earlier s before after c d left rest (turn.Goes now k) e l t =
      let f = t.1 in (
        record {
          next = t.0.next;
          is = t.0.is;
          fewer = t.0.fewer;
          follows = λ end globals memory last w. subst (λ run. Follows emits scope.funcs steps run before end globals memory last) (sym e) (t.0.follows end globals memory last w);
        },
        omega arith,
      )

  -- one reduction to another activation
  pub entered : (s : Stacks) (host : Host) (c d : Config) (left rest k : ℕ) (now : Activation) → exec scope.funcs left c ≡ exec scope.funcs rest d → rest ≤ left → left ≤ steps → rest ≡ suc k →
      Enters scope codes s now d → Turned emits renewable scope codes steps s host host c left (turn.Goes now k)
  entered s host c d left rest k now e l m n t =
      let run : exec scope.funcs left c ≡ exec scope.funcs k t.next = e ∙ ap (λ x. exec scope.funcs x d) n ∙ exec-suc scope.funcs k d ∙ ap (λ x. follow x (exec scope.funcs k)) t.reduces in (
        record {
          next = t.next;
          is = t.is;
          fewer = omega arith;
          follows = λ end globals memory last w. subst (λ run. Follows emits scope.funcs steps run host end globals memory last) (sym run) w;
        },
        omega arith,
      )

  pub spent : (s : Stacks) (host : Host) (c : Config) (left : ℕ) → exec scope.funcs left c ≡ Out → Turned emits renewable scope codes steps s host host c left (turn.Ends ended.StepsSpent)
  spent s host c left e = subst (λ run. Follows emits scope.funcs steps run host ended.StepsSpent s.globals s.memory host) (sym e) (Lacks s.globals s.memory host)

  pub trapped : (s : Stacks) (host : Host) (c : Config) (left : ℕ) → exec scope.funcs left c ≡ Trapped → Turned emits renewable scope codes steps s host host c left (turn.Ends ended.Trapped)
  trapped s host c left e = subst (λ run. Follows emits scope.funcs steps run host ended.Trapped s.globals s.memory host) (sym e) (Fails s.globals s.memory host)

  -- the end of the call from outside
  last : (s : Stacks) (st : State) (fs : List CallFrame) (depth : ℕ) → depth + length fs ≡ length s.callers → depth ≡ length s.callers → st.globals ≡ s.globals → st.memory ≡ s.memory →
      (k : Config → Run) → follow (give_back st fs) k ≡ Done s.globals s.memory
  last s st [] depth e g a b k = ap (λ x. Done x st.memory) a ∙ ap (λ x. Done s.globals x) b
  last s st (f ∷ fs) depth e g a b k = let n : length (f ∷ fs) ≡ suc (length fs) = refl in absurd (omega arith)

  pub done : (s : Stacks) (host : Host) (c : Config) (now : Activation) (sp left rest : ℕ) → Leaves scope codes s now.depth now.place sp c left rest → now.depth ≡ length s.callers →
      Turned emits renewable scope codes steps s host host c left (turn.Ends ended.Done)
  done s host c now sp left rest w g =
      let some = w.some in
      let one_more : rest ≡ suc (rest - 1) = omega arith in
      let run : exec scope.funcs left c ≡ Done s.globals s.memory =
      w.same ∙ ap (λ x. exec scope.funcs x w.next) one_more ∙ exec-suc scope.funcs (rest - 1) w.next ∙ ap (λ x. follow x (exec scope.funcs (rest - 1))) w.is.reduces
      ∙ last s w.next.state w.next.frames now.depth w.is.depth_is g w.is.globals_are w.is.memory_is (exec scope.funcs (rest - 1)) in
      subst (λ run. Follows emits scope.funcs steps run host ended.Done s.globals s.memory host) (sym run) (Returns s.globals s.memory host)

-- ---- the whole run

-- wherever it began
abbrev pub ProceedsFrom : {Host : Type 0} → Emits Host → List FuncBody → List Function → (steps : ℕ) → Stacks → Activation → Host → Stacks → Activation → (left : ℕ) → Host → Type 0
ProceedsFrom emits codes functions steps s first before s' now left after =
    (scope : Scope) (c : Config) → IsProgram scope codes functions → IsActive scope codes s first c → Proceeds emits scope codes steps s' now left after c steps before

module _ {Host : Type 0} (emits : Emits Host) (renewable : Host → ℕ) (codes : List FuncBody) (functions : List Function) (steps : ℕ) (s : Stacks) (first : Activation) (before : Host) where
  pub begins : ProceedsFrom emits codes functions steps s first before s first steps before
  begins scope c p a = record { next = c; is = a; fewer = omega arith; follows = λ end globals memory last f. f }

  module _ (s' : Stacks) (now : Activation) (left : ℕ) (after : Host) (f : ProceedsFrom emits codes functions steps s first before s' now left after) where
    pub still : RunsSomewhere codes functions s first → RunsSomewhere codes functions s' now
    still w = record { scope = w.scope; program = w.program; c = (f w.scope w.c w.program w.is).next; is = (f w.scope w.c w.program w.is).is }

    pub still_fewer : RunsSomewhere codes functions s first → left ≤ steps
    still_fewer w = (f w.scope w.c w.program w.is).fewer

    -- what a turn from here does
    abbrev pub TurnsTo : Stacks → Host → Turn → Type 0
    TurnsTo t host to = (scope : Scope) (c : Config) → IsProgram scope codes functions → IsActive scope codes s' now c → Turned emits renewable scope codes steps t after host c left to

    pub proceeds : (t : Stacks) (host : Host) (to : Activation) (rest : ℕ) → TurnsTo t host (turn.Goes to rest) → ProceedsFrom emits codes functions steps s first before t to rest host
    proceeds t host to rest g scope c p a =
        let k = f scope c p a in
        let n = (g scope k.next p k.is).0 in
        record { next = n.next; is = n.is; fewer = n.fewer; follows = λ end globals memory last w. k.follows end globals memory last (n.follows end globals memory last w) }

    pub nearer : (t : Stacks) (host : Host) (to : Activation) (rest : ℕ) → TurnsTo t host (turn.Goes to rest) → RunsSomewhere codes functions s first → ahead renewable steps rest host < ahead renewable steps left after
    nearer t host to rest g w = let k = f w.scope w.c w.program w.is in (g w.scope k.next w.program k.is).1

    pub ends : (t : Stacks) (host : Host) (end : Ended) → TurnsTo t host (turn.Ends end) →
        (scope : Scope) (c : Config) → IsProgram scope codes functions → IsActive scope codes s first c → Follows emits scope.funcs steps (exec scope.funcs steps c) before end t.globals t.memory host
    ends t host end g scope c p a = let k = f scope c p a in k.follows end t.globals t.memory host (g scope k.next p k.is)
