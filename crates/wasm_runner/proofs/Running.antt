-- A run inside one function, step by step.
use Rattle.std.proofs.Common.{◌≡◌, ℕ, suc, ◌<◌, ◌≤◌, List, length, Some, refl, ap, ◌∙◌, arith}
use Rattle.std.specs.Prelude.{slice_get}
use Rattle.wasm_tree.specs.declared.instr.Instr.{Instr}
use Rattle.wasm_tree.specs.declared.instr.Instr.TheVariants as instr
use Rattle.wasm_tree.specs.declared.module.FuncBody.{FuncBody}
use Rattle.wasm_tree.specs.Reduce.{Config, Func, To, Traps, Out, Trapped, exec, follow}
use Rattle.wasm_steps.specs.Steps.{reduce}
use Rattle.wasm_steps.proofs.Compose.{exec-zero, exec-suc}
use Rattle.wasm_runner.specs.declared.place.Place.{Place}
use Rattle.wasm_runner.specs.declared.place.Block.{Block}
use Rattle.wasm_runner.specs.declared.place.Caller.{Caller}
use Rattle.wasm_sound.specs.Sound.{Scope}
use Rattle.wasm_runner.specs.Standing.{Stacks, IsAt, IsSomewhere}
use Rattle.wasm_runner.specs.Steps.{Goes, Stays, GivesBack, Exits}
use Rattle.wasm_runner.specs.Pauses.{Leaves, Calls}
use Rattle.wasm_runner.proofs.Places.{within_code}

-- the run goes on from here with these reductions
pub record Comes (scope : Scope) (codes : List FuncBody) (code : List Instr) (s : Stacks) (depth : ℕ) (place : Place) (steps left : ℕ) (c : Config) : Type 0 where
  pub now : Config
  pub same : exec scope.funcs steps c ≡ exec scope.funcs left now
  pub fewer : left ≤ steps
  pub is : IsAt scope codes code s depth place now

-- wherever it began
abbrev pub FromAnywhere : List Instr → (cells : List ℕ) → (blocks : List Block) → (globals memory : List ℕ) → Place → ℕ → (cells' : List ℕ) → (blocks' : List Block) → (globals' memory' : List ℕ) → Place → ℕ → Type 0
FromAnywhere code cells blocks globals memory from steps cells' blocks' globals' memory' place left =
    (scope : Scope) (codes : List FuncBody) (callers : List Caller) (depth : ℕ) (c : Config) →
    IsAt scope codes code (record { cells = cells; blocks = blocks; callers = callers; globals = globals; memory = memory }) depth from c →
    Comes scope codes code (record { cells = cells'; blocks = blocks'; callers = callers; globals = globals'; memory = memory' }) depth place steps left c

pub begins : (code : List Instr) (cells : List ℕ) (blocks : List Block) (globals memory : List ℕ) (from : Place) (steps : ℕ) → FromAnywhere code cells blocks globals memory from steps cells blocks globals memory from steps
begins code cells blocks globals memory from steps scope codes callers depth c a = record { now = c; same = refl; fewer = omega arith; is = a }

pub still_there : (code : List Instr) (cells : List ℕ) (blocks : List Block) (globals memory : List ℕ) (from : Place) (steps : ℕ) (cells' : List ℕ) (blocks' : List Block) (globals' memory' : List ℕ) (place : Place) (left : ℕ) →
    IsSomewhere code cells blocks globals memory from → FromAnywhere code cells blocks globals memory from steps cells' blocks' globals' memory' place left → IsSomewhere code cells' blocks' globals' memory' place
still_there code cells blocks globals memory from steps cells' blocks' globals' memory' place left w f =
    let n = f w.scope w.codes w.callers w.depth w.c w.is in
    record { scope = w.scope; codes = w.codes; callers = w.callers; depth = w.depth; c = n.now; is = n.is }

pub in_code : (code : List Instr) (cells : List ℕ) (blocks : List Block) (globals memory : List ℕ) (place : Place) → IsSomewhere code cells blocks globals memory place → (place.at < length code) × (place.sp ≤ length cells) × (place.lp ≤ length blocks)
in_code code cells blocks globals memory place w =
    let sh = w.is.shows in
    let a1 = sh.sp_is in let a2 = sh.floor_is in let a3 = sh.lp_is in
    (within_code code place.at w.c.code _ sh.stands, omega arith, omega arith)

-- one more reduction
one_more : (funcs : List Func) (c d : Config) (left rest : ℕ) → left ≡ suc rest → reduce funcs c ≡ To d → exec funcs left c ≡ exec funcs rest d
one_more funcs c d left rest e r = ap (λ n. exec funcs n c) e ∙ exec-suc funcs rest c ∙ ap (λ x. follow x (exec funcs rest)) r

pub goes : {scope : Scope} {codes : List FuncBody} {code : List Instr} {s s' : Stacks} {depth : ℕ} {place place' : Place} {steps left : ℕ} {c : Config} (rest : ℕ) → left ≡ suc rest →
    (n : Comes scope codes code s depth place steps left c) → Goes scope codes code s' depth place' n.now → Comes scope codes code s' depth place' steps rest c
goes {scope} {left = left} rest e n g = let f = n.fewer in record { now = g.next; same = n.same ∙ one_more scope.funcs n.now g.next left rest e g.reduces; fewer = omega arith; is = g.is }

pub stays : {scope : Scope} {codes : List FuncBody} {code : List Instr} {s s' : Stacks} {depth : ℕ} {place place' : Place} {steps left : ℕ} {c : Config} →
    (n : Comes scope codes code s depth place steps left c) → Stays scope codes code s' depth place' n.now → Comes scope codes code s' depth place' steps left c
stays {left = left} n g = record { now = g.next; same = n.same ∙ g.same left; fewer = n.fewer; is = g.is }

pub spent : {scope : Scope} {codes : List FuncBody} {code : List Instr} {s : Stacks} {depth : ℕ} {place : Place} {steps left : ℕ} {c : Config} → left ≡ 0 →
    (n : Comes scope codes code s depth place steps left c) → exec scope.funcs steps c ≡ Out
spent {scope} e n = n.same ∙ ap (λ k. exec scope.funcs k n.now) e ∙ exec-zero scope.funcs n.now

pub traps : {scope : Scope} {codes : List FuncBody} {code : List Instr} {s : Stacks} {depth : ℕ} {place : Place} {steps left : ℕ} {c : Config} (rest : ℕ) → left ≡ suc rest →
    (n : Comes scope codes code s depth place steps left c) → reduce scope.funcs n.now ≡ Traps → exec scope.funcs steps c ≡ Trapped
traps {scope} rest e n r = n.same ∙ ap (λ k. exec scope.funcs k n.now) e ∙ exec-suc scope.funcs rest n.now ∙ ap (λ x. follow x (exec scope.funcs rest)) r

pub calls : {scope : Scope} {codes : List FuncBody} {code : List Instr} {s s' : Stacks} {depth : ℕ} {place : Place} {steps left function : ℕ} {c : Config} → 0 < left →
    (n : Comes scope codes code s depth place steps left c) → (slice_get code place.at ≡ Some (instr.Call function)) × IsAt scope codes code s' depth place n.now → Calls scope codes code s' depth function place c steps left
calls some n t = record { next = n.now; same = n.same; some = some; fewer = n.fewer; there = t.0; is = t.1 }

pub leaves : {scope : Scope} {codes : List FuncBody} {code : List Instr} {s s' : Stacks} {depth : ℕ} {place place' : Place} {steps left sp : ℕ} {c : Config} → 0 < left →
    (n : Comes scope codes code s depth place steps left c) → GivesBack scope codes s' depth place'.base place'.floor sp n.now → Leaves scope codes s' depth place' sp c steps left
leaves some n g = record { next = n.now; same = n.same; some = some; fewer = n.fewer; is = g }

pub exit_spent : {scope : Scope} {codes : List FuncBody} {code : List Instr} {s s' : Stacks} {depth : ℕ} {place : Place} {steps left base floor sp : ℕ} {c : Config} → left ≡ suc 0 →
    (n : Comes scope codes code s depth place steps left c) → Exits scope codes s' depth base floor sp n.now → exec scope.funcs steps c ≡ Out
exit_spent {scope} {left = left} e n x = n.same ∙ one_more scope.funcs n.now x.next left 0 e x.reduces ∙ exec-zero scope.funcs x.next

pub exits : {scope : Scope} {codes : List FuncBody} {code : List Instr} {s s' : Stacks} {depth : ℕ} {place place' : Place} {steps left sp : ℕ} {c : Config} (rest : ℕ) → left ≡ suc rest → 0 < rest →
    (n : Comes scope codes code s depth place steps left c) → Exits scope codes s' depth place'.base place'.floor sp n.now → Leaves scope codes s' depth place' sp c steps rest
exits {scope} {left = left} rest e some n x = let f = n.fewer in record { next = x.next; same = n.same ∙ one_more scope.funcs n.now x.next left rest e x.reduces; some = some; fewer = omega arith; is = x.is }
