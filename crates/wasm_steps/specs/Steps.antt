-- How reductions put together are stated: from one configuration to another with the calls of the host
-- between, for a sequence wherever it stands, and for a whole function. Core Specification 1.0, 4.5.5.
use Rattle.std.specs.Prelude.{◌≡◌, ℕ, ◌+◌, List, [], ◌∷◌, ◌++◌, take, reverse, replicate, Bool, true, false, Option, None, ℤ}
use Rattle.std.specs.Int.{w32, cast_signed}
use Rattle.wasm_tree.specs.declared.module.ValType.{ValType}
use Rattle.wasm_tree.specs.Reduce.{Seq, Nil, Plain, InBlock, InLoop, InIf, Func, State, Label, CallFrame, Config, Step, To, Asks, Traps, Run, Done, Trapped, Out, Stuck, Emits, at, arity_of, act, give_back, branch, exec}

-- ---- configurations

-- a call of the host: its number, the memory of that moment, and where the run goes on
pub record Emission : Type 0 where
  pub number : ℤ
  pub memory : List ℕ
  pub after : Config

-- a run before which the host is called so
abbrev pub emitting : List Emission → Run → Run
emitting [] run = run
emitting (e ∷ es) run = Emits e.number e.memory e.after (emitting es run)

-- the next reduction
abbrev pub reduce : List Func → Config → Step
reduce funcs c = act funcs c.code c.state c.labels c.frames

-- n reductions lead from one configuration to the other, and call the host so
pub record Leads (funcs : List Func) (n : ℕ) (es : List Emission) (c d : Config) : Type 0 where
  pub by : (k : ℕ) → exec funcs (n + k) c ≡ emitting es (exec funcs k d)

-- ---- runs

-- whether the run came to its end, and isn't cut off for want of reductions
abbrev pub is_over : Run → Bool
is_over (Done globals memory) = true
is_over Trapped = true
is_over Stuck = true
is_over Out = false
is_over (Emits number memory next rest) = is_over rest

-- whether the run has no call of the host before it stops
abbrev pub is_last : Run → Bool
is_last (Done globals memory) = true
is_last Trapped = true
is_last Stuck = true
is_last Out = true
is_last (Emits number memory next rest) = false

-- the second run is the first, or goes on where the first is out of reductions
pub data Upto : Run → Run → Type 0 where
  UptoOut : (run : Run) → Upto Out run
  UptoSame : (run : Run) → Upto run run
  UptoEmits : (number : ℤ) (memory : List ℕ) (next : Config) (short long : Run) → Upto short long → Upto (Emits number memory next short) (Emits number memory next long)

-- ---- sequences wherever they stand

-- one sequence after another
abbrev pub join : Seq → Seq → Seq
join Nil rest = rest
join (Plain i s) rest = Plain i (join s rest)
join (InBlock result body s) rest = InBlock result body (join s rest)
join (InLoop result body s) rest = InLoop result body (join s rest)
join (InIf result first second s) rest = InIf result first second (join s rest)

-- where a sequence stands: what follows it, and the open labels and the callers around it
pub record Place : Type 0 where
  pub rest : Seq
  pub labels : List Label
  pub frames : List CallFrame

-- a sequence about to run at a place
abbrev pub start : Seq → State → Place → Config
start code st p = at (join code p.rest) st p.labels p.frames

-- a sequence that has run at a place
abbrev pub finish : State → Place → Config
finish st p = at p.rest st p.labels p.frames

-- the host isn't called
abbrev pub quiet : Place → List Emission
quiet p = []

-- wherever the sequence stands, it leads in n reductions from the state before it to the state after it
pub record Does (funcs : List Func) (code : Seq) (n : ℕ) (es : Place → List Emission) (st st' : State) : Type 0 where
  pub here : (p : Place) → Leads funcs n (es p) (start code st p) (finish st' p)

-- wherever the sequence stands, n reductions lead to a configuration whose next reduction is this step
pub record Meets (funcs : List Func) (code : Seq) (n : ℕ) (es : Place → List Emission) (st : State) (step : Place → Step) : Type 0 where
  pub last : Place → Config
  pub leads : (p : Place) → Leads funcs n (es p) (start code st p) (last p)
  pub reduces : (p : Place) → reduce funcs (last p) ≡ step p

-- the last reduction branches to the label of this number
abbrev pub branching : ℕ → State → Place → Step
branching depth st p = branch depth st p.labels p.frames

-- the last reduction ends the function
abbrev pub returning : State → Place → Step
returning st p = give_back st p.frames

-- the last reduction traps
abbrev pub trapping : Place → Step
trapping p = Traps

-- the last reduction calls the host, with the operand as its number
abbrev pub asking : ℕ → State → Place → Step
asking x st p = Asks (cast_signed w32 x) st.memory (finish st p)

-- ---- labels

-- a place in front of more code
abbrev pub before : Seq → Place → Place
before code p = record p { rest = join code p.rest }

-- the end of a sequence under a label
abbrev pub inside : Label → Place → Place
inside label p = record { rest = Nil; labels = label ∷ p.labels; frames = p.frames }

-- the label of a block, or of an arm of an `if`, over these operands
abbrev pub block_label : Option ValType → List ℕ → Seq → Label
block_label result below rest = record { arity = arity_of result; target = rest; below = below; rest = rest }

-- the label of a loop, which leads to the loop again
abbrev pub loop_label : Option ValType → Seq → List ℕ → Seq → Label
loop_label result body below rest = record { arity = 0; target = InLoop result body rest; below = below; rest = rest }

-- where the body of a block stands, and an arm of an `if`
abbrev pub in_block_of : Option ValType → List ℕ → Place → Place
in_block_of result below p = inside (block_label result below p.rest) p

-- where the body of a loop stands
abbrev pub in_loop_of : Option ValType → Seq → List ℕ → Place → Place
in_loop_of result body below p = inside (loop_label result body below p.rest) p

-- one reduction enters a sequence under a label
pub record Enters (funcs : List Func) (code body : Seq) (st inner : State) (label : Place → Label) : Type 0 where
  pub enters : (p : Place) → reduce funcs (start code st p) ≡ To (at body inner (label p ∷ p.labels) p.frames)

-- ---- functions

-- the end of a function's body under its callers
abbrev pub bottom : List CallFrame → Place
bottom frames = record { rest = Nil; labels = []; frames = frames }

-- A body runs from its start: n reductions lead to the one that ends the function, which may be the end of
-- the body, a branch past all labels or a `return`.
pub record Finishes (funcs : List Func) (body : Seq) (n : ℕ) (es : List CallFrame → List Emission) (st st' : State) : Type 0 where
  pub last : List CallFrame → Config
  pub leads : (frames : List CallFrame) → Leads funcs n (es frames) (at body st [] frames) (last frames)
  pub reduces : (frames : List CallFrame) → reduce funcs (last frames) ≡ give_back st' frames

-- the state in which a function begins: its arguments, the last first, and its further locals at 0
abbrev pub entry : Func → List ℕ → State → State
entry f arguments st = record { values = []; locals = reverse arguments ++ replicate f.locals 0; globals = st.globals; memory = st.memory }

-- the caller's state after a call
abbrev pub given_back : Func → State → State → State
given_back f st st' = record { values = take f.results st'.values ++ st.values; locals = st.locals; globals = st'.globals; memory = st'.memory }

-- the caller as it waits
abbrev pub waiting : Func → State → Place → CallFrame
waiting f st p = record { arity = f.results; rest = p.rest; values = st.values; locals = st.locals; labels = p.labels }

-- a call of the host from a place, with the operand as its number
abbrev pub emission_of : ℕ → State → Place → Emission
emission_of x st p = record { number = cast_signed w32 x; memory = st.memory; after = finish st p }

-- ---- dispatch

-- Nested blocks without results: the first code follows the innermost of them, and so on outward.
abbrev pub nest : List Seq → Seq → Seq
nest [] inner = inner
nest (code ∷ codes) inner = nest codes (InBlock None inner code)

-- the label of such a block, over no operands
abbrev pub open_block : Seq → Label
open_block code = block_label None [] code

-- the labels within such blocks, around which these are open
abbrev pub within : List Seq → List Label → List Label
within [] labels = labels
within (code ∷ codes) labels = open_block code ∷ within codes labels

-- ---- the calls of the host alone

-- a call of the host: its number and the memory of that moment
pub record HostCall : Type 0 where
  pub number : ℤ
  pub memory : List ℕ

-- emissions without the configurations after them
abbrev pub host_calls : List Emission → List HostCall
host_calls [] = []
host_calls (e ∷ es) = record { number = e.number; memory = e.memory } ∷ host_calls es

-- A fact with some emissions that are these calls of the host: the configurations after emissions depend on
-- where the code stands, and their numbers and memories don't.
pub record Tells {X : Type 0} (D : (X → List Emission) → Type 0) (calls : List HostCall) : Type 0 where
  pub es : X → List Emission
  pub does : D es
  pub same_calls : (x : X) → host_calls (es x) ≡ calls

-- `Does`, `Meets` and `Finishes` with the calls of the host alone
abbrev pub DoesTelling : List Func → Seq → ℕ → List HostCall → State → State → Type 0
DoesTelling funcs code n calls st st' = Tells (λ es. Does funcs code n es st st') calls

abbrev pub MeetsTelling : List Func → Seq → ℕ → List HostCall → State → (Place → Step) → Type 0
MeetsTelling funcs code n calls st step = Tells (λ es. Meets funcs code n es st step) calls

abbrev pub FinishesTelling : List Func → Seq → ℕ → List HostCall → State → State → Type 0
FinishesTelling funcs body n calls st st' = Tells (λ es. Finishes funcs body n es st st') calls
