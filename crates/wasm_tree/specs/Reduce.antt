-- How instructions reduce: Core Specification 1.0, 4.4, "Instructions". A value stands as its bits; its
-- type is that of the instruction that takes it, as validation shows. The count is this project's own:
-- each executed instruction other than a constant is one reduction, and so is each end that is reached of
-- a block, loop, arm or function.
use Rattle.std.specs.Prelude.{ℕ, zero, suc, ◌+◌, ◌/◌, ◌==◌, nat_le, nat_lt, List, [], ◌∷◌, ◌++◌, length, take, drop, reverse, replicate, slice_get, slice_set, Bool, true, false, if◌then◌else◌, Option, Some, None, unwrap_or, ℤ}
use Rattle.std.specs.Int.{w32, w64, cast_signed, cast_unsigned}
use Rattle.wasm_tree.specs.declared.module.ValType.{ValType}
use Rattle.wasm_tree.specs.declared.instr.Instr.{Instr}
use Rattle.wasm_tree.specs.declared.instr.Instr.TheVariants as instr
use Rattle.wasm_tree.specs.Meaning.{width, test_of, compare_of, unary_of, binary_of, convert_of, loaded, load_size, stored, store_size}

-- ---- structured code (2.4.5)

-- instructions one after another, with the sequences that stand inside them
pub data Seq : Type 0 where
  Nil : Seq
  Plain : (instruction : Instr) → (rest : Seq) → Seq
  InBlock : (result : Option ValType) → (body rest : Seq) → Seq
  InLoop : (result : Option ValType) → (body rest : Seq) → Seq
  InIf : (result : Option ValType) → (first second rest : Seq) → Seq

-- the rest of a sequence, up to the `End` or, where the mark is true, the `Else` that ends it
pub record Piece : Type 0 where
  pub arm : Bool
  pub rest : Seq

abbrev pub onto : (Seq → Seq) → List Piece → List Piece
onto f [] = []
onto f (piece ∷ pieces) = record { arm = piece.arm; rest = f piece.rest } ∷ pieces

-- a block or a loop: its body is ended by an `End`
abbrev pub closing : (Seq → Seq → Seq) → List Piece → List Piece
closing f [] = []
closing f (body ∷ pieces) = if body.arm then [] else onto (f body.rest) pieces

-- an `if`: its first arm is ended by an `Else` and then the second by an `End`, or the first by an `End`
abbrev pub closing_if : (Seq → Seq → Seq → Seq) → List Piece → List Piece
closing_if f [] = []
closing_if f (first ∷ pieces) = if first.arm then closing (f first.rest) pieces else onto (f first.rest Nil) pieces

abbrev pub start_piece : Bool → List Piece → List Piece
start_piece arm pieces = record { arm = arm; rest = Nil } ∷ pieces

-- the pieces of code: those of its sequences that are open where it begins, innermost first
unfoldable pub pieces : List Instr → List Piece
pieces [] = []
pieces (instr.Block result ∷ code) = closing (InBlock result) (pieces code)
pieces (instr.Loop result ∷ code) = closing (InLoop result) (pieces code)
pieces (instr.If result ∷ code) = closing_if (InIf result) (pieces code)
pieces (instr.Else ∷ code) = start_piece true (pieces code)
pieces (instr.End ∷ code) = start_piece false (pieces code)
pieces (i ∷ code) = onto (Plain i) (pieces code)

-- code with its own `End` as a tree, and nothing for code whose sequences aren't closed
abbrev pub whole_piece : List Piece → Seq
whole_piece [] = Nil
whole_piece (piece ∷ pieces) = piece.rest

abbrev pub tree_of : List Instr → Seq
tree_of code = whole_piece (pieces code)

-- ---- the machine (4.2)

-- a function that isn't imported: how many parameters, results and further locals it has, and its body
pub record Func : Type 0 where
  pub params : ℕ
  pub results : ℕ
  pub locals : ℕ
  pub body : Seq

-- what instructions read and change: the operands of the innermost open block, last first, the locals of
-- the function that runs, the globals, and the memory's bytes
pub record State : Type 0 where
  pub values : List ℕ
  pub locals : List ℕ
  pub globals : List ℕ
  pub memory : List ℕ

-- an open block, loop or arm: how many values a branch to it takes along and where it leads, the operands
-- below it, and what follows its end
pub record Label : Type 0 where
  pub arity : ℕ
  pub target : Seq
  pub below : List ℕ
  pub rest : Seq

-- a caller that waits: how many values the called function gives back, and where the caller goes on
pub record CallFrame : Type 0 where
  pub arity : ℕ
  pub rest : Seq
  pub values : List ℕ
  pub locals : List ℕ
  pub labels : List Label

-- where a run stands
pub record Config : Type 0 where
  pub code : Seq
  pub state : State
  pub labels : List Label
  pub frames : List CallFrame

-- what one reduction does: it goes on, calls the host with a number, ends the call, or traps. Code that
-- isn't valid can get stuck
pub data Step : Type 0 where
  To : (next : Config) → Step
  Asks : (number : ℤ) → (memory : List ℕ) → (next : Config) → Step
  Ends : (globals memory : List ℕ) → Step
  Traps : Step
  Sticks : Step

abbrev pub at : Seq → State → List Label → List CallFrame → Config
at code state labels frames = record { code = code; state = state; labels = labels; frames = frames }

abbrev pub with_values : State → List ℕ → State
with_values st values = record st { values = values }

abbrev pub push : ℕ → State → State
push v st = record st { values = v ∷ st.values }

-- the last operand, and those below it
abbrev pub on_top : List ℕ → (ℕ → List ℕ → Step) → Step
on_top [] go = Sticks
on_top (x ∷ xs) go = go x xs

-- the last two operands in the order in which they were pushed
abbrev pub on_two : List ℕ → (ℕ → ℕ → List ℕ → Step) → Step
on_two values go = on_top values (λ y ys. on_top ys (λ x xs. go x y xs))

abbrev pub if_there : {A : Type 0} → Option A → Step → (A → Step) → Step
if_there None other go = other
if_there (Some x) other go = go x

-- how many values a block gives
abbrev pub arity_of : Option ValType → ℕ
arity_of None = 0
arity_of (Some type) = 1

-- ---- control (4.4.5, 4.4.6, 4.4.7)

-- enters a sequence under a new label
abbrev pub enter : ℕ → Seq → Seq → Seq → State → List ℕ → List Label → List CallFrame → Step
enter arity target body rest st below labels frames =
    To (at body (with_values st []) (record { arity = arity; target = target; below = below; rest = rest } ∷ labels) frames)

-- the end of a function, or a `return`: its results go to the caller, or the call from outside ends
abbrev pub give_back : State → List CallFrame → Step
give_back st [] = Ends st.globals st.memory
give_back st (frame ∷ frames) =
    To (at frame.rest (record { values = take frame.arity st.values ++ frame.values; locals = frame.locals; globals = st.globals; memory = st.memory }) frame.labels frames)

-- the end of a sequence
abbrev pub leave : State → List Label → List CallFrame → Step
leave st [] frames = give_back st frames
leave st (label ∷ labels) frames = To (at label.rest (with_values st (st.values ++ label.below)) labels frames)

-- a branch to the label of this number, the innermost being 0; past the last one it leads to the function's end
abbrev pub branch : ℕ → State → List Label → List CallFrame → Step
branch n st [] frames = To (at Nil st [] frames)
branch zero st (label ∷ labels) frames = To (at label.target (with_values st (take label.arity st.values ++ label.below)) labels frames)
branch (suc n) st (label ∷ labels) frames = branch n st labels frames

-- a call: the parameters are the last operands, and the further locals are 0
abbrev pub enter_function : Func → Seq → State → List Label → List CallFrame → Step
enter_function f rest st labels frames =
    if nat_lt (length st.values) f.params then Sticks
    else To (at f.body
    (record { values = []; locals = reverse (take f.params st.values) ++ replicate f.locals 0; globals = st.globals; memory = st.memory })
    []
    (record { arity = f.results; rest = rest; values = drop f.params st.values; locals = st.locals; labels = labels } ∷ frames))

-- function 0 is the imported `emit`, and the module's own follow
abbrev pub call : List Func → ℕ → Seq → State → List Label → List CallFrame → Step
call funcs zero rest st labels frames =
    on_top st.values (λ x xs. Asks (cast_signed w32 x) st.memory (at rest (with_values st xs) labels frames))
call funcs (suc n) rest st labels frames = if_there (slice_get funcs n) Sticks (λ f. enter_function f rest st labels frames)

-- ---- memory (4.4.4)

-- how many bytes a page of memory has (4.2.8)
abbrev pub page_size : ℕ
page_size = 65536

abbrev pub load_at : List ℕ → ℕ → ℕ → (List ℕ → Step) → Step
load_at memory address size go = if nat_le (address + size) (length memory) then go (take size (drop address memory)) else Traps

-- the memory with these bytes from the address on
abbrev pub write_bytes : List ℕ → ℕ → List ℕ → List ℕ
write_bytes memory address bytes = take address memory ++ (bytes ++ drop (address + length bytes) memory)

abbrev pub store_at : List ℕ → ℕ → ℕ → List ℕ → (List ℕ → Step) → Step
store_at memory address size bytes go = if nat_le (address + size) (length memory) then go (write_bytes memory address bytes) else Traps

-- ---- instructions

-- One instruction other than a block, loop or `if`, with the sequence that follows it. A constant is a
-- value already, so what follows it reduces with it: `next` does that.
unfoldable pub plain : List Func → (State → Step) → Instr → Seq → State → List Label → List CallFrame → Step
plain funcs next instr.Unreachable s st ls fs = Traps
plain funcs next instr.Nop s st ls fs = To (at s st ls fs)
plain funcs next (instr.Br label) s st ls fs = branch label st ls fs
plain funcs next (instr.BrIf label) s st ls fs =
    on_top st.values (λ x xs. if x == 0 then To (at s (with_values st xs) ls fs) else branch label (with_values st xs) ls fs)
plain funcs next (instr.BrTable table) s st ls fs =
    on_top st.values (λ x xs. branch (unwrap_or (slice_get table.labels x) table.other) (with_values st xs) ls fs)
plain funcs next instr.Return s st ls fs = give_back st fs
plain funcs next (instr.Call function) s st ls fs = call funcs function s st ls fs
plain funcs next instr.Drop s st ls fs = on_top st.values (λ x xs. To (at s (with_values st xs) ls fs))
plain funcs next instr.Select s st ls fs =
    on_top st.values (λ c xs. on_two xs (λ x y ys. To (at s (with_values st ((if c == 0 then y else x) ∷ ys)) ls fs)))
plain funcs next (instr.LocalGet local) s st ls fs =
    if_there (slice_get st.locals local) Sticks (λ x. To (at s (push x st) ls fs))
plain funcs next (instr.LocalSet local) s st ls fs =
    on_top st.values (λ x xs. if nat_lt local (length st.locals) then To (at s (record st { values = xs; locals = slice_set st.locals local x }) ls fs) else Sticks)
plain funcs next (instr.LocalTee local) s st ls fs =
    on_top st.values (λ x xs. if nat_lt local (length st.locals) then To (at s (record st { locals = slice_set st.locals local x }) ls fs) else Sticks)
plain funcs next (instr.GlobalGet global) s st ls fs =
    if_there (slice_get st.globals global) Sticks (λ x. To (at s (push x st) ls fs))
plain funcs next (instr.GlobalSet global) s st ls fs =
    on_top st.values (λ x xs. if nat_lt global (length st.globals) then To (at s (record st { values = xs; globals = slice_set st.globals global x }) ls fs) else Sticks)
plain funcs next (instr.Load op place) s st ls fs =
    on_top st.values (λ x xs. load_at st.memory (x + place.offset) (load_size op) (λ bytes. To (at s (with_values st (loaded op bytes ∷ xs)) ls fs)))
plain funcs next (instr.Store op place) s st ls fs =
    on_two st.values (λ x y xs. store_at st.memory (x + place.offset) (store_size op) (stored op y) (λ memory. To (at s (record st { values = xs; memory = memory }) ls fs)))
plain funcs next instr.MemorySize s st ls fs = To (at s (push (length st.memory / page_size) st) ls fs)
plain funcs next (instr.I32Const value) s st ls fs = next (push (cast_unsigned w32 value) st)
plain funcs next (instr.I64Const value) s st ls fs = next (push (cast_unsigned w64 value) st)
plain funcs next (instr.Test type) s st ls fs = on_top st.values (λ x xs. To (at s (with_values st (test_of x ∷ xs)) ls fs))
plain funcs next (instr.Compare type op) s st ls fs =
    on_two st.values (λ x y xs. To (at s (with_values st (compare_of (width type) op x y ∷ xs)) ls fs))
plain funcs next (instr.Unary type op) s st ls fs =
    on_top st.values (λ x xs. To (at s (with_values st (unary_of (width type) op x ∷ xs)) ls fs))
plain funcs next (instr.Binary type op) s st ls fs =
    on_two st.values (λ x y xs. if_there (binary_of (width type) op x y) Traps (λ z. To (at s (with_values st (z ∷ xs)) ls fs)))
plain funcs next (instr.Convert op) s st ls fs = on_top st.values (λ x xs. To (at s (with_values st (convert_of op x ∷ xs)) ls fs))
plain funcs next (instr.Block result) s st ls fs = Sticks
plain funcs next (instr.Loop result) s st ls fs = Sticks
plain funcs next (instr.If result) s st ls fs = Sticks
plain funcs next instr.Else s st ls fs = Sticks
plain funcs next instr.End s st ls fs = Sticks

-- one reduction. A loop's label leads to the loop again and takes nothing along
unfoldable pub act : List Func → Seq → State → List Label → List CallFrame → Step
act funcs Nil st ls fs = leave st ls fs
act funcs (Plain i s) st ls fs = plain funcs (λ next. act funcs s next ls fs) i s st ls fs
act funcs (InBlock result body s) st ls fs = enter (arity_of result) s body s st st.values ls fs
act funcs (InLoop result body s) st ls fs = enter 0 (InLoop result body s) body s st st.values ls fs
act funcs (InIf result first second s) st ls fs =
    on_top st.values (λ x xs. if x == 0 then enter (arity_of result) s second s st xs ls fs else enter (arity_of result) s first s st xs ls fs)

-- ---- runs (4.5.5)

-- A call as its host meets it: it ends, traps, needs more reductions or is stuck, and before that it may
-- call the host, with a number and the memory of that moment; then the run goes on from `next`.
pub data Run : Type 0 where
  Done : (globals memory : List ℕ) → Run
  Trapped : Run
  Out : Run
  Stuck : Run
  Emits : (number : ℤ) → (memory : List ℕ) → (next : Config) → (rest : Run) → Run

abbrev pub follow : Step → (Config → Run) → Run
follow (To next) go = go next
follow (Asks number memory next) go = Emits number memory next (go next)
follow (Ends globals memory) go = Done globals memory
follow Traps go = Trapped
follow Sticks go = Stuck

-- at most this many reductions
unfoldable pub exec : List Func → ℕ → Config → Run
exec funcs zero c = Out
exec funcs (suc k) c = follow (act funcs c.code c.state c.labels c.frames) (exec funcs k)
