-- What the module that passes its input through does in a frame.
use Rattle.std.proofs.Common.{◌≡◌, ℕ, ◌<◌, ◌≤◌, ◌^◌, ◌%◌, ◌/◌, List, [], ◌∷◌, ◌++◌, length, true, nat_le, refl, sym, ◌∙◌, ap, ℤ, pos, arith, append-nil}
use Rattle.std.specs.Prelude.{FitsSigned, codes}
use Rattle.std.specs.Int.{w32, cast_unsigned, to_le_bytes}
use Rattle.std.proofs.lemmas.Bool.{le-leb}
use Rattle.std.proofs.lemmas.Int.{to_z-of_z}
use Rattle.std.proofs.lemmas.Nat.{from_le_bytes-to_le_bytes_4}
use Rattle.std.proofs.Math.Nat.{mod-eq_of_lt}
use Rattle.cm_base.specs.declared.play.Item.{Item}
use Rattle.cm_base.specs.declared.play.Item.TheVariants as item
use Rattle.cm_number.proofs.Public.{to_signed_fits, cast_unsigned-lt}
use Rattle.cm_base.specs.Parts.{Inputs}
use Rattle.cm_tree.specs.declared.file.File.{File}
use Rattle.cm_meaning.specs.Stores.{Store}
use Rattle.cm_meaning.specs.World.{World, Sources, Todo}
use Rattle.wasm_tree.specs.declared.instr.Instr.TheVariants as instr
use Rattle.wasm_tree.specs.declared.op.LoadOp.TheVariants as load
use Rattle.wasm_tree.specs.declared.op.StoreOp.TheVariants as store
use Rattle.wasm_tree.specs.HostRun.{frame_told}
use Rattle.wasm_tree.specs.Instance.{call_of, funcs_of}
use Rattle.wasm_tree.specs.Meaning.{loaded, stored}
use Rattle.wasm_tree.specs.Reduce.{Nil, Plain, at, pieces, plain, act}
use Rattle.wasm_tree.specs.Slots.{outputs_at, write_inputs}
use Rattle.wasm_steps.proofs.Compose.{one, andthen}
use Rattle.wasm_runs.specs.Calling.{CallEnds, CallReturns}
use Rattle.module_build.specs.Through.{through_module, through_slots, word_at}
use Rattle.through_meaning.specs.Parts.{Parts}
use Rattle.through_meaning.proofs.Steps.{frame_inputs, world_with}
use Rattle.module_build.proofs.Source.{IsReady}

-- the current values of the two endpoints, which are never set
abbrev pub no_current : List (List ℤ)
no_current = (pos 0 ∷ []) ∷ (pos 0 ∷ []) ∷ []

-- between two calls: the leaf is at its loop, and the memory has both slots
pub record Kept (files : List File) (parts : Parts) (input output : List ℕ) (world : World) (current : List (List ℤ)) (globals memory : List ℕ) : Type 0 where
  pub rest : List Todo
  pub store : Store
  pub ready : IsReady files parts input output rest store
  pub inputs : List (List ℤ)
  pub streams : Inputs
  pub history : List Sources
  pub frame : ℕ
  pub is : world ≡ world_with rest store inputs world.current streams history frame world.trace
  pub room : 8 ≤ length memory
  pub no_globals : globals ≡ []
  pub still : current ≡ no_current

-- a memory of eight bytes and more
pub record Eight (memory : List ℕ) : Type 0 where
  pub b0 : ℕ
  pub b1 : ℕ
  pub b2 : ℕ
  pub b3 : ℕ
  pub b4 : ℕ
  pub b5 : ℕ
  pub b6 : ℕ
  pub b7 : ℕ
  pub rest : List ℕ
  pub is : memory ≡ b0 ∷ b1 ∷ b2 ∷ b3 ∷ b4 ∷ b5 ∷ b6 ∷ b7 ∷ rest

pub eight : (memory : List ℕ) → 8 ≤ length memory → Eight memory
eight [] h = absurd (omega arith)
eight (a ∷ []) h = absurd (omega arith)
eight (a ∷ b ∷ []) h = absurd (omega arith)
eight (a ∷ b ∷ c ∷ []) h = absurd (omega arith)
eight (a ∷ b ∷ c ∷ d ∷ []) h = absurd (omega arith)
eight (a ∷ b ∷ c ∷ d ∷ e ∷ []) h = absurd (omega arith)
eight (a ∷ b ∷ c ∷ d ∷ e ∷ f ∷ []) h = absurd (omega arith)
eight (a ∷ b ∷ c ∷ d ∷ e ∷ f ∷ g ∷ []) h = absurd (omega arith)
eight (a ∷ b ∷ c ∷ d ∷ e ∷ f ∷ g ∷ i ∷ rest) h =
    record { b0 = a; b1 = b; b2 = c; b3 = d; b4 = e; b5 = f; b6 = g; b7 = i; rest = rest; is = refl }

-- eight bytes and more have room for four, and for four after the first four
long : (n : ℕ) (a b c d e f g h : ℕ) (rest : List ℕ) → n ≤ 8 → nat_le n (length (a ∷ b ∷ c ∷ d ∷ e ∷ f ∷ g ∷ h ∷ rest)) ≡ true
long n a b c d e f g h rest few = le-leb _ _ (omega arith)

-- the memory after a frame
abbrev after_frame : ℤ → List ℕ → List ℕ
after_frame v rest = let bytes = to_le_bytes w32 (cast_unsigned w32 v) in bytes ++ (stored store.I32 (loaded load.I32 bytes) ++ rest)

-- the outputs after a frame
outputs_are : (input output : List ℕ) (v : ℤ) (rest : List ℕ) → FitsSigned w32 v → outputs_at (through_slots input output) 0 (after_frame v rest) ≡ v ∷ []
outputs_are input output v rest fits =
    let u = cast_unsigned w32 v in
    let below : u < 2 ^ 32 = cast_unsigned-lt w32 v fits in
    let read = from_le_bytes-to_le_bytes_4 u below in
    let same : u % 2 ^ 32 ≡ u = mod-eq_of_lt below in
    let back = to_z-of_z w32 v fits in
    rw read (rw same (rw read (rw back (rw (to_signed_fits w32 v fits) refl))))

-- a call of `frame` returns after three reductions
pub frame_returns : (files : List File) (parts : Parts) (described input output : List ℕ) (v : ℤ) (frame most : ℕ) (globals : List ℕ) (b0 b1 b2 b3 b4 b5 b6 b7 : ℕ) (rest : List ℕ) (current : List (List ℤ)) (trace : List Item) (world : World) → FitsSigned w32 v → 2 < most →
    world.trace ≡ trace ++ item.Frame frame (v ∷ []) ∷ [] → ((memory : List ℕ) → 8 ≤ length memory → Kept files parts input output world current globals memory) →
    CallEnds (funcs_of (through_module described)) (through_slots input output) frame most
    (call_of (through_module described) (codes "frame") [] globals (write_inputs (through_slots input output) (frame_inputs v) current (b0 ∷ b1 ∷ b2 ∷ b3 ∷ b4 ∷ b5 ∷ b6 ∷ b7 ∷ rest)))
    trace (CallReturns (Kept files parts input output) (λ w. w.trace) current (frame_told (through_slots input output) 0 frame) world)
unfolding pieces plain act
frame_returns files parts described input output v frame most globals b0 b1 b2 b3 b4 b5 b6 b7 rest current trace world fits few told kept =
    let u = cast_unsigned w32 v in
    let first = long 4 (u % 256) (u / 256 % 256) (u / 65536 % 256) (u / 16777216 % 256) b4 b5 b6 b7 rest (omega arith) in
    let second = long 8 (u % 256) (u / 256 % 256) (u / 65536 % 256) (u / 16777216 % 256) b4 b5 b6 b7 rest (omega arith) in
    let bytes = to_le_bytes w32 u in
    let memory = bytes ++ (b4 ∷ b5 ∷ b6 ∷ b7 ∷ rest) in
    let after = after_frame v rest in
    record {
      count = 2;
      es = [];
      last = at Nil (record { values = []; locals = []; globals = globals; memory = after }) [] [];
      items = [];
      leads = andthen {d = at (Plain (instr.Store store.I32 (word_at 4)) Nil) (record { values = loaded load.I32 bytes ∷ 0 ∷ []; locals = []; globals = globals; memory = memory }) [] []} (one (rw first refl)) (one {d = at Nil (record { values = []; locals = []; globals = globals; memory = after }) [] []} (rw second refl));
      few = few;
      heard = refl;
      after = record {
        globals = globals;
        memory = after;
        is = refl;
        tells = told ∙ (ap (λ t. t ++ item.Frame frame (v ∷ []) ∷ []) (sym (append-nil trace)) ∙ ap (λ outputs. (trace ++ []) ++ item.Frame frame outputs ∷ []) (sym (outputs_are input output v rest fits)));
        kept = kept after (omega arith);
      };
    }
