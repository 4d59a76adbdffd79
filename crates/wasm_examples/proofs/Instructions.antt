-- Instructions and modules as bytes.
use Rattle.std.proofs.Common.{ℕ, ◌≤◌, List, [], ◌∷◌, ◌++◌, length, ◌≡◌, Bool, false, None, ap, refl, inl, inr, arith, lit<, lit≤}
use Rattle.std.specs.Prelude.{Some, nat_le, if◌then◌else◌}
use Rattle.wasm_tree.specs.declared.instr.Instr.{Instr}
use Rattle.wasm_tree.specs.declared.instr.Instr.TheVariants as instr
use Rattle.wasm_tree.specs.declared.op.LoadOp.TheVariants as load
use Rattle.wasm_tree.specs.Control.{after_instruction, most_open, IsClosed}
use Rattle.wasm_tree.specs.Spelled.{Joined, Begins, Instruction, Body, Spelled, header}
use Rattle.wasm_tree.specs.declared.module.Module.{Module}
use Rattle.wasm_examples.specs.Bytes.{nested_code, stray_else, second_else, empty_module, type_module, type_bytes, version_two, next_body, body_with}

pub joined : {P Q : List ℕ → Type 0} (front back : List ℕ) → P front → Q back → Joined P Q (front ++ back)
joined front back p q = record { front = front; back = back; whole = refl; first = p; second = q }

pub begins : {Q : List ℕ → Type 0} (byte : ℕ) (rest : List ℕ) → Q rest → Begins byte Q (byte ∷ rest)
begins byte rest q = record { front = byte ∷ []; back = rest; whole = refl; first = refl; second = q }

-- the opcode, the alignment and the offset
pub load_spelled : Instruction (instr.Load load.I32 (record { align = 2; offset = 4 })) (0x28 ∷ 0x02 ∷ 0x04 ∷ [])
load_spelled = begins 0x28 (0x02 ∷ 0x04 ∷ []) (joined (0x02 ∷ []) (0x04 ∷ []) (lit< tt, lit< tt, refl) (lit< tt, lit< tt, refl))

-- the size, the runs of locals with their count, and the instructions
pub body_spelled : Body next_body (0x09 ∷ 0x01 ∷ 0x02 ∷ 0x7E ∷ 0x20 ∷ 0x00 ∷ 0x41 ∷ 0x01 ∷ 0x6A ∷ 0x0B ∷ [])
body_spelled = (
  0x01 ∷ 0x02 ∷ 0x7E ∷ 0x20 ∷ 0x00 ∷ 0x41 ∷ 0x01 ∷ 0x6A ∷ 0x0B ∷ [],
  joined (0x09 ∷ []) (0x01 ∷ 0x02 ∷ 0x7E ∷ 0x20 ∷ 0x00 ∷ 0x41 ∷ 0x01 ∷ 0x6A ∷ 0x0B ∷ []) (lit< tt, lit< tt, refl) refl,
  joined (0x01 ∷ 0x02 ∷ 0x7E ∷ []) (0x20 ∷ 0x00 ∷ 0x41 ∷ 0x01 ∷ 0x6A ∷ 0x0B ∷ [])
      (record {
        spelled =
            joined (0x01 ∷ []) (0x02 ∷ 0x7E ∷ []) (lit< tt, lit< tt, refl)
            (joined (0x02 ∷ 0x7E ∷ []) [] (joined (0x02 ∷ []) (0x7E ∷ []) (lit< tt, lit< tt, refl) refl) refl);
        few = lit≤ tt;
      })
      (record {
        spelled =
            joined (0x20 ∷ 0x00 ∷ []) (0x41 ∷ 0x01 ∷ 0x6A ∷ 0x0B ∷ []) (begins 0x20 (0x00 ∷ []) (lit< tt, lit< tt, refl))
            (joined (0x41 ∷ 0x01 ∷ []) (0x6A ∷ 0x0B ∷ []) (begins 0x41 (0x01 ∷ []) (inl (lit< tt, lit< tt, refl)))
            (joined (0x6A ∷ []) (0x0B ∷ []) (begins 0x6A [] refl) (joined (0x0B ∷ []) [] (begins 0x0B [] refl) refl)));
        closed = refl;
      }),
)

-- each sequence is ended, and the function's own end comes last
pub nested_closed : IsClosed nested_code
nested_closed = refl

-- a block has no second arm
pub stray_open : IsClosed stray_else → ⊥
stray_open h = cc

-- an `if` has no third arm
pub second_open : IsClosed second_else → ⊥
second_open h = cc

-- the 4,096th sequence besides the function's own is opened
pub deep_opened : (arms : List Bool) → length arms ≡ 4096 → after_instruction arms (instr.Loop None) ≡ Some (false ∷ arms)
deep_opened [] e = absurd (omega arith)
deep_opened (arm ∷ arms) e = ap (λ (n : ℕ). if nat_le n most_open then Some (false ∷ arm ∷ arms) else None) e

-- and no further one inside it
pub too_deep_refused : (arms : List Bool) → length arms ≡ 4097 → after_instruction arms (instr.Loop None) ≡ None
too_deep_refused [] e = absurd (omega arith)
too_deep_refused (arm ∷ arms) e = ap (λ (n : ℕ). if nat_le n most_open then Some (false ∷ arm ∷ arms) else None) e

-- 65,536 locals and one more
pub no_body : (code : List Instr) (bytes : List ℕ) → Body (body_with 65536 1 code) bytes → ⊥
no_body code bytes h =
    let few : 65537 ≤ 65536 = h.2.first.few in
    omega arith

-- the header alone is a module with no section
pub empty_spelled : Spelled header empty_module
empty_spelled = record {
  raws = [];
  found = [];
  whole = record { front = header; back = []; whole = refl; first = refl; second = refl };
  order = tt;
  types = refl;
  imports = refl;
  functions = refl;
  memory = refl;
  globals = refl;
  exports = refl;
  codes = refl;
  segments = refl;
  customs = refl;
  sorted = refl;
  bodies = refl;
}

-- one section, whose id is 1 and whose contents are four bytes
pub type_spelled : Spelled type_bytes type_module
type_spelled = record {
  raws = record { id = 1; contents = 0x01 ∷ 0x60 ∷ 0x00 ∷ 0x00 ∷ [] } ∷ [];
  found = [];
  whole =
      joined header (0x01 ∷ 0x04 ∷ 0x01 ∷ 0x60 ∷ 0x00 ∷ 0x00 ∷ []) refl
      (joined (0x01 ∷ 0x04 ∷ 0x01 ∷ 0x60 ∷ 0x00 ∷ 0x00 ∷ []) []
      (begins 0x01 (0x04 ∷ 0x01 ∷ 0x60 ∷ 0x00 ∷ 0x00 ∷ [])
      (joined (0x04 ∷ []) (0x01 ∷ 0x60 ∷ 0x00 ∷ 0x00 ∷ []) (lit< tt, lit< tt, refl) refl))
      refl);
  order = inr (lit< tt, (0, lit< tt, refl), tt);
  types =
      joined (0x01 ∷ []) (0x60 ∷ 0x00 ∷ 0x00 ∷ []) (lit< tt, lit< tt, refl)
      (joined (0x60 ∷ 0x00 ∷ 0x00 ∷ []) []
      (begins 0x60 (0x00 ∷ 0x00 ∷ [])
      (joined (0x00 ∷ []) (0x00 ∷ []) (joined (0x00 ∷ []) [] (lit< tt, lit< tt, refl) refl) (joined (0x00 ∷ []) [] (lit< tt, lit< tt, refl) refl)))
      refl);
  imports = refl;
  functions = refl;
  memory = refl;
  globals = refl;
  exports = refl;
  codes = refl;
  segments = refl;
  customs = (lit< tt, refl);
  sorted = refl;
  bodies = refl;
}

-- the fifth byte is the version
pub no_version_two : (m : Module) → Spelled version_two m → ⊥
no_version_two m s =
    let e : s.whole.front ≡ header = s.whole.first in
    let w = s.whole.whole in
    cc (rw e at w)
