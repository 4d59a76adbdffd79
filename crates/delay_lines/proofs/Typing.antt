-- The code of rings is typed, straight, and names no local.
use Rattle.std.proofs.Common.{ℕ, zero, suc, ◌+◌, ◌*◌, ◌≤◌, Bool, true, false, ℤ, pos, List, [], ◌∷◌, refl, arith}
use Rattle.wasm_tree.specs.declared.module.ValType.{ValType}
use Rattle.wasm_tree.specs.declared.module.ValType.TheVariants.{I32, I64}
use Rattle.std.specs.List.{AllByRecursion}
use Rattle.wasm_tree.specs.declared.op.LoadOp.{LoadOp}
use Rattle.wasm_tree.specs.declared.op.StoreOp.{StoreOp}
use Rattle.wasm_tree.specs.declared.op.CompareOp.{CompareOp}
use Rattle.wasm_tree.specs.declared.op.BinaryOp.{BinaryOp}
use Rattle.wasm_tree.specs.declared.instr.MemArg.{MemArg}
use Rattle.wasm_tree.specs.declared.instr.Instr.{Instr}
use Rattle.wasm_tree.specs.declared.instr.Instr.TheVariants as instr
use Rattle.wasm_tree.specs.Typed.{Context, Typed}
use Rattle.delay_lines.specs.declared.ring.RingPlace.{RingPlace}
use Rattle.straight_code.specs.Straight.{plains, IsStraight, AreStraight, NamesNoLocal, NameNoLocals}
use Rattle.straight_code.proofs.Straight.{all_append}
use Rattle.straight_code.proofs.Typing.{takes, typed_append}
use Rattle.memory_code.specs.Parts.{is_wide, part_size, parts_in, load_of, store_of, parts}
use Rattle.delay_lines.specs.Code.{offset_code, oldest_part, push_part, turn_code, oldest_instrs, push_instrs}
use Rattle.delay_lines.specs.Promises.{IsTyped}

word : 1 ≤ 4
word = omega arith

typed_offset : (ring : RingPlace) (c : Context) (labels : List (List ValType)) (before : List ValType) → Typed c labels (plains (offset_code ring)) before (I32 ∷ before)
typed_offset ring c labels before = (
  I32 ∷ before,
  takes [] (I32 ∷ []) before,
  (
    I32 ∷ before,
    (word, takes (I32 ∷ []) (I32 ∷ []) before),
    (
      I32 ∷ I32 ∷ before,
      takes [] (I32 ∷ []) (I32 ∷ before),
      (I32 ∷ before, takes (I32 ∷ I32 ∷ []) (I32 ∷ []) before, refl),
    ),
  ),
)

-- a part is loaded and stored
abbrev move_code : Bool → ℕ → ℕ → List Instr
move_code wide x y = instr.Load (load_of wide) (record { align = 0; offset = x }) ∷ instr.Store (store_of wide) (record { align = 0; offset = y }) ∷ []

typed_move : (wide : Bool) (x y : ℕ) (c : Context) (labels : List (List ValType)) (before : List ValType) → Typed c labels (plains (move_code wide x y)) (I32 ∷ I32 ∷ before) before
typed_move true x y c labels before =
    let size : 1 ≤ 8 = omega arith in
    (I64 ∷ I32 ∷ before, (size, takes (I32 ∷ []) (I64 ∷ []) (I32 ∷ before)), (before, (size, takes (I64 ∷ I32 ∷ []) [] before), refl))
typed_move false x y c labels before =
    (I32 ∷ I32 ∷ before, (word, takes (I32 ∷ []) (I32 ∷ []) (I32 ∷ before)), (before, (word, takes (I32 ∷ I32 ∷ []) [] before), refl))

typed_oldest : (ring : RingPlace) (to at : ℕ) → IsTyped (oldest_part ring to at)
typed_oldest ring to at c labels before = (
  I32 ∷ before,
  takes [] (I32 ∷ []) before,
  typed_append c labels (offset_code ring) (move_code (is_wide ring.width) (ring.first + at) at) (I32 ∷ before) (I32 ∷ I32 ∷ before) before (typed_offset ring c labels (I32 ∷ before))
      (typed_move (is_wide ring.width) (ring.first + at) at c labels before),
)

typed_push : (ring : RingPlace) (from at : ℕ) → IsTyped (push_part ring from at)
typed_push ring from at c labels before =
    typed_append c labels (offset_code ring) (instr.I32Const (pos from) ∷ move_code (is_wide ring.width) at (ring.first + at)) before (I32 ∷ before) before (typed_offset ring c labels before)
    (I32 ∷ I32 ∷ before, takes [] (I32 ∷ []) (I32 ∷ before), typed_move (is_wide ring.width) at (ring.first + at) c labels before)

typed_parts : (part : ℕ → List Instr) (size : ℕ) → ((at : ℕ) → IsTyped (part at)) → (n : ℕ) → IsTyped (parts part size n)
typed_parts part size h zero c labels before = refl
typed_parts part size h (suc n) c labels before =
    typed_append c labels (parts part size n) (part (n * size)) before before before (typed_parts part size h n c labels before) (h (n * size) c labels before)

typed_turn : (ring : RingPlace) → IsTyped (turn_code ring)
typed_turn ring c labels before = (
  I32 ∷ before,
  takes [] (I32 ∷ []) before,
  (
    I32 ∷ I32 ∷ before,
    takes [] (I32 ∷ []) (I32 ∷ before),
    (
      I32 ∷ I32 ∷ before,
      (word, takes (I32 ∷ []) (I32 ∷ []) (I32 ∷ before)),
      (
        I32 ∷ I32 ∷ I32 ∷ before,
        takes [] (I32 ∷ []) (I32 ∷ I32 ∷ before),
        (
          I32 ∷ I32 ∷ before,
          takes (I32 ∷ I32 ∷ []) (I32 ∷ []) (I32 ∷ before),
          (
            I32 ∷ I32 ∷ I32 ∷ before,
            takes [] (I32 ∷ []) (I32 ∷ I32 ∷ before),
            (
              I32 ∷ I32 ∷ I32 ∷ before,
              (word, takes (I32 ∷ []) (I32 ∷ []) (I32 ∷ I32 ∷ before)),
              (
                I32 ∷ I32 ∷ I32 ∷ I32 ∷ before,
                takes [] (I32 ∷ []) (I32 ∷ I32 ∷ I32 ∷ before),
                (
                  I32 ∷ I32 ∷ I32 ∷ before,
                  takes (I32 ∷ I32 ∷ []) (I32 ∷ []) (I32 ∷ I32 ∷ before),
                  (
                    I32 ∷ I32 ∷ before,
                    takes (I32 ∷ I32 ∷ []) (I32 ∷ []) (I32 ∷ before),
                    (before, (word, takes (I32 ∷ I32 ∷ []) [] before), refl),
                  ),
                ),
              ),
            ),
          ),
        ),
      ),
    ),
  ),
)

abbrev size_in : RingPlace → ℕ
size_in ring = part_size (is_wide ring.width)

pub oldest_typed : (ring : RingPlace) (to : ℕ) → IsTyped (oldest_instrs ring to)
oldest_typed ring to = typed_parts (oldest_part ring to) (size_in ring) (typed_oldest ring to) (parts_in ring.width)

pub push_typed : (ring : RingPlace) (from : ℕ) → IsTyped (push_instrs ring from)
push_typed ring from c labels before =
    typed_append c labels (parts (push_part ring from) (size_in ring) (parts_in ring.width)) (turn_code ring) before before before
    (typed_parts (push_part ring from) (size_in ring) (typed_push ring from) (parts_in ring.width) c labels before) (typed_turn ring c labels before)

-- what holds of the kinds of instructions in the code of rings
record Allows (P : Instr → Type 0) : Type 0 where
  number : (value : ℤ) → P (instr.I32Const value)
  load : (op : LoadOp) (place : MemArg) → P (instr.Load op place)
  store : (op : StoreOp) (place : MemArg) → P (instr.Store op place)
  compare : (type : ValType) (op : CompareOp) → P (instr.Compare type op)
  binary : (type : ValType) (op : BinaryOp) → P (instr.Binary type op)

straight_allows : Allows IsStraight
straight_allows = record { number = λ value. tt; load = λ op place. tt; store = λ op place. tt; compare = λ type op. tt; binary = λ type op. tt }

local_free_allows : Allows NamesNoLocal
local_free_allows = record { number = λ value. tt; load = λ op place. tt; store = λ op place. tt; compare = λ type op. tt; binary = λ type op. tt }

module _ (P : Instr → Type 0) (a : Allows P) where
  all_parts : (part : ℕ → List Instr) (size : ℕ) → ((at : ℕ) → AllByRecursion P (part at)) → (n : ℕ) → AllByRecursion P (parts part size n)
  all_parts part size h zero = tt
  all_parts part size h (suc n) = all_append P (parts part size n) (part (n * size)) (all_parts part size h n) (h (n * size))

  all_oldest_part : (ring : RingPlace) (to at : ℕ) → AllByRecursion P (oldest_part ring to at)
  all_oldest_part ring to at = (a.number _, (a.number _, (a.load _ _, (a.number _, (a.binary _ _, (a.load _ _, (a.store _ _, tt)))))))

  all_push_part : (ring : RingPlace) (from at : ℕ) → AllByRecursion P (push_part ring from at)
  all_push_part ring from at = (a.number _, (a.load _ _, (a.number _, (a.binary _ _, (a.number _, (a.load _ _, (a.store _ _, tt)))))))

  all_turn : (ring : RingPlace) → AllByRecursion P (turn_code ring)
  all_turn ring =
      (a.number _, (a.number _, (a.load _ _, (a.number _, (a.binary _ _, (a.number _, (a.load _ _, (a.number _, (a.compare _ _, (a.binary _ _, (a.store _ _, tt)))))))))))

  all_oldest : (ring : RingPlace) (to : ℕ) → AllByRecursion P (oldest_instrs ring to)
  all_oldest ring to = all_parts (oldest_part ring to) (size_in ring) (all_oldest_part ring to) (parts_in ring.width)

  all_push : (ring : RingPlace) (from : ℕ) → AllByRecursion P (push_instrs ring from)
  all_push ring from =
      all_append P (parts (push_part ring from) (size_in ring) (parts_in ring.width)) (turn_code ring)
      (all_parts (push_part ring from) (size_in ring) (all_push_part ring from) (parts_in ring.width)) (all_turn ring)

pub oldest_straight : (ring : RingPlace) (to : ℕ) → AreStraight (oldest_instrs ring to)
oldest_straight = all_oldest IsStraight straight_allows

pub push_straight : (ring : RingPlace) (from : ℕ) → AreStraight (push_instrs ring from)
push_straight = all_push IsStraight straight_allows

pub oldest_local_free : (ring : RingPlace) (to : ℕ) → NameNoLocals (oldest_instrs ring to)
oldest_local_free = all_oldest NamesNoLocal local_free_allows

pub push_local_free : (ring : RingPlace) (from : ℕ) → NameNoLocals (push_instrs ring from)
push_local_free = all_push NamesNoLocal local_free_allows
