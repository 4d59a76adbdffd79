-- The code is straight and typed.
use Rattle.std.proofs.Common.{ℕ, zero, suc, ◌*◌, ◌^◌, ◌≤◌, Bool, true, false, List, [], ◌∷◌, refl, arith}
use Rattle.wasm_tree.specs.declared.module.ValType.{ValType}
use Rattle.wasm_tree.specs.declared.module.ValType.TheVariants.{I32, I64}
use Rattle.wasm_tree.specs.declared.instr.Instr.{Instr}
use Rattle.wasm_tree.specs.Typed.{Context, Takes, Applies}
use Rattle.wasm_tree.specs.Meaning.{load_size, load_type, store_size, store_type}
use Rattle.straight_code.specs.Straight.{AreStraight, IsStraight, IsTypedIn}
use Rattle.straight_code.proofs.Straight.{all_append}
use Rattle.straight_code.proofs.Typing.{takes, typed_append}
use Rattle.memory_code.specs.declared.address.Address.{Address}
use Rattle.memory_code.specs.declared.address.Address.TheVariants as a
use Rattle.memory_code.specs.Parts.{is_wide, load_of, store_of, part_size, part_type, parts_in, parts}
use Rattle.memory_code.specs.Copies.{base_code, copy_part, copy_code, zero_number, zero_part, zero_code, HasType}

straight_parts : (part : ℕ → List Instr) (size : ℕ) → ((at : ℕ) → AreStraight (part at)) → (n : ℕ) → AreStraight (parts part size n)
straight_parts part size h zero = tt
straight_parts part size h (suc n) = all_append IsStraight (parts part size n) (part (n * size)) (straight_parts part size h n) (h (n * size))

straight_base : (address : Address) → IsStraight (base_code address)
straight_base (a.Behind local offset) = tt
straight_base (a.Fixed address) = tt

straight_number : (wide : Bool) → IsStraight (zero_number (part_type wide))
straight_number true = tt
straight_number false = tt

pub copy_straight : (to from : Address) (width : ℕ) → AreStraight (copy_code to from width)
copy_straight to from width = straight_parts (copy_part to from width) (part_size (is_wide width)) (λ at. (straight_base to, (straight_base from, (tt, (tt, tt))))) (parts_in width)

pub zero_straight : (to : Address) (width : ℕ) → AreStraight (zero_code to width)
zero_straight to width = straight_parts (zero_part to width) (part_size (is_wide width)) (λ at. (straight_base to, (straight_number (is_wide width), (tt, tt)))) (parts_in width)

typed_parts : (c : Context) (part : ℕ → List Instr) (size : ℕ) → ((at : ℕ) → IsTypedIn c (part at) [] []) → (n : ℕ) → IsTypedIn c (parts part size n) [] []
typed_parts c part size h zero labels below = refl
typed_parts c part size h (suc n) labels below = typed_append c labels (parts part size n) (part (n * size)) below below below (typed_parts c part size h n labels below) (h (n * size) labels below)

base_applies : (c : Context) (address : Address) → HasType address c → (labels : List (List ValType)) (below : List ValType) → Applies c labels (base_code address) below (I32 ∷ below)
base_applies c (a.Behind local offset) h labels below = (I32, h, takes [] (I32 ∷ []) below)
base_applies c (a.Fixed address) h labels below = takes [] (I32 ∷ []) below

word : 1 ≤ 4
word = omega arith

long : 1 ≤ 8
long = omega arith

load_applies : (c : Context) (wide : Bool) (labels : List (List ValType)) (below : List ValType) → (2 ^ 0 ≤ load_size (load_of wide)) × Takes (I32 ∷ []) (load_type (load_of wide) ∷ []) (I32 ∷ below) (part_type wide ∷ below)
load_applies c true labels below = (long, takes (I32 ∷ []) (I64 ∷ []) below)
load_applies c false labels below = (word, takes (I32 ∷ []) (I32 ∷ []) below)

store_applies : (c : Context) (wide : Bool) (labels : List (List ValType)) (below : List ValType) → (2 ^ 0 ≤ store_size (store_of wide)) × Takes (store_type (store_of wide) ∷ I32 ∷ []) [] (part_type wide ∷ I32 ∷ below) below
store_applies c true labels below = (long, takes (I64 ∷ I32 ∷ []) [] below)
store_applies c false labels below = (word, takes (I32 ∷ I32 ∷ []) [] below)

number_applies : (c : Context) (wide : Bool) (labels : List (List ValType)) (below : List ValType) → Applies c labels (zero_number (part_type wide)) below (part_type wide ∷ below)
number_applies c true labels below = takes [] (I64 ∷ []) below
number_applies c false labels below = takes [] (I32 ∷ []) below

pub copy_typed : (c : Context) (to from : Address) (width : ℕ) → HasType to c → HasType from c → IsTypedIn c (copy_code to from width) [] []
copy_typed c to from width h k =
    typed_parts c (copy_part to from width) (part_size (is_wide width))
    (λ at labels below. (I32 ∷ below, base_applies c to h labels below, (I32 ∷ I32 ∷ below, base_applies c from k labels (I32 ∷ below), (part_type (is_wide width) ∷ I32 ∷ below, load_applies c (is_wide width) labels (I32 ∷ below), (below, store_applies c (is_wide width) labels below, refl)))))
    (parts_in width)

pub zero_typed : (c : Context) (to : Address) (width : ℕ) → HasType to c → IsTypedIn c (zero_code to width) [] []
zero_typed c to width h =
    typed_parts c (zero_part to width) (part_size (is_wide width))
    (λ at labels below. (I32 ∷ below, base_applies c to h labels below, (part_type (is_wide width) ∷ I32 ∷ below, number_applies c (is_wide width) labels (I32 ∷ below), (below, store_applies c (is_wide width) labels below, refl))))
    (parts_in width)
