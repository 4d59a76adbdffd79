-- Numbers in memory: what a load finds after a store.
use Rattle.std.proofs.Common.{◌≡◌, ℕ, ◌+◌, ◌%◌, ◌^◌, ◌<◌, ◌≤◌, List, length, refl, sym, ap, ◌∙◌, subst}
use Rattle.std.specs.Int.{Width, w8, w16, w32, w64, w128, to_le_bytes, from_le_bytes, byte_len}
use Rattle.std.proofs.lemmas.Nat.{from_le_bytes-to_le_bytes_2, from_le_bytes-to_le_bytes_4, from_le_bytes-to_le_bytes_8, pow_pos}
use Rattle.std.proofs.Math.Nat.{mod-lt, mod-eq_of_lt}
use mir.Val.{bits}
use Rattle.wasm_tree.specs.declared.op.LoadOp.{LoadOp}
use Rattle.wasm_tree.specs.declared.op.StoreOp.{StoreOp}
use Rattle.wasm_tree.specs.declared.op.StoreOp.TheVariants as store
use Rattle.wasm_tree.specs.Meaning.{loaded, load_size, load_width, extended, stored, store_size, store_width}
use Rattle.wasm_tree.specs.Reduce.{write_bytes}
use Rattle.wasm_steps.specs.Windows.{window, Apart, IsStored}
use Rattle.wasm_steps.proofs.Windows.{window_written, window_apart}

-- a number of 8, 16, 32 or 64 bits from its bytes
pub from_le_bytes-to_le_bytes : (w : Width) (n : ℕ) → IsStored w → n < 2 ^ bits w → from_le_bytes w (to_le_bytes w n) ≡ n
from_le_bytes-to_le_bytes w8 n is h = let small : n < 256 = h in mod-eq_of_lt small
from_le_bytes-to_le_bytes w16 n is h = from_le_bytes-to_le_bytes_2 n h
from_le_bytes-to_le_bytes w32 n is h = from_le_bytes-to_le_bytes_4 n h
from_le_bytes-to_le_bytes w64 n is h = from_le_bytes-to_le_bytes_8 n h
from_le_bytes-to_le_bytes w128 n is h = absurd is

-- it takes so many bytes
pub length-to_le_bytes : (w : Width) (n : ℕ) → IsStored w → length (to_le_bytes w n) ≡ byte_len w
length-to_le_bytes w8 n is = refl
length-to_le_bytes w16 n is = refl
length-to_le_bytes w32 n is = refl
length-to_le_bytes w64 n is = refl
length-to_le_bytes w128 n is = refl

-- every store writes a number of such a width
pub store_width_stored : (op : StoreOp) → IsStored (store_width op)
store_width_stored store.I32 = tt
store_width_stored store.I64 = tt
store_width_stored store.I32Low8 = tt
store_width_stored store.I32Low16 = tt
store_width_stored store.I64Low8 = tt
store_width_stored store.I64Low16 = tt
store_width_stored store.I64Low32 = tt

-- a store writes so many bytes
pub length-stored : (op : StoreOp) (y : ℕ) → length (stored op y) ≡ store_size op
length-stored op y = length-to_le_bytes (store_width op) _ (store_width_stored op)

-- a load finds the low bits that a store of the same width wrote
pub loaded-stored : (op : LoadOp) (by : StoreOp) (y : ℕ) → load_width op ≡ store_width by → loaded op (stored by y) ≡ extended op (y % 2 ^ bits (store_width by))
loaded-stored op by y e =
    ap (λ w. extended op (from_le_bytes w (stored by y))) e
    ∙ ap (extended op) (from_le_bytes-to_le_bytes (store_width by) (y % 2 ^ bits (store_width by)) (store_width_stored by) (mod-lt y (pow_pos (bits (store_width by)))))

-- the same of a number that fits
pub loaded-stored_fits : (op : LoadOp) (by : StoreOp) (y : ℕ) → load_width op ≡ store_width by → y < 2 ^ bits (store_width by) → loaded op (stored by y) ≡ extended op y
loaded-stored_fits op by y e fits = loaded-stored op by y e ∙ ap (extended op) (mod-eq_of_lt fits)

-- a load from where a store of the same width has written
pub load_after_store : (op : LoadOp) (by : StoreOp) (memory : List ℕ) (address y : ℕ) → load_width op ≡ store_width by → address + store_size by ≤ length memory →
    loaded op (window (write_bytes memory address (stored by y)) address (load_size op)) ≡ extended op (y % 2 ^ bits (store_width by))
load_after_store op by memory address y e h =
    ap (λ w. loaded op (window (write_bytes memory address (stored by y)) address (byte_len w))) e
    ∙ ap (loaded op) (window_written memory address (store_size by) (stored by y) (length-stored by y) h)
    ∙ loaded-stored op by y e

-- a load from elsewhere finds what was there before the store
pub load_apart_from_store : (op : LoadOp) (by : StoreOp) (memory : List ℕ) (from address y : ℕ) → Apart from (load_size op) address (store_size by) → address ≤ length memory →
    loaded op (window (write_bytes memory address (stored by y)) from (load_size op)) ≡ loaded op (window memory from (load_size op))
load_apart_from_store op by memory from address y apart h =
    let P : ℕ → Type 0 = λ n. Apart from (load_size op) address n in
    ap (loaded op) (window_apart memory from (load_size op) address (stored by y) (subst P (sym (length-stored by y)) apart) h)
