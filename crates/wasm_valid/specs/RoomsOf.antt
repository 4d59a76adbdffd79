-- The rooms of functions as they stand in a list by their numbers.
use Rattle.std.specs.Prelude.{ℕ, ◌≡◌, ◌+◌, ◌≤◌, List, length, slice_get, unwrap_or, Some}
use Rattle.std.specs.List.{AllByRecursion}
use Rattle.wasm_tree.specs.declared.module.FuncBody.{FuncBody}
use Rattle.wasm_tree.specs.declared.module.Module.{Module}
use Rattle.wasm_tree.specs.Numbers.{type_at}
use Rattle.wasm_tree.specs.Spelled.{count_of_locals}
use Rattle.wasm_sound.specs.Governed.{Rules, Permits}
use Rattle.wasm_sound.specs.Rooms.{Rooms, within}
use Rattle.wasm_valid.specs.declared.body.Need.{Need}
use Rattle.wasm_valid.specs.declared.rooms.Room.{Room}
use Rattle.wasm_valid.specs.declared.rooms.Bounds.{Bounds}
use Rattle.wasm_valid.specs.Needs.{HoldsNoMore}

-- where no function has the number
abbrev pub no_room : Room
no_room = record { cells = 0; labels = 0; all_cells = 0; all_labels = 0 }

abbrev pub room_of : List Room → ℕ → Room
room_of rooms f = unwrap_or (slice_get rooms f) no_room

abbrev pub rooms_of : List Room → Rooms
rooms_of rooms =
    record { cells = λ f. (room_of rooms f).cells; labels = λ f. (room_of rooms f).labels; all_cells = λ f. (room_of rooms f).all_cells; all_labels = λ f. (room_of rooms f).all_labels }

-- the rules on calls and constants, whatever the bounds are
abbrev pub rules_of : List Room → Rules
rules_of rooms = within (rooms_of rooms) 0 0

-- a function has room for so much and a callee with what it calls
abbrev pub LeavesRoom : Room → Room → Type 0
LeavesRoom caller callee = (caller.cells + callee.all_cells ≤ caller.all_cells) × (caller.labels + callee.all_labels ≤ caller.all_labels)

-- the function with this place among the module's own has room for what its body needs and calls
abbrev pub HasRoomAt : Module → List Room → List Need → ℕ → Type 0
HasRoomAt m rooms needs k =
    (type : ℕ) (body : FuncBody) (need : Need) → slice_get m.functions k ≡ Some type → slice_get m.codes k ≡ Some body → slice_get needs k ≡ Some need →
    (length (type_at m type).params + count_of_locals body.locals + need.cells ≤ (room_of rooms (k + 1)).cells) × (need.marks ≤ (room_of rooms (k + 1)).labels)
    × AllByRecursion (Permits (rules_of rooms) (k + 1)) body.code

-- with all that it calls the function holds no more
abbrev pub IsWithinBounds : Bounds → Room → Type 0
IsWithinBounds most room = (room.all_cells ≤ most.cells) × (room.all_labels ≤ most.marks)

-- the body of the function with this place among the module's own holds no more than is needed for it
abbrev pub IsNeedAt : Module → Need → ℕ → Type 0
IsNeedAt m need k =
    (type : ℕ) (body : FuncBody) → slice_get m.functions k ≡ Some type → slice_get m.codes k ≡ Some body → HoldsNoMore m (type_at m type) body need.cells need.marks

-- so it is for each body
abbrev pub AreNeedsOf : Module → List Need → Type 0
AreNeedsOf m needs = (k : ℕ) (need : Need) → slice_get needs k ≡ Some need → IsNeedAt m need k
