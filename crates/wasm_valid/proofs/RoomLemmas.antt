-- Rooms that are checked are rooms of the module's functions, so their most bounds what calls hold.
use Rattle.std.proofs.Common.{◌≡◌, ◌≤◌, ◌<◌, ◌+◌, ℕ, zero, suc, List, [], ◌∷◌, ◌++◌, length, take, get_or, Some, refl, sym, ap, ◌∙◌, subst, ◌⊎◌, inl, inr, arith, length-append}
use Rattle.std.specs.Prelude.{slice_get, replicate}
use Rattle.std.specs.List.{AllByRecursion}
use Rattle.std.proofs.lemmas.List.{take_more, take_all, length-replicate}
use Rattle.std.proofs.lemmas.List.Sums.{sum_by-cons}
use Rattle.std.proofs.lemmas.Option.{slice_get-get_or, slice_get_within}
use Rattle.wasm_tree.specs.declared.module.FuncType.{FuncType}
use Rattle.wasm_tree.specs.declared.module.FuncBody.{FuncBody}
use Rattle.wasm_tree.specs.declared.module.Limits.{Limits}
use Rattle.wasm_tree.specs.declared.module.LocalRun.{LocalRun}
use Rattle.wasm_tree.specs.declared.module.Module.{Module}
use Rattle.wasm_tree.specs.declared.instr.Instr.{Instr}
use Rattle.wasm_tree.specs.declared.instr.Instr.TheVariants as instr
use Rattle.wasm_tree.specs.Host.{HasImport}
use Rattle.wasm_tree.specs.Numbers.{type_at, declared_locals}
use Rattle.wasm_tree.specs.Spelled.{count_of_locals}
use Rattle.wasm_tree.specs.Valid.{HasMemory, HaveFewResults, AreBodiesTyped, memory_size}
use Rattle.wasm_sound.specs.Governed.{Permits}
use Rattle.wasm_sound.specs.Reached.{AreBounds}
use Rattle.wasm_sound.specs.Rooms.{within, AreRooms}
use Rattle.wasm_sound.specs.Sound.{most_memory}
use Rattle.wasm_sound.proofs.Reaching as R
use Rattle.wasm_valid.specs.declared.body.Need.{Need}
use Rattle.wasm_valid.specs.declared.rooms.Room.{Room}
use Rattle.wasm_valid.specs.declared.rooms.Bounds.{Bounds}
use Rattle.wasm_valid.specs.Needs.{AreNeeds}
use Rattle.wasm_valid.specs.RoomsOf.{no_room, room_of, rooms_of, rules_of, HasRoomAt, IsWithinBounds, AreNeedsOf}
use Rattle.wasm_valid.proofs.OperandTypes.{some_is}
use Rattle.wasm_valid.proofs.GovernedBodies.{scope_governed}

-- ---- the functions one after another

pub room_here : (m : Module) (rooms : List Room) (needs : List Need) (k : ℕ) (type : FuncType) (body : FuncBody) (need : Need) →
    ((t : ℕ) → slice_get m.functions k ≡ Some t → type ≡ type_at m t) → k < length m.codes → k < length needs → body ≡ get_or m.codes k body → need ≡ get_or needs k need →
    (length type.params + count_of_locals body.locals + need.cells ≤ (room_of rooms (k + 1)).cells) × (need.marks ≤ (room_of rooms (k + 1)).labels) →
    AllByRecursion (Permits (rules_of rooms) (k + 1)) body.code → HasRoomAt m rooms needs k
room_here m rooms needs k type body need same lt ln eb en fits may t other wanted p q r =
    let ib : body ≡ other = some_is body other (ap (λ (x : FuncBody). Some x) eb ∙ (sym (slice_get-get_or m.codes k body lt) ∙ q)) in
    let im : need ≡ wanted = some_is need wanted (ap (λ (x : Need). Some x) en ∙ (sym (slice_get-get_or needs k need ln) ∙ r)) in
    let P : FuncType → FuncBody → Need → Type 0 = λ type body need. (length type.params + count_of_locals body.locals + need.cells ≤ (room_of rooms (k + 1)).cells) × (need.marks ≤ (room_of rooms (k + 1)).labels) × AllByRecursion (Permits (rules_of rooms) (k + 1)) body.code in
    let here : P type body need = (fits.0, fits.1, may) in
    subst (λ (x : Need). P (type_at m t) other x) im (subst (λ (x : FuncBody). P (type_at m t) x need) ib (subst (λ (x : FuncType). P x body need) (same t p) here))

pub room_more : (m : Module) (rooms : List Room) (needs : List Need) (n : ℕ) → ((k : ℕ) → k < n → HasRoomAt m rooms needs k) → HasRoomAt m rooms needs n → (k : ℕ) → k < n + 1 → HasRoomAt m rooms needs k
room_more m rooms needs n h at k lt = elim (last k n lt) [ inl l ↦ h k l | inr e ↦ subst (λ (n : ℕ). HasRoomAt m rooms needs n) (sym e) at ]
  where
    last : (k n : ℕ) → k < n + 1 → (k < n) ⊎ (k ≡ n)
    last k n lt = grind arith

pub room_each : (m : Module) (rooms : List Room) (needs : List Need) (n k : ℕ) → length m.codes ≤ n → ((k : ℕ) → k < n → HasRoomAt m rooms needs k) → HasRoomAt m rooms needs k
room_each m rooms needs n k le h t body need p q r = h k (omega (arith, le, slice_get_within m.codes k body q)) t body need p q r

-- ---- the most

weaker : (most more : Bounds) (rooms : List Room) → most.cells ≤ more.cells → most.marks ≤ more.marks → AllByRecursion (IsWithinBounds most) rooms → AllByRecursion (IsWithinBounds more) rooms
weaker most more [] a b h = tt
weaker most more (room ∷ rooms) a b h = let c = h.0.0 in let d = h.0.1 in ((omega arith, omega arith), weaker most more rooms a b h.1)

push_all : (P : Room → Type 0) (rooms : List Room) (room : Room) → AllByRecursion P rooms → P room → AllByRecursion P (rooms ++ room ∷ [])
push_all P [] room h p = (p, tt)
push_all P (x ∷ xs) room h p = (h.0, push_all P xs room h.1 p)

pub most_more : (most next : Bounds) (rooms : List Room) (k : ℕ) (room : Room) → k < length rooms → room ≡ get_or rooms k room → AllByRecursion (IsWithinBounds most) (take k rooms) →
    most.cells ≤ next.cells → most.marks ≤ next.marks → room.all_cells ≤ next.cells → room.all_labels ≤ next.marks → AllByRecursion (IsWithinBounds next) (take (k + 1) rooms)
most_more most next rooms k room lt e h a b c d =
    let one : take (k + 1) rooms ≡ take k rooms ++ room ∷ [] = take_more rooms k room lt ∙ ap (λ (x : Room). take k rooms ++ x ∷ []) (sym e) in
    subst (λ (l : List Room). AllByRecursion (IsWithinBounds next) l) (sym one) (push_all (IsWithinBounds next) (take k rooms) room (weaker most next (take k rooms) a b h) (c, d))

pub most_each : (most : Bounds) (rooms : List Room) (k : ℕ) → length rooms ≤ k → AllByRecursion (IsWithinBounds most) (take k rooms) → AllByRecursion (IsWithinBounds most) rooms
most_each most rooms k le h = subst (λ (l : List Room). AllByRecursion (IsWithinBounds most) l) (take_all k rooms le) h

-- ---- bounds

at_number : (P : Room → Type 0) (rooms : List Room) (f : ℕ) → AllByRecursion P rooms → P no_room → P (room_of rooms f)
at_number P [] zero h d = d
at_number P [] (suc f) h d = d
at_number P (room ∷ rooms) zero h d = h.0
at_number P (room ∷ rooms) (suc f) h d = at_number P rooms f h.1 d

-- the rules on instructions don't speak of the bounds
permits_any : (rooms : List Room) (cells marks f : ℕ) (i : Instr) → Permits (rules_of rooms) f i → Permits (within (rooms_of rooms) cells marks) f i
permits_any rooms cells marks f (instr.Call zero) h = tt
permits_any rooms cells marks f (instr.Call (suc g)) h = h
permits_any rooms cells marks f (instr.I32Const value) h = h
permits_any rooms cells marks f (instr.I64Const value) h = h
permits_any rooms cells marks f _ h = tt

all_permit : (rooms : List Room) (cells marks f : ℕ) (code : List Instr) → AllByRecursion (Permits (rules_of rooms) f) code → AllByRecursion (Permits (within (rooms_of rooms) cells marks) f) code
all_permit rooms cells marks f [] h = tt
all_permit rooms cells marks f (i ∷ code) h = (permits_any rooms cells marks f i h.0, all_permit rooms cells marks f code h.1)

pub small_memory : (own : List Limits) → HasMemory own → memory_size own ≤ most_memory
small_memory own h =
    let few = h.lawful.few in
    subst (λ (own : List Limits). memory_size own ≤ most_memory) (sym h.only) (omega arith)

length-declared : (runs : List LocalRun) → length (declared_locals runs) ≡ count_of_locals runs
length-declared [] = refl
length-declared (run ∷ runs) =
    let a = length-append (replicate run.count run.ty) (declared_locals runs) in
    let b = length-replicate run.count run.ty in
    let c = sum_by-cons (λ (run : LocalRun). run.count) run runs in
    let d = length-declared runs in
    omega arith

pub bounds_from : (m : Module) (rooms : List Room) (needs : List Need) (most : Bounds) → HasImport m → HaveFewResults m → HasMemory m.memory → AreBodiesTyped m → length needs ≡ length m.codes → AreNeedsOf m needs →
    AllByRecursion (λ room. (room.cells ≤ room.all_cells) × (room.labels ≤ room.all_labels)) rooms → (0 < (room_of rooms 0).cells) × (0 < (room_of rooms 0).labels) →
    ((k : ℕ) → HasRoomAt m rooms needs k) → AllByRecursion (IsWithinBounds most) rooms → AreBounds m most.cells most.marks
bounds_from m rooms needs most import few memory typed counts needed sums emit room within_most =
    R.bounds m (rooms_of rooms) most.cells most.marks are (small_memory m.memory memory) (scope_governed m import few typed (rooms_of rooms) most.cells most.marks all_needs)
  where
    Sums : Room → Type 0
    Sums room = (room.cells ≤ room.all_cells) × (room.labels ≤ room.all_labels)

    are : AreRooms m (rooms_of rooms) most.cells most.marks
    are = record {
      own_cells = λ f. (at_number (λ room. (room.cells ≤ room.all_cells) × (room.labels ≤ room.all_labels)) rooms f sums (omega arith, omega arith)).0;
      own_labels = λ f. (at_number (λ room. (room.cells ≤ room.all_cells) × (room.labels ≤ room.all_labels)) rooms f sums (omega arith, omega arith)).1;
      emit_cells = emit.0;
      emit_labels = emit.1;
      begin = λ name number has. at_number (IsWithinBounds most) rooms number within_most (omega arith, omega arith);
    }

    all_needs : AreNeeds m (rooms_of rooms) (within (rooms_of rooms) most.cells most.marks)
    all_needs k type body p q =
        let lt = slice_get_within m.codes k body q in
        let none : Need = record { cells = 0; marks = 0 } in
        let need : Need = get_or needs k none in
        let there : slice_get needs k ≡ Some need = slice_get-get_or needs k none (omega arith) in
        let h = room k type body need p q there in
        let n : k + 1 ≡ suc k = omega arith in
        let cells = subst (λ n. length (type_at m type).params + count_of_locals body.locals + need.cells ≤ (room_of rooms n).cells) n h.0 in
        let marks = subst (λ n. need.marks ≤ (room_of rooms n).labels) n h.1 in
        let long = length-append (type_at m type).params (declared_locals body.locals) in
        let own = length-declared body.locals in
        record {
          cells = need.cells;
          marks = need.marks;
          holds = needed k need there type body p q;
          cells_fit = omega arith;
          marks_fit = marks;
          permits = subst (λ n. AllByRecursion (Permits (within (rooms_of rooms) most.cells most.marks) n) body.code) n (all_permit rooms most.cells most.marks (k + 1) body.code h.2);
        }
