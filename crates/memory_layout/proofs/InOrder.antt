-- The leaves of an order, from the last to the first.
use Rattle.std.specs.Prelude.{◌≡◌, refl, ℕ, zero, suc, ◌+◌, ◌-◌, ◌≤◌, ◌<◌, ◌==◌, ◌||◌, Bool, true, false, List, [], ◌∷◌, length, map, All, drop, get_or, slice_set, slice_index, position}
use Rattle.std.proofs.Common.{ap, sym, ◌∙◌, subst, arith}
use Rattle.std.proofs.lemmas.Bool.{eqb-true, eqb-false, eq-eqb}
use Rattle.std.proofs.lemmas.List.{get_or-set_same, get_or-set_other, length-drop}
use Rattle.std.proofs.Math.Seq.{drop-cons}
use Rattle.cm_base.specs.declared.place.LeafId.{LeafId}
use Rattle.cm_core.specs.declared.flat.Chain.{Chain}
use Rattle.cm_core.specs.declared.unit.Handler.{Handler}
use Rattle.cm_core.specs.Code.{stmt_of}
use Rattle.cm_core.specs.Forward.{has_leaf}
use Rattle.cm_core.specs.Linked.{Linked, unit_at, leaf_point}
use Rattle.cm_core.specs.Measures.{measured, chains_size, handled_size, unit_size, leaf_size}
use Rattle.cm_core.specs.Sizes.{stmt_size}
use Rattle.memory_layout.specs.Graphs.{body_among, handled_in}
use Rattle.memory_layout.specs.Held.{held}
use Rattle.memory_layout.specs.Onward.{LeadsOn, GoForward}
use Rattle.memory_layout.proofs.Among.{body_is}
use Rattle.memory_layout.proofs.Settled.{LeavesAlike, sums_alike, leaf_alike, settled}
use Rattle.memory_layout.proofs.Whole.{whole_alike, all_alike}

abbrev pub full : Linked → ℕ → ℕ → ℕ
full l = handled_size l (length l.flat.leaves)

-- the leaves in a list, and their handlers, have these sizes
pub record AreSized (l : Linked) (leaves : List LeafId) (sizes : List ℕ) (handlers : List (List ℕ)) : Type 0 where
  pub leaves_are : (j : ℕ) → has_leaf leaves j ≡ true → slice_index sizes j ≡ held (leaf_size l j)
  pub handlers_are : LeavesAlike leaves (handled_in l handlers) (full l)

pub forward_behind : (chains : List Chain) (leaves : List LeafId) (n : ℕ) → GoForward chains leaves → GoForward chains (drop n leaves)
forward_behind chains leaves zero go = go
forward_behind chains [] (suc n) go = go
forward_behind chains (x ∷ xs) (suc n) go = forward_behind chains xs n go.1

held_twice : (n : ℕ) → held (held n) ≡ held n
held_twice n = omega arith

module _ (l : Linked) (leaf : LeafId) (later : List LeafId) (handlers : List (List ℕ)) (leads : All (LeadsOn leaf later) l.flat.chains)
    (known : LeavesAlike later (handled_in l handlers) (full l)) where
  writes_alike : (e : ℕ) → held (chains_size l (handled_in l handlers) (leaf_point l leaf.0 e)) ≡ held (chains_size l (full l) (leaf_point l leaf.0 e))
  writes_alike e = sums_alike l (handled_in l handlers) (full l) (leaf_point l leaf.0 e) l.flat.chains (leaf_alike l leaf later (handled_in l handlers) (full l) known e l.flat.chains leads)

  pub leaf_is : held (unit_size (measured l.program.structs (unit_at l leaf.0) (λ e. chains_size l (handled_in l handlers) (leaf_point l leaf.0 e)))) ≡ held (leaf_size l leaf.0)
  leaf_is =
      whole_alike l.program.structs (unit_at l leaf.0) (λ e. chains_size l (handled_in l handlers) (leaf_point l leaf.0 e)) (λ e. chains_size l (full l) (leaf_point l leaf.0 e)) writes_alike

  -- the handlers of the leaf
  pub handler_is : (found : List ℕ) → found ≡ map (λ (h : Handler). held (stmt_size (measured l.program.structs (unit_at l leaf.0) (λ e. chains_size l (handled_in l handlers) (leaf_point l leaf.0 e))) (stmt_of h.body))) (unit_at l leaf.0).handlers →
      (e : ℕ) → held (body_among found (position (λ (h : Handler). h.end == e) (unit_at l leaf.0).handlers)) ≡ held (handled_size l (suc (length l.flat.leaves)) leaf.0 e)
  handler_is found is e =
      ap (λ (xs : List ℕ). held (body_among xs (position (λ (h : Handler). h.end == e) (unit_at l leaf.0).handlers)))
      (is ∙ all_alike l.program.structs (unit_at l leaf.0) (λ e. chains_size l (handled_in l handlers) (leaf_point l leaf.0 e)) (λ e. chains_size l (full l) (leaf_point l leaf.0 e)) writes_alike (unit_at l leaf.0).handlers)
      ∙ ap held (body_is (measured l.program.structs (unit_at l leaf.0) (λ e. chains_size l (full l) (leaf_point l leaf.0 e))) e (unit_at l leaf.0).handlers 0)
      ∙ held_twice (handled_size l (suc (length l.flat.leaves)) leaf.0 e)

module _ (l : Linked) (leaf : LeafId) (sizes : List ℕ) (handlers : List (List ℕ)) (size : ℕ) (found : List ℕ) (low : leaf.0 < length sizes) (below : leaf.0 < length handlers) where
  leaf_by : (j : ℕ) (b : Bool) → (leaf.0 == j) ≡ b → size ≡ held (leaf_size l leaf.0) → (rest : Bool) → (rest ≡ true → slice_index sizes j ≡ held (leaf_size l j)) → (b || rest) ≡ true →
      slice_index (slice_set sizes leaf.0 size) j ≡ held (leaf_size l j)
  leaf_by j true at sized rest others h =
      subst (λ (k : ℕ). slice_index (slice_set sizes leaf.0 size) k ≡ held (leaf_size l k)) (eqb-true leaf.0 j at) (get_or-set_same sizes leaf.0 size 0 low ∙ sized)
  leaf_by j false at sized rest others h = get_or-set_other sizes leaf.0 j size 0 (λ is. eqb-false leaf.0 j at (sym is)) ∙ others h

  handler_by : (j e : ℕ) (b : Bool) → (leaf.0 == j) ≡ b → held (body_among found (position (λ (h : Handler). h.end == e) (unit_at l leaf.0).handlers)) ≡ held (full l leaf.0 e) →
      (rest : Bool) → (rest ≡ true → held (handled_in l handlers j e) ≡ held (full l j e)) → (b || rest) ≡ true → held (handled_in l (slice_set handlers leaf.0 found) j e) ≡ held (full l j e)
  handler_by j e true at here rest others h =
      subst (λ (k : ℕ). held (handled_in l (slice_set handlers leaf.0 found) k e) ≡ held (full l k e)) (eqb-true leaf.0 j at)
      (ap (λ (xs : List ℕ). held (body_among xs (position (λ (h : Handler). h.end == e) (unit_at l leaf.0).handlers))) (get_or-set_same handlers leaf.0 found [] below) ∙ here)
  handler_by j e false at here rest others h =
      ap (λ (xs : List ℕ). held (body_among xs (position (λ (h : Handler). h.end == e) (unit_at l j).handlers))) (get_or-set_other handlers leaf.0 j found [] (λ is. eqb-false leaf.0 j at (sym is)))
      ∙ others h

  -- one leaf more is measured
  pub sized_more : (later : List LeafId) → GoForward l.flat.chains (leaf ∷ later) → length (leaf ∷ later) ≤ length l.flat.leaves → AreSized l later sizes handlers →
      size ≡ held (unit_size (measured l.program.structs (unit_at l leaf.0) (λ e. chains_size l (handled_in l handlers) (leaf_point l leaf.0 e)))) →
      found ≡ map (λ (h : Handler). held (stmt_size (measured l.program.structs (unit_at l leaf.0) (λ e. chains_size l (handled_in l handlers) (leaf_point l leaf.0 e))) (stmt_of h.body))) (unit_at l leaf.0).handlers →
      AreSized l (leaf ∷ later) (slice_set sizes leaf.0 size) (slice_set handlers leaf.0 found)
  sized_more later go few known sized is =
      record {
        leaves_are = λ j has. leaf_by j (leaf.0 == j) refl (sized ∙ leaf_is l leaf later handlers go.0 known.handlers_are) (has_leaf later j) (known.leaves_are j) has;
        handlers_are = λ j has e.
            handler_by j e (leaf.0 == j) refl
            (handler_is l leaf later handlers go.0 known.handlers_are found is e
            ∙ sym (settled l (leaf ∷ later) go (length l.flat.leaves) few leaf.0 (ap (λ (b : Bool). b || has_leaf later leaf.0) (eq-eqb leaf.0 leaf.0 refl)) e))
            (has_leaf later j) (λ h. known.handlers_are j h e) has;
      }

next_in : (order : List LeafId) (n : ℕ) (leaf : LeafId) → n < length order → leaf ≡ get_or order n leaf → drop n order ≡ leaf ∷ drop (n + 1) order
next_in order n leaf below is =
    let next : suc n ≡ n + 1 = omega arith in
    drop-cons order n leaf below ∙ ap (λ (x : LeafId). x ∷ drop (suc n) order) (sym is) ∙ ap (λ (k : ℕ). leaf ∷ drop k order) next

-- so the leaves from the one before on
pub sized_from : (l : Linked) (order : List LeafId) (n : ℕ) (leaf : LeafId) (sizes : List ℕ) (handlers : List (List ℕ)) (size : ℕ) (found : List ℕ) →
    n < length order → leaf ≡ get_or order n leaf → leaf.0 < length sizes → leaf.0 < length handlers → GoForward l.flat.chains order → length order ≤ length l.flat.leaves →
    AreSized l (drop (n + 1) order) sizes handlers →
    size ≡ held (unit_size (measured l.program.structs (unit_at l leaf.0) (λ e. chains_size l (handled_in l handlers) (leaf_point l leaf.0 e)))) →
    found ≡ map (λ (h : Handler). held (stmt_size (measured l.program.structs (unit_at l leaf.0) (λ e. chains_size l (handled_in l handlers) (leaf_point l leaf.0 e))) (stmt_of h.body))) (unit_at l leaf.0).handlers →
    AreSized l (drop n order) (slice_set sizes leaf.0 size) (slice_set handlers leaf.0 found)
sized_from l order n leaf sizes handlers size found below is low under go few known sized bodies =
    let here : drop n order ≡ leaf ∷ drop (n + 1) order = next_in order n leaf below is in
    let forward : GoForward l.flat.chains (leaf ∷ drop (n + 1) order) = subst (GoForward l.flat.chains) here (forward_behind l.flat.chains order n go) in
    let short : length (drop n order) ≤ length l.flat.leaves = grind (arith, length-drop n order, few) in
    let fits : length (leaf ∷ drop (n + 1) order) ≤ length l.flat.leaves = subst (λ (xs : List LeafId). length xs ≤ length l.flat.leaves) here short in
    subst (λ (xs : List LeafId). AreSized l xs (slice_set sizes leaf.0 size) (slice_set handlers leaf.0 found)) (sym here)
    (sized_more l leaf sizes handlers size found low under (drop (n + 1) order) forward fits known sized bodies)

other_default : (xs : List LeafId) (n : ℕ) (a b : LeafId) → n < length xs → get_or xs n a ≡ get_or xs n b
other_default [] n a b h = absurd (omega arith)
other_default (x ∷ xs) zero a b h = refl
other_default (x ∷ xs) (suc n) a b h = other_default xs n a b (omega arith)

-- the same where the sizes of the handlers so far have a second name
pub sized_step : (l : Linked) (left : ℕ) (sizes : List ℕ) (handlers seen : List (List ℕ)) (size : ℕ) (found : List ℕ) → 0 < left → left ≤ length l.order →
    (get_or l.order (left - 1) (record { 0 = 0 })).0 < length sizes → (get_or l.order (left - 1) (record { 0 = 0 })).0 < length handlers → GoForward l.flat.chains l.order →
    length l.order ≤ length l.flat.leaves → AreSized l (drop left l.order) sizes handlers → seen ≡ handlers →
    size ≡ held (unit_size (measured l.program.structs (unit_at l (get_or l.order (left - 1) (record { 0 = 0 })).0)
    (λ e. chains_size l (handled_in l seen) (leaf_point l (get_or l.order (left - 1) (record { 0 = 0 })).0 e)))) →
    found ≡ map (λ (h : Handler). held (stmt_size (measured l.program.structs (unit_at l (get_or l.order (left - 1) (record { 0 = 0 })).0)
    (λ e. chains_size l (handled_in l seen) (leaf_point l (get_or l.order (left - 1) (record { 0 = 0 })).0 e))) (stmt_of h.body)))
    (unit_at l (get_or l.order (left - 1) (record { 0 = 0 })).0).handlers →
    AreSized l (drop (left - 1) l.order) (slice_set sizes (get_or l.order (left - 1) (record { 0 = 0 })).0 size) (slice_set handlers (get_or l.order (left - 1) (record { 0 = 0 })).0 found)
sized_step l left sizes handlers seen size found some most low under go few known same sized bodies =
    let next : left ≡ left - 1 + 1 = omega arith in
    let before : left - 1 < length l.order = omega arith in
    sized_from l l.order (left - 1) (get_or l.order (left - 1) (record { 0 = 0 })) sizes handlers size found before
    (other_default l.order (left - 1) (record { 0 = 0 }) (get_or l.order (left - 1) (record { 0 = 0 })) before) low under go few
    (subst (λ (k : ℕ). AreSized l (drop k l.order) sizes handlers) next known)
    (sized ∙ ap (λ (hs : List (List ℕ)). held (unit_size (measured l.program.structs (unit_at l (get_or l.order (left - 1) (record { 0 = 0 })).0) (λ e. chains_size l (handled_in l hs) (leaf_point l (get_or l.order (left - 1) (record { 0 = 0 })).0 e))))) same)
    (bodies ∙ ap (λ (hs : List (List ℕ)). map (λ (h : Handler). held (stmt_size (measured l.program.structs (unit_at l (get_or l.order (left - 1) (record { 0 = 0 })).0) (λ e. chains_size l (handled_in l hs) (leaf_point l (get_or l.order (left - 1) (record { 0 = 0 })).0 e))) (stmt_of h.body))) (unit_at l (get_or l.order (left - 1) (record { 0 = 0 })).0).handlers) same)
