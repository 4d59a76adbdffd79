-- What cells hold when one of them is written, and how many they are.
use Rattle.std.proofs.Common.{◌≡◌, ℕ, suc, ◌+◌, ◌-◌, ◌<◌, ◌≤◌, List, [], ◌∷◌, ◌++◌, length, drop, refl, sym, ap, ◌∙◌, arith, length-append, length-drop, drop-cons, get_or}
use Rattle.std.specs.Prelude.{slice_set, slice_index, reverse}
use Rattle.std.proofs.lemmas.List.Sums.{sum_by-cons}
use Rattle.std.proofs.lemmas.List.{drop-set, length-reverse}
use Rattle.wasm_tree.specs.Reduce.{Label, CallFrame, Config}
use Rattle.wasm_tree.specs.Cells.{cells_below, cells_of_frame, cells_of}
use Rattle.wasm_runner.specs.Standing.{below_of, waiting, held, cells_of_frames, blocks_of}

-- ---- sums

pub below_more : (l : Label) (ls : List Label) → cells_below (l ∷ ls) ≡ length l.below + cells_below ls
below_more l ls = sum_by-cons (λ label. length label.below) l ls

pub frames_more : (f : CallFrame) (fs : List CallFrame) → cells_of_frames (f ∷ fs) ≡ (length f.locals + length f.values + cells_below f.labels) + cells_of_frames fs
frames_more f fs = sum_by-cons cells_of_frame f fs

pub blocks_more : (f : CallFrame) (fs : List CallFrame) → blocks_of (f ∷ fs) ≡ length f.labels + blocks_of fs
blocks_more f fs = sum_by-cons (λ frame. length frame.labels) f fs

-- ---- what a configuration holds

pub below_count : (labels : List Label) → length (below_of labels) ≡ cells_below labels
below_count [] = refl
below_count (l ∷ ls) = length-append l.below (below_of ls) ∙ ap (λ n. length l.below + n) (below_count ls) ∙ sym (below_more l ls)

pub waiting_count : (frames : List CallFrame) → length (waiting frames) ≡ cells_of_frames frames
waiting_count [] = refl
waiting_count (f ∷ fs) =
    let a = length-append f.values (below_of f.labels ++ (reverse f.locals ++ waiting fs)) in
    let b = length-append (below_of f.labels) (reverse f.locals ++ waiting fs) in
    let c = length-append (reverse f.locals) (waiting fs) in
    let d = length-reverse f.locals in
    let e = below_count f.labels in
    let r = waiting_count fs in
    let m = frames_more f fs in
    omega arith

pub held_count : (c : Config) → length (held c) ≡ length c.state.values + (cells_below c.labels + (length c.state.locals + cells_of_frames c.frames))
held_count c =
    let a = length-append c.state.values (below_of c.labels ++ (reverse c.state.locals ++ waiting c.frames)) in
    let b = length-append (below_of c.labels) (reverse c.state.locals ++ waiting c.frames) in
    let g = length-append (reverse c.state.locals) (waiting c.frames) in
    let d = length-reverse c.state.locals in
    let e = below_count c.labels in
    let r = waiting_count c.frames in
    omega arith

-- a run holds no more than its bound
pub held_within : (c : Config) (n : ℕ) → cells_of c ≤ n → length (held c) ≤ n
held_within c n h = let e = held_count c in omega arith

-- ---- cells

pub first_cell : (cells : List ℕ) (sp x : ℕ) (rest : List ℕ) → drop sp cells ≡ x ∷ rest → (sp < length cells) × (slice_index cells sp ≡ x) × (drop (sp + 1) cells ≡ rest)
first_cell cells sp x rest h =
    let n = length-drop sp cells in
    let m = ap length h in
    let low : sp < length cells = omega arith in
    let e : suc sp ≡ sp + 1 = omega arith in
    let d : get_or cells sp 0 ∷ drop (suc sp) cells ≡ x ∷ rest = sym (drop-cons cells sp 0 low) ∙ h in
    let first : get_or cells sp 0 ≡ x = cc in
    let after : drop (suc sp) cells ≡ rest = cc in
    (low, first, ap (λ k. drop k cells) (sym e) ∙ after)

-- a write at a place
pub written : (cells : List ℕ) (i x : ℕ) → i < length cells → drop i (slice_set cells i x) ≡ x ∷ drop (i + 1) cells
written cells i x h = drop-set cells i x h

-- a push
pub pushed : (cells : List ℕ) (sp x : ℕ) → 0 < sp → sp ≤ length cells → drop (sp - 1) (slice_set cells (sp - 1) x) ≡ x ∷ drop sp cells
pushed cells sp x h g =
    let e : sp - 1 + 1 ≡ sp = omega arith in
    written cells (sp - 1) x (omega arith) ∙ ap (λ k. x ∷ drop k cells) e
