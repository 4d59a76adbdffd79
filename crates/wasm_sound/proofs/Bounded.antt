-- Governed code holds no more than there is room for.
use Rattle.std.proofs.Common.{◌≡◌, ℕ, suc, ◌+◌, ◌≤◌, List, [], ◌∷◌, ◌++◌, length, ap, arith, length-append}
use Rattle.std.specs.Prelude.{reverse, sum_by}
use Rattle.std.proofs.lemmas.List.Sums.{sum_by-cons}
use Rattle.wasm_tree.specs.declared.module.ValType.{ValType}
use Rattle.wasm_tree.specs.declared.instr.Instr.TheVariants as instr
use Rattle.wasm_tree.specs.Cells.{next_constants, cells_below, cells_of_frame, cells_of}
use Rattle.wasm_tree.specs.Reduce.{Seq, Nil, Plain, InBlock, InLoop, InIf, Label, CallFrame, Config}
use Rattle.wasm_tree.specs.Typed.{Context}
use Rattle.wasm_sound.specs.Sound.{Scope, context}
use Rattle.wasm_sound.specs.Reached.{marks_of_frame, marks_of}
use Rattle.wasm_sound.specs.Governed.{Rules, Governed, AreGovernedLabels, AreGovernedFrames, IsGoverned}
use Rattle.wasm_sound.specs.Rooms.{Rooms, within}
use Rattle.wasm_sound.proofs.Values.{same_length}

-- where a sequence begins there is room
pub room_at : (rules : Rules) (f : ℕ) (c : Context) (labels : List (List ValType)) (low : ℕ) (s : Seq) (before after : List ValType) → Governed rules f c labels low s before after → rules.Room f (low + length before) (length labels)
room_at rules f c labels low Nil before after g = g.0
room_at rules f c labels low (Plain i s) before after g = g.0
room_at rules f c labels low (InBlock result body s) before after g = g.0
room_at rules f c labels low (InLoop result body s) before after g = g.0
room_at rules f c labels low (InIf result first second s) before after g = g.0

-- the operands below open labels, with the function's locals
pub low_is : (rules : Rules) (f : ℕ) (c : Context) (types : List (List ValType)) (labels : List Label) (after : List ValType) (low : ℕ) → AreGovernedLabels rules f c types labels after low →
    (low ≡ length c.locals + cells_below labels) × (length types ≡ suc (length labels))
low_is rules f c [] labels after low k = absurd k
low_is rules f c (own ∷ outer) [] after low k = let n = ap (λ (o : List (List ValType)). length o) k.1 in let e = k.3 in (omega arith, omega arith)
low_is rules f c (own ∷ outer) (label ∷ labels) after low k =
    let i = low_is rules f c outer labels k.0 k.1 k.3 in
    let i0 = i.0 in let i1 = i.1 in
    let s = sum_by-cons (λ (label : Label). length label.below) label labels in
    let n = same_length k.2.below label.below k.2.held in
    let o = k.2.over in
    (omega arith, omega arith)

module _ (rooms : Rooms) (most_cells most_marks : ℕ) (own_cells : (f : ℕ) → rooms.cells f ≤ rooms.all_cells f) (own_labels : (f : ℕ) → rooms.labels f ≤ rooms.all_labels f) (scope : Scope) where
  abbrev rules : Rules
  rules = within rooms most_cells most_marks

  -- the constants that come next have room
  constants_fit : (f : ℕ) (c : Context) (labels : List (List ValType)) (low : ℕ) (s : Seq) (before after : List ValType) → Governed rules f c labels low s before after → low + length before + next_constants s ≤ rooms.cells f
  constants_fit f c labels low Nil before after g = let r = g.0.0 in omega arith
  constants_fit f c labels low (InBlock result body s) before after g = let r = g.0.0 in omega arith
  constants_fit f c labels low (InLoop result body s) before after g = let r = g.0.0 in omega arith
  constants_fit f c labels low (InIf result first second s) before after g = let r = g.0.0 in omega arith
  constants_fit f c labels low (Plain (instr.I32Const value) s) before after g =
      let t = g.2.1 in
      let n = constants_fit f c labels low s g.2.0 after g.2.2 in
      let had = ap (λ (l : List ValType). length l) t.had in
      let has = ap (λ (l : List ValType). length l) t.has in
      omega arith
  constants_fit f c labels low (Plain (instr.I64Const value) s) before after g =
      let t = g.2.1 in
      let n = constants_fit f c labels low s g.2.0 after g.2.2 in
      let had = ap (λ (l : List ValType). length l) t.had in
      let has = ap (λ (l : List ValType). length l) t.has in
      omega arith
  constants_fit f c labels low (Plain _ s) before after g = let r = g.0.0 in omega arith

  -- callers hold no more than what their callee leaves
  callers_fit : (f : ℕ) (given : List ValType) (frames : List CallFrame) → AreGovernedFrames rules scope f given frames →
      (sum_by cells_of_frame frames + rooms.all_cells f ≤ most_cells) × (sum_by marks_of_frame frames + rooms.all_labels f ≤ most_marks)
  callers_fit f given [] k = let a = k.0 in let b = k.1 in (omega arith, omega arith)
  callers_fit f given (frame ∷ frames) k =
      let is = k.0 in
      let i = callers_fit is.number is.results frames k.1 in
      let i0 = i.0 in let i1 = i.1 in
      let low = low_is rules is.number (context scope is.locals is.results) is.labels frame.labels is.after is.low is.open_labels in
      let l0 = low.0 in let l1 = low.1 in
      let r = room_at rules is.number (context scope is.locals is.results) is.labels is.low frame.rest (reverse given ++ is.below) is.after is.typed in
      let r0 = r.0 in let r1 = r.1 in
      let n = length-append (reverse given) is.below in
      let held = same_length is.below frame.values is.held in
      let own = same_length is.locals frame.locals is.own in
      let c0 = is.calls.0 in let c1 = is.calls.1 in
      let s0 = sum_by-cons cells_of_frame frame frames in
      let s1 = sum_by-cons marks_of_frame frame frames in
      (omega arith, omega arith)

  pub holds_no_more : (size : ℕ) (c : Config) → IsGoverned rules scope size c → (cells_of c ≤ most_cells) × (marks_of c ≤ most_marks)
  holds_no_more size c o =
      let k = callers_fit o.number o.results c.frames o.callers in
      let k0 = k.0 in let k1 = k.1 in
      let low = low_is rules o.number (context scope o.locals o.results) o.labels c.labels o.after o.low o.open_labels in
      let l0 = low.0 in let l1 = low.1 in
      let n = constants_fit o.number (context scope o.locals o.results) o.labels o.low c.code o.operands o.after o.typed in
      let r = (room_at rules o.number (context scope o.locals o.results) o.labels o.low c.code o.operands o.after o.typed).1 in
      let held = same_length o.operands c.state.values o.held in
      let own = same_length o.locals c.state.locals o.own in
      let a = own_cells o.number in let b = own_labels o.number in
      (omega arith, omega arith)
