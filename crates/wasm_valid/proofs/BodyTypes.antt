-- A body is typed exactly where the pass over its code accepts it.
use Rattle.std.proofs.Common.{◌≡◌, ◌≤◌, List, [], ◌∷◌, length, Option, Bool, true, false, refl, sym, subst, arith}
use Rattle.std.specs.Prelude.{reverse}
use Rattle.wasm_tree.specs.declared.module.ValType.{ValType}
use Rattle.wasm_tree.specs.declared.module.FuncType.{FuncType}
use Rattle.wasm_tree.specs.declared.module.FuncBody.{FuncBody}
use Rattle.wasm_tree.specs.declared.module.Module.{Module}
use Rattle.wasm_tree.specs.Control.{IsClosed}
use Rattle.wasm_tree.specs.Reduce.{Seq, Piece, pieces}
use Rattle.wasm_tree.specs.Typed.{Context, Typed, result_types}
use Rattle.wasm_tree.specs.Valid.{IsBody}
use Rattle.wasm_valid.specs.Bodies.{context_of, result_one, IsAccepted}
use Rattle.wasm_valid.specs.Checking.{nothing, at_begin}
use Rattle.wasm_valid.proofs.OperandTypes.{Fits}
use Rattle.wasm_valid.proofs.Held.{Held, sound, complete}

pub results_are : (results : List ValType) → length results ≤ 1 → reverse results ≡ result_types (result_one results)
results_are [] le = refl
results_are (t ∷ []) le = refl
results_are (t ∷ u ∷ results) le = absurd (omega (arith, le))

none_fits : (before : List ValType) → Fits nothing before → before ≡ []
none_fits [] f = refl
none_fits (t ∷ before) f = absurd cc

abbrev IsWhole : Context → Option ValType → List Piece → Type 0
IsWhole c r ps = (tree : Seq) × (ps ≡ record { arm = false; rest = tree } ∷ []) × Typed c (result_types r ∷ []) tree [] (result_types r)

whole_at : (c : Context) (r : Option ValType) (are : reverse c.results ≡ result_types r) (arm : Bool) (rest : Seq) (ps : List Piece) → Held c r are (record { arm = arm; rest = rest } ∷ ps) (at_begin r) → IsWhole c r (record { arm = arm; rest = rest } ∷ ps)
whole_at c r are true rest ps h = absurd (cc h.1.0)
whole_at c r are false rest [] h = (rest, refl, subst (λ l. Typed c (result_types r ∷ []) rest l (result_types r)) (none_fits h.0.0 h.0.1) h.0.2)
whole_at c r are false rest (p ∷ ps) h = absurd h.1.1

whole : (c : Context) (r : Option ValType) (are : reverse c.results ≡ result_types r) (ps : List Piece) → Held c r are ps (at_begin r) → IsWhole c r ps
whole c r are [] h = absurd h
whole c r are (p ∷ ps) h = whole_at c r are p.arm p.rest ps h

pub accepted_typed : (m : Module) (type : FuncType) (body : FuncBody) → length type.results ≤ 1 → IsClosed body.code → IsAccepted m type body → IsBody m type body
accepted_typed m type body few closed e =
    let r = result_one type.results in
    let are = results_are type.results few in
    let w = whole (context_of m type body.locals) r are (pieces body.code) (sound (context_of m type body.locals) r are body.code (at_begin r) e) in
    record {
      tree = w.0;
      spells = w.1;
      typed = subst (λ l. Typed (context_of m type body.locals) (l ∷ []) w.0 [] l) (sym are) w.2;
      closed = closed;
    }

pub typed_accepted : (m : Module) (type : FuncType) (body : FuncBody) → length type.results ≤ 1 → IsBody m type body → IsAccepted m type body
typed_accepted m type body few b =
    let r = result_one type.results in
    let are = results_are type.results few in
    let typed : Typed (context_of m type body.locals) (result_types r ∷ []) b.tree [] (result_types r) = subst (λ l. Typed (context_of m type body.locals) (l ∷ []) b.tree [] l) are b.typed in
    complete (context_of m type body.locals) r are body.code (at_begin r) b.closed
    (subst (λ ps. Held (context_of m type body.locals) r are ps (at_begin r)) (sym b.spells) (([], refl, typed), ((λ e. absurd (cc e)), tt)))
