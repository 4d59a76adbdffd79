use Rattle.std.proofs.Common.{rules, ◌≡◌, ℕ, ◌+◌, ◌<◌, Bool, List, length, get_or, drop, Some, None, ap, sym, ◌∙◌}
use Rattle.std.specs.Option.{option_and_then}
use Rattle.std.proofs.lemmas.List.{drop_more}
use Rattle.wasm_tree.specs.declared.instr.Instr.{Instr}
use Rattle.wasm_tree.specs.Control.{after_instruction, after_code, at_begin}
use Rattle.wasm_writer.proofs.writable.is_closed.Goals as goal

-- the next instruction, and the rest
one_more : (code : List Instr) (i : ℕ) (x : Instr) (now : List Bool) → i < length code → x ≡ get_or code i x → after_code now (drop i code) ≡ option_and_then (λ next. after_code next (drop (i + 1) code)) (after_instruction now x)
one_more code i x now lt is =
    ap (after_code now) (drop_more code i x lt) ∙ ap (λ (y : Instr). option_and_then (λ next. after_code next (drop (i + 1) code)) (after_instruction now y)) (sym is)

pub loop-instr-preserved : goal.loop-instr-preserved
loop-instr-preserved c =
    let follows : after_instruction c.loop-instr.stack c.instr-item.result ≡ Some c.follow.new.self = search rules in
    c.loop-instr.invariant ∙ one_more c.args.code.now c.loop-instr.instr-index c.instr-item.result c.loop-instr.stack c.loop-instr-test.true c.instr-item.is
    ∙ ap (option_and_then (λ next. after_code next (drop (c.loop-instr.instr-index + 1) c.args.code.now))) follows

pub returns-then-not-follow : goal.returns-then-not-follow
returns-then-not-follow c =
    let stays : after_instruction c.loop-instr.stack c.instr-item.result ≡ None = search rules in
    let none : after_code at_begin c.args.code.now ≡ None =
    c.loop-instr.invariant ∙ one_more c.args.code.now c.loop-instr.instr-index c.instr-item.result c.loop-instr.stack c.loop-instr-test.true c.instr-item.is
    ∙ ap (option_and_then (λ next. after_code next (drop (c.loop-instr.instr-index + 1) c.args.code.now))) stays in
    ((λ h. cc), (λ h. cc))
