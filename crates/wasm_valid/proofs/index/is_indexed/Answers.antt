use Rattle.std.proofs.Common.{◌≡◌, sym, ◌∙◌, refl, true, arith}
use Rattle.std.proofs.lemmas.Option.{slice_get_within}
use Rattle.wasm_tree.specs.Numbers.{IsThere}
use Rattle.wasm_valid.specs.Indexed.{counts_of}
use Rattle.wasm_valid.proofs.IndexLemmas.{counted_more, there_more, lacks_here, at_item, few_more}
use Rattle.wasm_valid.proofs.index.is_indexed.Goals as goal

pub returns-then-not-is_there : goal.returns-then-not-is_there
returns-then-not-is_there c = (
  λ t. absurd (cc t),
  λ all. absurd (lacks_here c.args.space c.args.code.now c.loop-instr.instr-index c.instr-item.result c.loop-instr.held c.requires (at_item c.args.code.now c.loop-instr.instr-index c.instr-item.result c.loop-instr-test.true c.instr-item.is)
      c.loop-instr.invariant.counted (λ there. let no : c.is_there.result ≡ true = c.is_there.ensures.1 there in absurd (cc (no, c.if-not-is_there.true))) all),
)

pub loop-instr-preserved : goal.loop-instr-preserved
loop-instr-preserved c =
    let at = at_item c.args.code.now c.loop-instr.instr-index c.instr-item.result c.loop-instr-test.true c.instr-item.is in
    let there : IsThere (counts_of c.args.space c.loop-instr.held) c.instr-item.result = c.is_there.ensures.0 c.if-not-is_there.false in
    record {
      counted = λ arms o. counted_more c.args.code.now c.loop-instr.instr-index c.instr-item.result c.loop-instr.held at c.loop-instr.invariant.counted arms o ∙ sym c.open_after-held.ensures;
      few = few_more c.loop-instr.held c.loop-instr.instr-index c.instr-item.result c.open_after-held.result c.open_after-held.ensures c.loop-instr.invariant.few;
      there = there_more c.args.space c.args.code.now c.loop-instr.instr-index c.instr-item.result c.loop-instr.held at c.loop-instr.invariant.counted there c.loop-instr.invariant.there;
    }

pub returns : goal.returns
returns c = (
  λ t place i arms at o. c.loop-instr.invariant.there place i arms (let lt = slice_get_within c.args.code.now place i at in omega arith) at o,
  λ all. refl,
)
