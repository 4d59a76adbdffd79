use Rattle.std.proofs.Common.{rules, ◌∙◌, ap, arith, [], ◌∷◌, ◌++◌}
use Rattle.std.proofs.lemmas.List.{get_or_default}
use Rattle.name_scopes.proofs.StackLemmas.{stacked-left, stacked-undo, stacked-skip, outer-declared, outer-entered, outer-none}
use Rattle.name_scopes.proofs.table.undo.Goals as goal

pub returns-in-None-clause-outer : goal.returns-in-None-clause-outer
returns-in-None-clause-outer c = outer-none c.args.log.now c.pop.new.self c.in-None.ensures.0 c.in-None.ensures.1

pub returns-in-Some-Entered-clause-stacked : goal.returns-in-Some-Entered-clause-stacked
returns-in-Some-Entered-clause-stacked c = stacked-left c.args.stacks.now.items c.args.log.now c.pop.new.self c.requires
    (c.in-Some-Entered.ensures ∙ ap (λ s. c.pop.new.self ++ s ∷ []) c.in-Some-Entered.field-0-is)

pub returns-in-Some-Entered-clause-outer : goal.returns-in-Some-Entered-clause-outer
returns-in-Some-Entered-clause-outer c = outer-entered c.args.log.now c.pop.new.self
    (c.in-Some-Entered.ensures ∙ ap (λ s. c.pop.new.self ++ s ∷ []) c.in-Some-Entered.field-0-is)

pub returns-then-entry-len-clause-stacked : goal.returns-then-entry-len-clause-stacked
returns-then-entry-len-clause-stacked c =
    stacked-undo c.args.stacks.now.items c.args.log.now c.pop.new.self c.in-Some-Declared.entry c.pop-then-entry-len.new.self c.index_mut.result.now c.pop-then-entry-len.result
    c.requires (search rules)
    (c.in-Some-Declared.ensures ∙ ap (λ s. c.pop.new.self ++ s ∷ []) (c.in-Some-Declared.field-0-is))
    (c.index_mut.ensures.value ∙ get_or_default c.args.stacks.now.items c.in-Some-Declared.entry.name c.index_mut.result.now [] (search rules))
    c.pop-then-entry-len.ensures

pub returns-then-entry-len-clause-outer : goal.returns-then-entry-len-clause-outer
returns-then-entry-len-clause-outer c = outer-declared c.args.log.now c.pop.new.self c.in-Some-Declared.entry
    (c.in-Some-Declared.ensures ∙ ap (λ s. c.pop.new.self ++ s ∷ []) c.in-Some-Declared.field-0-is)

pub returns-else-entry-len-clause-stacked : goal.returns-else-entry-len-clause-stacked
returns-else-entry-len-clause-stacked c = stacked-skip c.args.stacks.now.items c.args.log.now c.pop.new.self c.in-Some-Declared.entry c.requires
    (omega (arith, c.if-entry-len.false, c.len.ensures))
    (c.in-Some-Declared.ensures ∙ ap (λ s. c.pop.new.self ++ s ∷ []) c.in-Some-Declared.field-0-is)

pub returns-else-entry-len-clause-outer : goal.returns-else-entry-len-clause-outer
returns-else-entry-len-clause-outer c = outer-declared c.args.log.now c.pop.new.self c.in-Some-Declared.entry
    (c.in-Some-Declared.ensures ∙ ap (λ s. c.pop.new.self ++ s ∷ []) c.in-Some-Declared.field-0-is)
