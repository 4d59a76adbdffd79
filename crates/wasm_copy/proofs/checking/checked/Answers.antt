use Rattle.std.proofs.Common.{sym, subst}
use Rattle.wasm_tree.specs.Valid.{Valid}
use Rattle.wasm_copy.proofs.checking.checked.Goals as goal

pub returns-in-Err-clause-only : goal.returns-in-Err-clause-only
returns-in-Err-clause-only c = λ m section spelled valid. c.in-Err.ensures.only m spelled

pub returns-in-Err-validate-clause-only : goal.returns-in-Err-validate-clause-only
returns-in-Err-validate-clause-only c =
    λ m section spelled valid. c.in-Err-validate.ensures.complete section (subst (λ n. Valid n section) (sym (c.in-Ok.ensures.only m spelled)) valid)
