use Rattle.std.proofs.Common.{◌≡◌, sym, subst, Some, slice_get}
use Rattle.std.specs.Result.{IfOk}
use Rattle.name_scopes.specs.Numbers.{texts_of, added, number_in}
use Rattle.name_scopes.proofs.NumberLemmas.{added-is, number-first, numbered}
use Rattle.name_scopes.proofs.names.Names.number.Goals as goal
use Rattle.name_scopes.proofs.names.Names.number.Goals.{in-Ok, in-Err}

pub returns-clause-number : goal.returns-clause-number
returns-clause-number c = elim c.match-insert_full.branch [
  | in-Ok w ↦ subst (λ r. IfOk r (λ n. slice_get (texts_of c.insert_full.new.self.keys) n ≡ Some c.args.text.now)) (sym w.result-is)
      (numbered c.insert_full.new.self.keys w.in-Ok.number c.args.text w.in-Ok.ensures.stored)
  | in-Err w ↦ subst (λ r. IfOk r (λ n. slice_get (texts_of c.insert_full.new.self.keys) n ≡ Some c.args.text.now)) (sym w.result-is) tt
]

pub returns-clause-first : goal.returns-clause-first
returns-clause-first c = elim c.match-insert_full.branch [
  | in-Ok w ↦ subst (λ r. IfOk r (λ n. number_in (texts_of c.insert_full.new.self.keys) c.args.text.now ≡ Some n)) (sym w.result-is)
      (number-first c.self.inside.texts.keys c.insert_full.new.self.keys c.args.text w.in-Ok.number w.in-Ok.ensures.keys w.in-Ok.ensures.index w.in-Ok.ensures.within)
  | in-Err w ↦ subst (λ r. IfOk r (λ n. number_in (texts_of c.insert_full.new.self.keys) c.args.text.now ≡ Some n)) (sym w.result-is) tt
]

pub returns-clause-names : goal.returns-clause-names
returns-clause-names c = elim c.match-insert_full.branch [
  | in-Ok w ↦ subst (λ r. IfOk r (λ n. texts_of c.insert_full.new.self.keys ≡ added c.args.self.now c.args.text.now)) (sym w.result-is)
      (added-is c.self.inside.texts.keys c.insert_full.new.self.keys c.args.text c.args.self.now c.self.view_is w.in-Ok.ensures.keys)
  | in-Err w ↦ subst (λ r. IfOk r (λ n. texts_of c.insert_full.new.self.keys ≡ added c.args.self.now c.args.text.now)) (sym w.result-is) tt
]
