use Rattle.std.proofs.Common.{◌≡◌, ◌∙◌, sym, subst, not, bytes_eq}
use Rattle.std.specs.List.{list_any}
use Rattle.std.specs.Result.{IfOk}
use Rattle.name_scopes.specs.Numbers.{texts_of, added}
use Rattle.name_scopes.proofs.NumberLemmas.{added-is, is_new}
use Rattle.name_scopes.proofs.names.Names.insert.Goals as goal
use Rattle.name_scopes.proofs.names.Names.insert.Goals.{in-Ok, in-Err}

pub returns-clause-new : goal.returns-clause-new
returns-clause-new c = elim c.match-insert_full.branch [
  | in-Ok w ↦ subst (λ r. IfOk r (λ b. b ≡ not (list_any (bytes_eq c.args.text.now) c.args.self.now))) (sym w.result-is)
      (w.in-Ok.ensures.added ∙ is_new c.self.inside.texts.keys c.args.self.now c.args.text.now c.self.view_is)
  | in-Err w ↦ subst (λ r. IfOk r (λ b. b ≡ not (list_any (bytes_eq c.args.text.now) c.args.self.now))) (sym w.result-is) tt
]

pub returns-clause-names : goal.returns-clause-names
returns-clause-names c = elim c.match-insert_full.branch [
  | in-Ok w ↦ subst (λ r. IfOk r (λ n. texts_of c.insert_full.new.self.keys ≡ added c.args.self.now c.args.text.now)) (sym w.result-is)
      (added-is c.self.inside.texts.keys c.insert_full.new.self.keys c.args.text c.args.self.now c.self.view_is w.in-Ok.ensures.keys)
  | in-Err w ↦ subst (λ r. IfOk r (λ n. texts_of c.insert_full.new.self.keys ≡ added c.args.self.now c.args.text.now)) (sym w.result-is) tt
]
