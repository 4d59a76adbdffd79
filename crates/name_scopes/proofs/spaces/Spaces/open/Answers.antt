use Rattle.std.proofs.Common.{◌≡◌, sym, subst, Some, slice_get}
use Rattle.std.specs.Result.{IfOk}
use Rattle.name_scopes.specs.Openings.{inner, spaces_of, with_space, AreRooted}
use Rattle.name_scopes.proofs.SpaceLemmas.{spaces-after, number-after}
use Rattle.name_scopes.proofs.spaces.Spaces.open.Goals as goal
use Rattle.name_scopes.proofs.spaces.Spaces.open.Goals.{in-Ok, in-Err}

pub invariant_of-self : goal.invariant_of-self
invariant_of-self c = elim c.match-insert_full.branch [
  | in-Ok w ↦ (spaces-after c.self.inside.openings.keys c.insert_full.new.self.keys c.args.self.now (c.args.space, c.args.name) c.self.invariant c.self.view_is c.requires w.in-Ok.ensures.keys).0
  | in-Err w ↦ subst (λ z. AreRooted z (spaces_of z)) (sym w.in-Err.ensures.err) c.self.invariant
]

pub returns-clause-number : goal.returns-clause-number
returns-clause-number c = elim c.match-insert_full.branch [
  | in-Ok w ↦ subst (λ r. IfOk r (λ n. slice_get (spaces_of c.insert_full.new.self.keys) n ≡ Some (inner c.args.self.now c.args.space c.args.name.now))) (sym w.result-is)
      (let after = spaces-after c.self.inside.openings.keys c.insert_full.new.self.keys c.args.self.now (c.args.space, c.args.name) c.self.invariant c.self.view_is c.requires w.in-Ok.ensures.keys in
      number-after c.insert_full.new.self.keys c.args.self.now (c.args.space, c.args.name) w.in-Ok.place after.0 after.1 c.requires w.in-Ok.ensures.stored)
  | in-Err w ↦ subst (λ r. IfOk r (λ n. slice_get (spaces_of c.insert_full.new.self.keys) n ≡ Some (inner c.args.self.now c.args.space c.args.name.now))) (sym w.result-is) tt
]

pub returns-clause-spaces : goal.returns-clause-spaces
returns-clause-spaces c = elim c.match-insert_full.branch [
  | in-Ok w ↦ subst (λ r. IfOk r (λ _. spaces_of c.insert_full.new.self.keys ≡ with_space c.args.self.now (inner c.args.self.now c.args.space c.args.name.now))) (sym w.result-is)
      (spaces-after c.self.inside.openings.keys c.insert_full.new.self.keys c.args.self.now (c.args.space, c.args.name) c.self.invariant c.self.view_is c.requires w.in-Ok.ensures.keys).1
  | in-Err w ↦ subst (λ r. IfOk r (λ _. spaces_of c.insert_full.new.self.keys ≡ with_space c.args.self.now (inner c.args.self.now c.args.space c.args.name.now))) (sym w.result-is) tt
]
