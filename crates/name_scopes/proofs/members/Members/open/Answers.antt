use Rattle.std.proofs.Common.{Ok, Err}
use Rattle.std.proofs.lemmas.Result.{err_from_is_err_and}
use Rattle.name_scopes.specs.Members.{part_of}
use Rattle.name_scopes.proofs.AddLemmas.{adds-err}
use Rattle.name_scopes.proofs.OpenLemmas.{opened-adds}
use Rattle.std.proofs.Common.{[], ◌∷◌, ℕ}
use Rattle.name_scopes.proofs.members.Members.open.Goals as goal

pub returns-in_err-declare-clause-adds : goal.returns-in_err-declare-clause-adds
returns-in_err-declare-clause-adds c =
    let p = err_from_is_err_and c.from_residual-in_err-declare.result c.from_residual-in_err-declare.ensures.1 in
    rw (p.1, p.2) (adds-err (Unit {0}) ℕ c.args.self.now c.declare.new.self c.declare.new.self (part_of c.args.self.now.spaces c.args.space c.args.place c.args.text.now ∷ []) c.in_err-declare.field-0.0
    (opened-adds {A = Unit {0}} c.self.inside.spaces c.open.new.self c.self.inside.names c.self.inside.firsts.entries c.args.self.now c.declare.new.self c.args.space c.in_ok-inner.inner c.args.place c.args.text (Err c.in_err-declare.field-0.0)
    c.self.invariant c.self.view_is c.requires c.in_ok-inner.ensures.spaces c.in_ok-inner.ensures.number c.in_err-declare.ensures.adds))

pub returns-clause-adds : goal.returns-clause-adds
returns-clause-adds c = opened-adds {A = Unit {0}} c.self.inside.spaces c.open.new.self c.self.inside.names c.self.inside.firsts.entries c.args.self.now c.declare.new.self c.args.space c.in_ok-inner.inner c.args.place c.args.text (Ok tt)
    c.self.invariant c.self.view_is c.requires c.in_ok-inner.ensures.spaces c.in_ok-inner.ensures.number c.in_ok-declare.ensures.adds
