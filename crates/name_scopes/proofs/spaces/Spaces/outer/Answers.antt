use Rattle.std.proofs.Common.{◌≡◌, ◌∙◌, ◌-◌, suc, arith, sym}
use Rattle.name_scopes.proofs.SpaceLemmas.{whole-outer, inner-outer, no-outer}
use Rattle.name_scopes.proofs.spaces.Spaces.outer.Goals as goal

pub returns-then-number-eq0 : goal.returns-then-number-eq0
returns-then-number-eq0 c = whole-outer c.self.inside.openings.keys c.args.self.now c.args.number c.self.invariant c.self.view_is c.if-number-eq0.true

pub returns-in-None : goal.returns-in-None
returns-in-None c =
    let f = c.if-number-eq0.false in
    absurd (no-outer c.self.inside.openings.keys c.args.self.now c.args.number (c.args.number - 1) c.self.invariant c.self.view_is (omega (arith, f)) c.requires (sym (c.in-None.ensures ∙ c.get_index.ensures.key)))

pub returns-in-Some : goal.returns-in-Some
returns-in-Some c =
    let f = c.if-number-eq0.false in
    inner-outer c.self.inside.openings.keys c.args.self.now c.args.number (c.args.number - 1) _ c.self.invariant c.self.view_is (omega (arith, f)) (sym (c.in-Some.ensures ∙ c.get_index.ensures.key))
