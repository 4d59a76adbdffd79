use Rattle.std.proofs.Common.{◌<◌, ◌∙◌, Some, ap, sym, subst, length, option_map}
use Rattle.cm_meaning.specs.Scopes.{outward}
use Rattle.name_scopes.specs.Members.{IsNumberOf, names_of}
use Rattle.name_scopes.proofs.FindLemmas.{fewer-outer, number-here, outward-past, scopes_from, scopes-outer}
use Rattle.name_scopes.proofs.members.Members.find_outward.Goals as goal

pub returns-in-Some-find : goal.returns-in-Some-find
returns-in-Some-find c =
    let same = c.loop-inner.invariant.same ∙ ap (λ o. outward c.args.text.now (scopes_from c.args.self.now o)) c.in-Some.is in
    subst (IsNumberOf (names_of c.args.self.now) (Some c.in-Some-find.found)) (sym same) (number-here c.args.self.now c.in-Some.number c.in-Some-find.found c.args.text.now c.in-Some-find.ensures)

pub loop-inner-smaller : goal.loop-inner-smaller
loop-inner-smaller c = subst (λ o. length (scopes_from c.args.self.now c.outer-inner.result) < length (scopes_from c.args.self.now o)) (sym c.in-Some.is)
    (fewer-outer c.args.self.now c.in-Some.number c.outer-inner.result (scopes-outer c.args.self.now c.in-Some.number c.outer-inner.result c.outer-inner.ensures))

pub loop-inner-preserved : goal.loop-inner-preserved
loop-inner-preserved c =
    let h = scopes-outer c.args.self.now c.in-Some.number c.outer-inner.result c.outer-inner.ensures in
    record {
      below = h.below;
      same = c.loop-inner.invariant.same ∙ ap (λ o. outward c.args.text.now (scopes_from c.args.self.now o)) c.in-Some.is
          ∙ outward-past c.args.self.now c.in-Some.number c.outer-inner.result c.args.text.now c.in_default-find.ensures h;
    }

pub returns : goal.returns
unfolding outward
returns c = ap (option_map Some) (sym (c.loop-inner.invariant.same ∙ ap (λ o. outward c.args.text.now (scopes_from c.args.self.now o)) c.in_default.is))
