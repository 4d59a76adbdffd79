use Rattle.cm_meaning.specs.Declared.{Struct, Using}
use Rattle.cm_meaning.specs.PatchSites.{constant_sites, shared_sites, struct_sites}
use Rattle.cm_meaning.specs.Scopes.{declared, inside_of}
use Rattle.cm_meaning.specs.Sites.{expr_sites, type_sites}
use Rattle.scope_walk.proofs.StepLemmas.{one-part}
use Rattle.std.proofs.Common.{ap, flat_map, sym, ◌∙◌}
use Rattle.declaration_walk.proofs.shared.walk_shared.Goals as goal

pub returns-in-Struct : goal.returns-in-Struct
returns-in-Struct c = one-part c.args.steps.now c.walk_struct_text.new.steps (λ r. struct_sites (inside_of r (declared r.home c.in-Struct.name (Struct c.in-Struct.place c.as_slice.result.now))) c.as_slice.result.now) (λ r. shared_sites r c.args.shared.now) c.walk_struct_text.result
    (λ r. ap (shared_sites r) c.in-Struct.is ∙ ap (λ z. struct_sites (inside_of r (declared r.home c.in-Struct.name (Struct c.in-Struct.place z))) z) (sym c.as_slice.ensures)) c.walk_struct_text.ensures

pub returns-in-Using : goal.returns-in-Using
returns-in-Using c = one-part c.args.steps.now c.walk_using_text.new.steps (λ r. type_sites (inside_of r (declared r.home c.in-Using.name (Using c.in-Using.ty))) c.in-Using.ty) (λ r. shared_sites r c.args.shared.now) c.walk_using_text.result
    (λ r. ap (shared_sites r) c.in-Using.is) c.walk_using_text.ensures

pub returns-in-Let : goal.returns-in-Let
returns-in-Let c = one-part c.args.steps.now c.walk_constants.new.steps (λ r. flat_map (constant_sites r) c.as_slice-in-Let.result.now) (λ r. shared_sites r c.args.shared.now) c.walk_constants.result (λ r. ap (shared_sites r) c.in-Let.is ∙ ap (flat_map (constant_sites r)) (sym c.as_slice-in-Let.ensures)) c.walk_constants.ensures

pub returns-in-Assert : goal.returns-in-Assert
returns-in-Assert c = one-part c.args.steps.now c.walk_expr.new.steps (λ r. expr_sites r c.in-Assert.assert.condition) (λ r. shared_sites r c.args.shared.now) c.walk_expr.result (λ r. ap (shared_sites r) c.in-Assert.is) c.walk_expr.ensures
