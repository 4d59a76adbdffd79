use Rattle.std.proofs.Common.{refl, ◌≡◌, ◌++◌, ◌∷◌, []}
use Rattle.scope_walk.proofs.StepLemmas.{ok-map}
use Rattle.path_names.specs.declared.id.Use.{Use}
use Rattle.path_names.specs.Walking.{Looks}
use Rattle.path_names.proofs.StandLemmas.{looks}
use Rattle.path_names.proofs.walk.Walk.look.Goals as goal

pub returns-clause-looks : goal.returns-clause-looks
returns-clause-looks c =
    let u : Use = record { place = c.args.path.now.place; id = c.find_path-id.result } in
    ok-map c.push.result (c.push.new.self ≡ c.args.self.now.uses ++ u ∷ []) (Looks c.args.self.now (record c.args.self.now { uses = c.push.new.self }) c.args.path.now)
    (λ grown. looks c.args.self.now u c.push.new.self c.args.path.now grown refl c.find_path-id.ensures) c.push.ensures.ok
