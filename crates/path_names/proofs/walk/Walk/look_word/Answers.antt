use Rattle.std.proofs.Common.{refl, ◌≡◌, ◌++◌, ◌∷◌, []}
use Rattle.cm_meaning.specs.Sites.{path_of_word}
use Rattle.scope_walk.proofs.StepLemmas.{ok-map}
use Rattle.path_names.specs.declared.id.Use.{Use}
use Rattle.path_names.specs.Walking.{Looks}
use Rattle.path_names.proofs.StandLemmas.{looks, word-is}
use Rattle.path_names.proofs.walk.Walk.look_word.Goals as goal

pub returns-clause-looks : goal.returns-clause-looks
returns-clause-looks c =
    let u : Use = record { place = c.args.word.now.place; id = c.find_first-id.result } in
    ok-map c.push.result (c.push.new.self ≡ c.args.self.now.uses ++ u ∷ []) (Looks c.args.self.now (record c.args.self.now { uses = c.push.new.self }) (path_of_word c.args.word.now))
    (λ grown. looks c.args.self.now u c.push.new.self (path_of_word c.args.word.now) grown refl
    (λ s xs found h. word-is s xs c.args.word.now c.as_str.result.now c.find_first-id.result c.as_str.ensures (c.find_first-id.ensures s xs found h))) c.push.ensures.ok
