use Rattle.std.proofs.Common.{[], ◌∷◌, refl, sym, subst}
use Rattle.cm_base.specs.Parts.{Init, Begin}
use Rattle.module_player.specs.declared.came.Came.{Came}
use Rattle.module_player.specs.Playing.{Playing, playing, ComesOf}
use Rattle.module_player.proofs.PartsPlayed.{init_comes}
use Rattle.module_player.proofs.player.Player.init.Goals as goal

pub returns-clause-comes : goal.returns-clause-comes
returns-clause-comes g c =
    let p : Playing = playing c.self.inside.runner c.self.inside.steps c.self.inside.given.current in
    let q : Playing = playing c.call_part-ended.new.runner c.self.inside.steps c.self.inside.given.current in
    let comes = init_comes {T = g.row.T.Denot} g.T.Teller.tells p q c.args.teller.now c.call_part-ended.result c.call_part-ended.new.teller refl c.call_part-ended.ensures.told in
    subst (λ (x : Playing). ComesOf {Teller = g.row.T.Denot} g.T.Teller.tells x (Begin Init ∷ []) c.args.teller.now c.came_of.result q c.call_part-ended.new.teller) c.self.view_is
    (subst (λ (came : Came). ComesOf {Teller = g.row.T.Denot} g.T.Teller.tells p (Begin Init ∷ []) c.args.teller.now came q c.call_part-ended.new.teller) (sym c.came_of.ensures) comes)
