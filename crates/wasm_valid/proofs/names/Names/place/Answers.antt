use Rattle.wasm_valid.proofs.NameLemmas.{place_there, untold}
use Rattle.wasm_valid.specs.Texts.{TellsPlaces}
use Rattle.std.proofs.Common.{sym, subst}
use Rattle.wasm_valid.proofs.names.Names.place.Goals as goal

pub returns-in-Some-clause-found : goal.returns-in-Some-clause-found
returns-in-Some-clause-found c = place_there c.args.self.now c.args.name.now c.self.inside.places c.in-Some.at.now (subst (λ names. TellsPlaces names c.self.inside.places) c.self.view_is c.self.invariant.0) (sym c.in-Some.ensures.value)

pub returns-in-None-clause-absent : goal.returns-in-None-clause-absent
returns-in-None-clause-absent c = λ none. untold c.args.self.now c.args.name.now c.self.inside.places (subst (λ names. TellsPlaces names c.self.inside.places) c.self.view_is c.self.invariant.0) (sym c.in-None.ensures.value)
