use Rattle.std.proofs.Common.{ap, sym, subst, Some, option_map}
use Rattle.cm_meaning.specs.Scopes.{outward}
use Rattle.name_scopes.specs.Members.{IsNumberOf}
use Rattle.path_names.proofs.NumberLemmas.{scopes-found, scopes-none}
use Rattle.path_names.proofs.look.find_local.Goals as goal

pub returns-in-None : goal.returns-in-None
returns-in-None c = λ locals scopes h. ap (option_map Some) (sym (scopes-none c.args.names.now locals c.args.text.now c.args.table.now.scopes scopes (sym c.in-None.ensures) h))

pub returns-in-Some : goal.returns-in-Some
returns-in-Some c = λ locals scopes h. subst (λ o. IsNumberOf locals o (outward c.args.text.now scopes)) (sym c.find-in-Some.ensures)
    (scopes-found c.args.names.now locals c.args.text.now c.in-Some.name c.args.table.now.scopes scopes (sym c.in-Some.ensures) h)
