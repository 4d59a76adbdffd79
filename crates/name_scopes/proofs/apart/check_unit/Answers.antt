use Rattle.std.proofs.Common.{flat_map, [], Ok, Err, refl}
use Rattle.std.proofs.lemmas.Result.{err_from_is_err_and}
use Rattle.name_scopes.specs.Apart.{param_words, member_words, unit_words}
use Rattle.cm_meaning.specs.NameRows.{words_of}
use Rattle.cm_meaning.specs.Scopes.{unit_names}
use Rattle.name_scopes.proofs.ApartLemmas.{keeps-then, keeps-more, keeps-at}
use Rattle.name_scopes.proofs.ExactLemmas.{exactly-repeated, words-unit}
use Rattle.name_scopes.proofs.apart.check_unit.Goals as goal

pub returns-in_err-keep_params : goal.returns-in_err-keep_params
returns-in_err-keep_params c = λ space.
    let p = err_from_is_err_and c.from_residual.result c.from_residual.ensures.1 in
    rw (p.1, p.2) (exactly-repeated (unit_words c.args.unit.now) (words_of (unit_names space c.args.unit.now)) (Err c.in_err-keep_params.field-0.0) [] (words-unit space c.args.unit.now)
    (keeps-more [] c.keep_params.new.names [] (flat_map param_words c.args.unit.now.params) (flat_map member_words c.args.unit.now.members) c.in_err-keep_params.field-0.0
    (keeps-at param_words c.new-names.result [] c.keep_params.new.names c.as_slice.result.now c.args.unit.now.params (Err c.in_err-keep_params.field-0.0) c.new-names.ensures c.as_slice.ensures
    c.in_err-keep_params.ensures)))

pub returns : goal.returns
returns c = λ space. exactly-repeated (unit_words c.args.unit.now) (words_of (unit_names space c.args.unit.now)) c.keep_members.result c.keep_members.new.names (words-unit space c.args.unit.now)
    (keeps-then [] c.keep_params.new.names c.keep_members.new.names (flat_map param_words c.args.unit.now.params) (flat_map member_words c.args.unit.now.members) c.keep_members.result
    (keeps-at param_words c.new-names.result [] c.keep_params.new.names c.as_slice.result.now c.args.unit.now.params (Ok tt) c.new-names.ensures c.as_slice.ensures c.in_ok-keep_params.ensures)
    (keeps-at member_words c.keep_params.new.names c.keep_params.new.names c.keep_members.new.names c.as_slice-2.result.now c.args.unit.now.members c.keep_members.result refl c.as_slice-2.ensures
    c.keep_members.ensures))
