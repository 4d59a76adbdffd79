use Rattle.std.proofs.Common.{◌≡◌, subst, rules}
use Rattle.wasm_valid.specs.declared.exports.Found.TheVariants as found
use Rattle.wasm_valid.specs.Exported.{TellsFunction, TellsFunctions}
use Rattle.wasm_valid.proofs.ExportLemmas.{missing_now, other_stays, same_and}
use Rattle.wasm_valid.proofs.exports.Found.with_one.Goals as goal

pub returns-in-Missing-one : goal.returns-in-Missing-one
returns-in-Missing-one c = λ m ws w all one.
    let is : c.args.one ≡ found.Missing = search rules in
    missing_now m ws w (subst (λ f. TellsFunction m w f) is one)

pub returns-in-Other-one : goal.returns-in-Other-one
returns-in-Other-one c = λ m ws w all one.
    let before : c.args.self ≡ found.Other = search rules in
    let is : c.args.one ≡ found.Other = search rules in
    other_stays m ws w c.args.one (λ missing. cc (is, missing)) (subst (λ f. TellsFunctions m ws f) before all) one

pub returns-in-Same-one : goal.returns-in-Same-one
returns-in-Same-one c = λ m ws w all one.
    let before : c.args.self ≡ found.Other = search rules in
    let is : c.args.one ≡ found.Same = search rules in
    other_stays m ws w c.args.one (λ missing. cc (is, missing)) (subst (λ f. TellsFunctions m ws f) before all) one

pub returns-in-Same : goal.returns-in-Same
returns-in-Same c = λ m ws w all one.
    let before : c.args.self ≡ found.Same = search rules in
    same_and m ws w c.args.one (subst (λ f. TellsFunctions m ws f) before all) one
