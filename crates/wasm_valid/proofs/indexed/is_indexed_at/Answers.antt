use Rattle.std.proofs.Common.{rules, ◌≡◌, ◌+◌, ℕ, length, get_or, sym, subst}
use Rattle.std.specs.Prelude.{slice_get, Some}
use Rattle.wasm_tree.specs.declared.module.FuncType.{FuncType}
use Rattle.wasm_tree.specs.declared.module.FuncBody.{FuncBody}
use Rattle.wasm_tree.specs.Numbers.{type_at}
use Rattle.wasm_tree.specs.Spelled.{count_of_locals}
use Rattle.wasm_valid.specs.declared.index.Space.{Space}
use Rattle.wasm_valid.proofs.SpaceLemmas.{NamesThere, indexed_here, names_here}
use Rattle.wasm_valid.proofs.indexed.is_indexed_at.Goals as goal

pub returns : goal.returns
returns c =
    let m = c.args.«module».now in
    let type : FuncType = c.body_type-ty.result.now in
    let body : FuncBody = c.index-as_slice-at.result in
    let space : Space = record { functions = c.len.result + 1; locals = length c.as_slice-2.result.now + c.count_locals.result; globals = c.len-2.result } in
    let e : body ≡ get_or m.codes c.args.at body = search rules in
    let functions : c.len.result + 1 ≡ length m.functions + 1 = search rules in
    let locals : length c.as_slice-2.result.now + c.count_locals.result ≡ length type.params + count_of_locals body.locals = search rules in
    let globals : c.len-2.result ≡ length m.globals = search rules in
    let code : c.as_slice-4.result.now ≡ body.code = search rules in
    let same : (t : ℕ) → slice_get m.functions c.args.at ≡ Some t → type ≡ type_at m t = c.body_type-ty.ensures in (
      λ t. indexed_here m c.args.at type body space c.requires.import c.requires.memory same c.requires.there e functions locals globals (subst (NamesThere space) code (c.is_indexed.ensures.0 t)),
      λ at. c.is_indexed.ensures.1 (subst (NamesThere space) (sym code) (names_here m c.args.at type body space c.requires.import c.requires.memory same c.requires.there e functions locals globals c.requires.counts at)),
    )
