use Rattle.std.proofs.Common.{◌≡◌, ◌∷◌, [], List, false, length, All, subst, sym, ap, ◌∙◌, arith, refl}
use Rattle.cm_core.specs.Tree.{is_among}
use Rattle.graph_flat.specs.Paths.{IsShort, IsJump, leap}
use Rattle.graph_flat.specs.declared.paths.Path.{Path}
use Rattle.graph_flat.proofs.Leaps.{jumps_short, row_is, row_within, only_one, may_jump, one_jump, target_is}
use Rattle.graph_flat.proofs.wires.Wires.shorten.Goals as goal

pub leap-leap-requires-clause-short : goal.leap-leap-requires-clause-short
leap-leap-requires-clause-short c = subst (All IsShort) (sym c.deref.ensures.value) (jumps_short _ c.args.self.now c.requires.ready c.requires.few)

pub leap-leap-requires-clause-within : goal.leap-leap-requires-clause-within
leap-leap-requires-clause-within c =
    let w = c.args.self.now in
    let row = row_is _ w c.requires.ready c.args.end c.index-row.result.now c.requires.within c.index-row.ensures in
    let first = c.index-then-len-eq1.result.now in
    let one : c.index-row.result.now.items ≡ first ∷ [] = only_one c.index-row.result.now.items first (let l = c.len.ensures in let k = c.if-len-eq1.true in omega (arith, l, k)) c.index-then-len-eq1.ensures in
    let lt = row_within _ w c.requires.ready (record { 0 = c.args.end }) (first ∷ []) (sym one ∙ row) 0 first (omega arith) in
    let count = c.requires.ready.jumps_count in
    let len = c.deref.ensures.len in
    omega (arith, lt, count, len)

pub returns-then-len-eq1-clause-ready : goal.returns-then-len-eq1-clause-ready
returns-then-len-eq1-clause-ready c =
    let w = c.args.self.now in
    let row = row_is _ w c.requires.ready c.args.end c.index-row.result.now c.requires.within c.index-row.ensures in
    let first = c.index-then-len-eq1.result.now in
    let one : c.index-row.result.now.items ≡ first ∷ [] = only_one c.index-row.result.now.items first (let l = c.len.ensures in let k = c.if-len-eq1.true in omega (arith, l, k)) c.index-then-len-eq1.ensures in
    let t : is_among (record { 0 = c.args.end }) w.targets.items ≡ false = target_is _ w c.requires.ready c.args.end c.index.result.now false c.requires.within c.index.ensures c.if-not-index.true in
    let is = c.leap-leap.ensures.path ∙ ap (λ (js : List _). leap js first) c.deref.ensures.value in
    one_jump _ w c.requires.ready _ c.args.end c.leap-leap.result c.requires.within refl
    (subst (λ (y : Path). IsJump w.connections.items w.targets.items (length w.rows.items) c.requires.ready.rank (record { 0 = c.args.end }) y) (sym is) (may_jump _ w c.requires.ready (record { 0 = c.args.end }) first t (sym one ∙ row)))
