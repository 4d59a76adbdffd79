use Rattle.std.proofs.Common.{◌≡◌, ◌+◌, ◌<◌, Bool, Vec, subst, true, false, sym, ap, ◌∙◌, arith, length, get_or}
use Rattle.std.proofs.Math.ListN.{length-set}
use Rattle.std.proofs.lemmas.List.{get_or_default}
use Rattle.std.specs.Global.{Global}
use Rattle.cm_core.specs.declared.program.End.{End}
use Rattle.cm_core.specs.Tree.{end_at}
use Rattle.graph_flat.specs.declared.paths.Path.{Path}
use Rattle.graph_flat.specs.Shared.{is_value}
use Rattle.graph_flat.proofs.Apart.{Seen, seen_value, seen_other, got, got_within}
use Rattle.graph_flat.proofs.sharing.shared_value.Goals as goal
use Rattle.graph_flat.proofs.sharing.shared_value.Goals.{then-is_value+else-index, else-is_value}

pub loop-path-preserved : goal.loop-path-preserved
loop-path-preserved c =
    let p = c.args.program.now in
    let xs = c.args.paths.now in
    let i = c.loop-path.path-index in
    let none : Path = record { from = record { 0 = 0 }; to = record { 0 = 0 }; delay = 0; first = record { file = 0; line = 0; column = 0 }; last = record { file = 0; line = 0; column = 0 } } in
    let y : Path = get_or xs i none in
    let at = got xs i none c.loop-path-test.true in
    let kind : is_value (end_at p y.to).kind ≡ is_value c.end.result.now.kind = ap (λ (e : End). is_value e.kind) (sym c.end.ensures) in
    let count : length c.loop-path.taken.items ≡ length p.ends = c.loop-path.invariant.count in
    elim c.if-is_value.branch [
      | then-is_value+else-index w ↦
          let within : y.to.0 < length c.loop-path.taken.items = (let l = c.requires i none c.loop-path-test.true in omega (arith, l, count)) in
          let off : get_or c.loop-path.taken.items y.to.0 false ≡ false = get_or_default c.loop-path.taken.items y.to.0 false w.index.result.now within ∙ sym w.index.ensures ∙ w.if-index.false in
          record {
            count = ap (λ (ts : Vec Bool Global). length ts.items) w.taken-is ∙ length-set c.loop-path.taken.items y.to.0 true ∙ count;
            seen = subst (λ (ts : Vec Bool Global). Seen p xs (i + 1) ts.items) (sym w.taken-is)
                (seen_value p xs i c.loop-path.taken.items y c.loop-path.invariant.seen at (kind ∙ sym w.if-is_value.ensures) within off);
          }
      | else-is_value w ↦ record {
        count = ap (λ (ts : Vec Bool Global). length ts.items) w.taken-is ∙ count;
        seen = subst (λ (ts : Vec Bool Global). Seen p xs (i + 1) ts.items) (sym w.taken-is)
            (seen_other p xs i c.loop-path.taken.items y c.loop-path.invariant.seen at (kind ∙ sym w.if-is_value.ensures));
      }
    ]

pub returns : goal.returns
returns c = λ one other x y lt a b. c.loop-path.invariant.seen.apart one other x y lt (let w = got_within c.args.paths.now other y b in let e = c.loop-path-test.false in omega (arith, w, e)) a b
