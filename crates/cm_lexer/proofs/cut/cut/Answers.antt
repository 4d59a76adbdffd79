use Rattle.std.proofs.Common.{◌≡◌, ◌+◌, ◌<◌, ◌≤◌, ◌∷◌, [], ◌++◌, List, length, ℕ, take, drop, fold, refl, sym, ap, subst, ◌∙◌, length-drop, append-nil, arith}
use Rattle.cm_base.specs.declared.cause.Cause.{Cause}
use Rattle.cm_base.specs.declared.failure.Fail.TheVariants.{Refused as IsRefused}
use Rattle.cm_base.specs.declared.place.Place.{Place}
use Rattle.cm_tree.specs.declared.token.Token.{Token as Lexeme}
use Rattle.cm_tree.specs.Pieces.{Piece, Gap, Token, Fault}
use Rattle.cm_tree.specs.Tokens.{IsLexFault, with_token, bytes_of}
use Rattle.cm_lexer.specs.declared.pen.Pen.{Pen}
use Rattle.cm_lexer.specs.declared.piece.Piece.{Piece as Answered}
use Rattle.cm_lexer.specs.declared.piece.Piece.TheVariants as piece
use Rattle.cm_base.specs.Answers.{IfRefused}
use Rattle.cm_lexer.specs.Answer.{IsLexRefusal}
use Rattle.cm_lexer.specs.Found.{Gives, FitsIn}
use Rattle.cm_lexer.specs.Moving.{moved}
use Rattle.cm_lexer.specs.Scan.{found, scan}
use Rattle.cm_lexer.proofs.Cutting.{Reached, starts, goes_on, reached_tokens, reached_fault, reached_room, starts_near, token_at, is_next}
use Rattle.std.proofs.lemmas.List.{length-take-le}
use Rattle.cm_lexer.proofs.cut.cut.Goals as goal
use Rattle.cm_lexer.proofs.cut.cut.Goals.{in-Gap, in-Token+in_ok-push-in-Token}

pub loop-rest-init : goal.loop-rest-init
loop-rest-init c = record {
  reached = starts c.args.file c.args.bytes.now c.new-list.result c.new-pen.result c.new-list.ensures c.new-pen.ensures;
  room = omega (arith, ap (λ (p : Pen). p.offset) c.new-pen.ensures);
  near = starts_near c.args.file c.new-pen.result c.new-pen.ensures;
}

pub returns-in-Fault-clause-refused : goal.returns-in-Fault-clause-refused
returns-in-Fault-clause-refused c =
    let rest = c.loop-rest.rest.now in
    let cause = c.in-Fault.cause in
    let at = c.in-Fault.at in
    let some : 1 ≤ length rest = grind arith in
    let is : (scan rest).piece ≡ Fault cause at = subst (λ (p : Answered). Gives p (scan rest)) c.in-Fault.is c.in_ok-len.ensures.value in
    let place : c.past.result.place ≡ fold moved c.loop-rest.pen.place (take at rest) = c.past.ensures.place ∙ ap (fold moved c.loop-rest.pen.place) c.split_at.ensures.front in
    let fault = reached_fault c.args.file c.args.bytes.now rest c.loop-rest.list c.loop-rest.pen cause at c.past.result.place c.loop-rest.invariant.reached some is place in
    rw c.refused.ensures (record { fault = fault; cycle = refl })

pub loop-rest-preserved : goal.loop-rest-preserved
loop-rest-preserved c =
    let rest = c.loop-rest.rest.now in
    let pen = c.loop-rest.pen in
    let next = c.past-pen.result in
    let reached = c.loop-rest.invariant.reached in
    let before = bytes_of reached.parts in
    let some : 1 ≤ length rest = grind arith in
    let front = c.split_at-in-loop-rest.ensures.front in
    let back = c.split_at-in-loop-rest.ensures.back in
    let len = c.split_at-in-loop-rest.ensures.front_len in
    elim c.match-branch-2.branch [
      | in-Gap w ↦
          let n = w.in-Gap.len in
          let is : scan rest ≡ found Gap n = subst (λ (p : Answered). Gives p (scan rest)) w.in-Gap.is c.in_ok-len.ensures.value in
          let place : next.place ≡ fold moved pen.place (take n rest) = c.past-pen.ensures.place ∙ ap (fold moved pen.place) (front ∙ ap (λ (m : ℕ). take m rest) w.len-is) in
          let offset : next.offset ≡ pen.offset + n = omega (arith, c.past-pen.ensures.offset, len, w.len-is) in
          let more = goes_on c.args.file c.args.bytes.now rest c.loop-rest.list c.loop-rest.list pen next Gap n reached some is tt (sym (append-nil c.loop-rest.list)) place offset in
          record {
            reached = rw (w.list-is, back, w.len-is) more;
            room = rw (back, w.len-is) (reached_room c.args.file c.args.bytes.now (drop n rest) c.loop-rest.list next more);
            near = c.past-pen.ensures.near;
          }
      | in-Token+in_ok-push-in-Token w ↦
          let n = w.in-Token.len in
          let kind = w.in-Token.kind in
          let is : scan rest ≡ found (Token kind) n = subst (λ (p : Answered). Gives p (scan rest)) w.in-Token.is c.in_ok-len.ensures.value in
          let place : next.place ≡ fold moved pen.place (take n rest) = c.past-pen.ensures.place ∙ ap (fold moved pen.place) (front ∙ ap (λ (m : ℕ). take m rest) w.len-is) in
          let offset : next.offset ≡ pen.offset + n = omega (arith, c.past-pen.ensures.offset, len, w.len-is) in
          let pushed : c.match-branch-2.list ≡ c.loop-rest.list ++ with_token c.args.file before (Token kind) (take n rest) [] =
          w.list-is ∙ w.in_ok-push-in-Token.ensures.ok ∙ ap (λ (l : List Lexeme). c.loop-rest.list ++ l) (token_at c.args.file before (take n rest) kind pen n reached.offset reached.place (length-take-le n rest (is_next rest (Token kind) n some is).within)) in
          let more = goes_on c.args.file c.args.bytes.now rest c.loop-rest.list c.match-branch-2.list pen next (Token kind) n reached some is tt pushed place offset in
          record {
            reached = rw (back, w.len-is) more;
            room = rw (back, w.len-is) (reached_room c.args.file c.args.bytes.now (drop n rest) c.match-branch-2.list next more);
            near = c.past-pen.ensures.near;
          }
    ]

pub returns-clause-found : goal.returns-clause-found
returns-clause-found c = reached_tokens c.args.file c.args.bytes.now c.loop-rest.rest.now c.loop-rest.list c.loop-rest.pen c.loop-rest.invariant.reached (grind arith) c.requires.utf8
