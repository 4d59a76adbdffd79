use Rattle.std.proofs.Common.{◌≡◌, length, drop, Ok, Err, refl, ap, arith}
use Rattle.cm_tree.specs.Faults.{place_of}
use Rattle.cm_tree.specs.ExprFaults.{IsExprFault}
use Rattle.cm_parse_expr.specs.Reading.{expr}
use Rattle.cm_parse_expr.proofs.Faults.{refused}
use Rattle.cm_parse_expr.proofs.Public.{left_in, found_at, only_at, none_at}
use Rattle.cm_parse_expr.proofs.parse.parse_expr.Goals as goal

pub overflow_sub-result : goal.overflow_sub-result
overflow_sub-result c =
    let is : c.new-cursor.result ≡ drop c.args.from c.args.tokens.now.list = cc in
    let reads : expr 256 (drop c.args.from c.args.tokens.now.list) ≡ Ok (c.in-Ok.found, c.read_expr.new.tokens) = rw (← is) c.in-Ok.ensures in
    omega (arith, left_in c.args.tokens.now.list c.args.from c.in-Ok.found c.read_expr.new.tokens reads, c.left.ensures, ap length c.as_slice-list.ensures)

pub returns-in-Ok-clause-found : goal.returns-in-Ok-clause-found
returns-in-Ok-clause-found c =
    let is : c.new-cursor.result ≡ drop c.args.from c.args.tokens.now.list = cc in
    let reads : expr 256 (drop c.args.from c.args.tokens.now.list) ≡ Ok (c.in-Ok.found, c.read_expr.new.tokens) = rw (← is) c.in-Ok.ensures in
    found_at c.args.tokens.now.list c.args.from c.in-Ok.found c.read_expr.new.tokens _ reads
    (omega (arith, left_in c.args.tokens.now.list c.args.from c.in-Ok.found c.read_expr.new.tokens reads, c.left.ensures, ap length c.as_slice-list.ensures))

pub returns-in-Ok-clause-only : goal.returns-in-Ok-clause-only
returns-in-Ok-clause-only c = λ whole other.
    let is : c.new-cursor.result ≡ drop c.args.from c.args.tokens.now.list = cc in
    let reads : expr 256 (drop c.args.from c.args.tokens.now.list) ≡ Ok (c.in-Ok.found, c.read_expr.new.tokens) = rw (← is) c.in-Ok.ensures in
    only_at c.args.tokens.now.list c.args.from c.in-Ok.found c.read_expr.new.tokens _ whole reads
    (omega (arith, left_in c.args.tokens.now.list c.args.from c.in-Ok.found c.read_expr.new.tokens reads, c.left.ensures, ap length c.as_slice-list.ensures)) other

pub returns-in-Err-Here-clause-only : goal.returns-in-Err-Here-clause-only
returns-in-Err-Here-clause-only c = λ whole other.
    let is : c.new-cursor.result ≡ drop c.args.from c.args.tokens.now.list = cc in
    let refuses : expr 256 c.new-cursor.result ≡ Err c.read_expr.new.tokens = rw c.in-Err-Here.field-0-is at c.in-Err-Here.ensures in
    absurd (none_at c.args.tokens.now.list c.args.from c.read_expr.new.tokens whole (rw (← is) refuses) other)

pub returns-in-Err-Here-clause-refused : goal.returns-in-Err-Here-clause-refused
returns-in-Err-Here-clause-refused c =
    let is : c.new-cursor.result ≡ drop c.args.from c.args.tokens.now.list = cc in
    let refuses : expr 256 c.new-cursor.result ≡ Err c.read_expr.new.tokens = rw c.in-Err-Here.field-0-is at c.in-Err-Here.ensures in
    let fault : IsExprFault 256 (drop c.args.from c.args.tokens.now.list) c.args.tokens.now.last (place_of c.args.tokens.now.last c.read_expr.new.tokens) =
    refused 256 (drop c.args.from c.args.tokens.now.list) c.read_expr.new.tokens c.args.tokens.now.last (rw (← is) refuses) in
    rw c.refused.ensures (record { cause = refl; cycle = refl; fault = rw c.place_or.ensures fault })
