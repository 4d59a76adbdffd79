use Rattle.std.proofs.Common.{◌-◌, arith}
use Rattle.cm_parse_expr.proofs.Starting.{arg_none, arg_at}
use Rattle.cm_parse_expr.proofs.written.read_arg.Goals as goal

pub returns-then-room-eq0 : goal.returns-then-room-eq0
returns-then-room-eq0 c = arg_none c.args.room c.args.tokens.now (omega arith)

pub returns : goal.returns
returns c = rw (arg_at c.args.room (c.args.room - 1) c.args.tokens.now (omega arith)) c.arg_one.ensures
