use Rattle.std.proofs.Common.{rules, [], refl, sym, true≢false}
use Rattle.saved_state.proofs.Codes.{AreBytes}
use Rattle.saved_state.proofs.Whole.{whole_found, none_where_more, none_where_early, same_read, early}
use Rattle.saved_state.proofs.version_2.read_version_2.Goals as goal

pub returns-then-is_at_end-clause-found : goal.returns-then-is_at_end-clause-found
returns-then-is_at_end-clause-found c =
    let all : AreBytes c.args.bytes.now = search rules in
    whole_found c.args.bytes.now c.in-Ok.state all (same_read c.args.bytes.now c.new-cursor.result c.in-Ok.state c.state.new.cursor [] c.new-cursor.ensures (c.if-is_at_end.ensures.0 refl) c.in-Ok.ensures)

pub returns-else-is_at_end-clause-refused : goal.returns-else-is_at_end-clause-refused
returns-else-is_at_end-clause-refused c =
    let h = same_read c.args.bytes.now c.new-cursor.result c.in-Ok.state c.state.new.cursor c.state.new.cursor c.new-cursor.ensures refl c.in-Ok.ensures in
    rw c.no_state.ensures (refl, none_where_more c.args.bytes.now c.in-Ok.state c.state.new.cursor h (λ none. true≢false (sym (c.if-is_at_end.ensures.1 none))))

pub returns-in-Err-Early-clause-refused : goal.returns-in-Err-Early-clause-refused
returns-in-Err-Early-clause-refused c =
    rw c.no_state-in-Err-Early.ensures (refl, none_where_early c.args.bytes.now (early c.args.bytes.now c.new-cursor.result c.in-Err-Early.field-0 c.new-cursor.ensures c.in-Err-Early.field-0-is c.in-Err-Early.ensures))
