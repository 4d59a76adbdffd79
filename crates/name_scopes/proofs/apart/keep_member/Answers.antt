use Rattle.std.proofs.Common.{ap, refl}
use Rattle.name_scopes.specs.Apart.{member_words}
use Rattle.name_scopes.proofs.ApartLemmas.{keeps-none}
use Rattle.name_scopes.proofs.apart.keep_member.Goals as goal

pub returns-in-Handler : goal.returns-in-Handler
returns-in-Handler c = keeps-none c.args.names.now c.args.names.now (member_words c.args.member.now) (ap member_words c.in-Handler.is) refl

pub returns-in-Latency : goal.returns-in-Latency
returns-in-Latency c = keeps-none c.args.names.now c.args.names.now (member_words c.args.member.now) (ap member_words c.in-Latency.is) refl

pub returns-in-Connection : goal.returns-in-Connection
returns-in-Connection c = keeps-none c.args.names.now c.args.names.now (member_words c.args.member.now) (ap member_words c.in-Connection.is) refl
