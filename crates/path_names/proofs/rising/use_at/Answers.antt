use Rattle.std.proofs.Common.{◌-◌, ◌<◌, ◌≤◌, arith, get_or, length, sym, None}
use Rattle.std.proofs.lemmas.Option.{slice_get-get_or}
use Rattle.path_names.specs.declared.id.Use.{Use}
use Rattle.path_names.proofs.RisingLemmas.{none-there, only-one, read-before, read-here}
use Rattle.path_names.proofs.rising.use_at.Goals as goal

pub returns-then-past-eq0-clause-there : goal.returns-then-past-eq0-clause-there
returns-then-past-eq0-clause-there c = λ k u here same. absurd (none-there c.args.uses.now c.args.place c.first_past-past.result c.requires (λ x some at. let e = c.if-past-eq0.true in absurd (omega (arith, some, e)))
    c.first_past-past.ensures.behind c.first_past-past.ensures.within k u here same)

pub returns-then-is_before-clause-there : goal.returns-then-is_before-clause-there
returns-then-is_before-clause-there c =
    let d : Use = record { place = record { file = 0; line = 0; column = 0 }; id = None } in
    λ k u here same. absurd (none-there c.args.uses.now c.args.place c.first_past-past.result c.requires
    (λ x some at. read-before c.args.uses.now (c.first_past-past.result - 1) d x c.args.place (sym c.if-is_before.ensures) at) c.first_past-past.ensures.behind c.first_past-past.ensures.within k u here same)

pub returns-else-is_before-clause-there : goal.returns-else-is_before-clause-there
returns-else-is_before-clause-there c =
    let d : Use = record { place = record { file = 0; line = 0; column = 0 }; id = None } in
    let n = c.first_past-past.result in
    let f = c.if-past-eq0.false in
    let within : n ≤ length c.args.uses.now = c.first_past-past.ensures.within in
    let some : 0 < n = omega (arith, f) in
    λ k u here same. only-one c.args.uses.now c.args.place (n - 1) (get_or c.args.uses.now (n - 1) d) c.requires (slice_get-get_or c.args.uses.now (n - 1) d (omega (arith, some, within)))
    (read-here c.args.uses.now n d c.args.place some within c.first_past-past.ensures.before (sym c.if-is_before.ensures)) k u here same

pub returns-else-is_before-clause-none : goal.returns-else-is_before-clause-none
returns-else-is_before-clause-none c =
    let d : Use = record { place = record { file = 0; line = 0; column = 0 }; id = None } in
    let n = c.first_past-past.result in
    let f = c.if-past-eq0.false in
    let within : n ≤ length c.args.uses.now = c.first_past-past.ensures.within in
    let some : 0 < n = omega (arith, f) in
    λ none. absurd (none (n - 1) (get_or c.args.uses.now (n - 1) d) (slice_get-get_or c.args.uses.now (n - 1) d (omega (arith, some, within)))
    (read-here c.args.uses.now n d c.args.place some within c.first_past-past.ensures.before (sym c.if-is_before.ensures)))
