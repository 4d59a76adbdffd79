use Rattle.module_build.proofs.ThroughBuild.{keeps_form, pages, writable, if_ok_along}
use Rattle.module_build.proofs.pass.build_through.Goals as goal

pub returns-clause-keeps : goal.returns-clause-keeps
returns-clause-keeps c =
    if_ok_along _ _ _ _ _ c.through.ensures (keeps_form _ _ _ c.requires.distinct c.in_ok-described.ensures.spelled)

pub returns-clause-writable : goal.returns-clause-writable
returns-clause-writable c = if_ok_along _ _ _ _ _ c.through.ensures (writable _ c.in_ok-described.ensures.short)

pub returns-clause-pages : goal.returns-clause-pages
returns-clause-pages c = if_ok_along _ _ _ _ _ c.through.ensures (pages c.in_ok-described.described _ _)
