use Rattle.std.proofs.Common.{rules, refl, ap}
use Rattle.item_lines.proofs.Hears.{puts_ok, puts_failed, puts_lacks}
use Rattle.item_lines.specs.Telling.{IsHeard, NotPut, NoRoom, NoLine, EarFails, EarLacks}
use Rattle.item_lines.proofs.telling.tell.Goals as goal

pub returns-in-All-clause-told : goal.returns-in-All-clause-told
returns-in-All-clause-told g c = IsHeard (puts_ok _ _ _ _ c.in-Some-Ok.ensures c.in-Some-Ok.field-0-is) c.in-All.ensures.heard

pub returns-in-Failed-clause-told : goal.returns-in-Failed-clause-told
returns-in-Failed-clause-told g c = EarFails _ (puts_ok _ _ _ _ c.in-Some-Ok.ensures c.in-Some-Ok.field-0-is) c.in-Failed.ensures.heard

pub returns-in-NoMemory-clause-told : goal.returns-in-NoMemory-clause-told
returns-in-NoMemory-clause-told g c = EarLacks _ (puts_ok _ _ _ _ c.in-Some-Ok.ensures c.in-Some-Ok.field-0-is) c.in-NoMemory.ensures.heard

pub returns-in-Some-Failed-clause-told : goal.returns-in-Some-Failed-clause-told
returns-in-Some-Failed-clause-told g c = NotPut (puts_failed _ _ _ _ c.in-Some-Failed.ensures c.in-Some-Failed.field-0-is) refl

pub returns-in-Some-NoMemory-clause-told : goal.returns-in-Some-NoMemory-clause-told
returns-in-Some-NoMemory-clause-told g c = NoRoom (puts_lacks _ _ _ _ c.in-Some-NoMemory.ensures c.in-Some-NoMemory.field-0-is) refl

pub returns-in-None-clause-told : goal.returns-in-None-clause-told
returns-in-None-clause-told g c = NoLine (search rules)
