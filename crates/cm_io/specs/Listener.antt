-- The answers of a listener, each with a fact that stands with it.
use Rattle.cm_io.specs.declared.listener.Heard.{Heard}
use Rattle.cm_io.specs.declared.listener.Heard.TheVariants.{On, Failed, NoMemory}

-- a fact where an item was heard
abbrev pub OnHeard : Heard → Type 0 → Type 0
OnHeard On P = P
OnHeard Failed P = Unit {0}
OnHeard NoMemory P = Unit {0}

-- a fact where an item failed
abbrev pub OnHearFailed : Heard → Type 0 → Type 0
OnHearFailed On P = Unit {0}
OnHearFailed Failed P = P
OnHearFailed NoMemory P = Unit {0}

-- a fact where an item lacked memory
abbrev pub OnHearNoMemory : Heard → Type 0 → Type 0
OnHearNoMemory On P = Unit {0}
OnHearNoMemory Failed P = Unit {0}
OnHearNoMemory NoMemory P = P
