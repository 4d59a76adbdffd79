-- Acts: what takes a world and the turns that are left, and gives a value with both, or finds no turn left.
use Rattle.std.specs.Prelude.{ℕ, zero, suc}
use Rattle.cm_core.specs.World.{World}

-- a value with the world and the turns that are left, or the world in which a turn was missing
pub data Given (A : Type 0) : Type 0 where
  Gives : (value : A) → (world : World) → (turns : ℕ) → Given A
  Short : (world : World) → Given A

abbrev pub Act : Type 0 → Type 0
Act A = World → ℕ → Given A

-- the value of an act that is done for what it does
pub data Done : Type 0 where
  done : Done

abbrev pub bind : {A B : Type 0} → Given A → (A → Act B) → Given B
bind (Gives value world turns) go = go value world turns
bind (Short world) go = Short world

-- one act, and then another with its value
abbrev pub andthen : {A B : Type 0} → Act A → (A → Act B) → Act B
andthen first go = λ world turns. bind (first world turns) go

abbrev pub after : {A : Type 0} → Act Done → Act A → Act A
after first go = andthen first (λ _. go)

abbrev pub gives : {A : Type 0} → A → Act A
gives value = λ world turns. Gives value world turns

abbrev pub look : {A : Type 0} → (World → A) → Act A
look view = λ world turns. Gives (view world) world turns

abbrev pub change : (World → World) → Act Done
change step = λ world turns. Gives done (step world) turns

abbrev pub quiet : {A : Type 0} → Act A → Act Done
quiet act = andthen act (λ _. gives done)

abbrev pub none_left : {A : Type 0} → Act A
none_left = λ world turns. Short world

-- a body is begun with one turn
abbrev pub begin : {A : Type 0} → Act A → Act A
begin body world zero = Short world
begin body world (suc turns) = body world turns
