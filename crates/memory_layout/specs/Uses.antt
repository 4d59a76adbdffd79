-- What an expression is used as, and what it counts without its parts.
use Rattle.std.specs.Prelude.{ℕ, ◌+◌, Bool, true, false, ◌&&◌, if◌then◌else◌}
use Rattle.cm_core.specs.Sizes as sizes
use Rattle.cm_core.specs.Code.{Expr, Constant}
use Rattle.memory_layout.specs.declared.used.Used.{Used}
use Rattle.memory_layout.specs.declared.used.Used.TheVariants as u

abbrev pub use_of : Used → sizes.Use
use_of u.Value = sizes.AsValue
use_of (u.Place moving) = sizes.AsPlace moving

-- whether it is the name of a constant
abbrev pub names_constant : Expr → Bool
names_constant (Constant c) = true
names_constant _ = false

-- by its scalars, whether it is a place, and whether it is the name of a constant
abbrev pub own_of : ℕ → sizes.Use → Bool → Bool → ℕ
own_of n sizes.AsValue place constant = 1 + n
own_of n (sizes.AsPlace moving) place constant = if moving && constant then 1 + n else (if place then 1 else 1 + n)
