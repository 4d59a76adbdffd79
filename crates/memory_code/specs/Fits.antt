-- Addresses in instructions.
use Rattle.std.specs.Prelude.{◌<◌, ◌^◌}
use Rattle.memory_code.specs.declared.address.Address.{Address}
use Rattle.memory_code.specs.declared.address.Address.TheVariants as a

-- a fixed address is below 2^31, as memory is
abbrev pub IsAddress : Address → Type 0
IsAddress (a.Behind local offset) = Unit {0}
IsAddress (a.Fixed address) = address < 2 ^ 31
