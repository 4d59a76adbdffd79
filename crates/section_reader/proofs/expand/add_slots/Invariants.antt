use Rattle.std.proofs.Common.{◌≡◌, ◌++◌}
use Rattle.std.specs.Prelude.{map}
use Rattle.section_reader.specs.Raw.{end_of}
use Rattle.section_reader.proofs.expand.add_slots.Given as goal

abbrev pub invariant-loop-raw : goal.invariant-loop-raw
invariant-loop-raw l = record {
  ends : l.host ≡ l.fn.host ++ map end_of l.yielded;
  addresses : l.addresses ≡ l.fn.addresses ++ map (λ raw. raw.address) l.yielded;
}
