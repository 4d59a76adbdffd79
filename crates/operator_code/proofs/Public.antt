-- The lemmas that other crates may cite, one for each clause of the laws but for those on straight code.
pub use Rattle.operator_code.proofs.Operating.{operator_does}
pub use Rattle.operator_code.proofs.Shifting.{shifts_do, divisions_do, unary_does}
pub use Rattle.operator_code.proofs.Converting.{conversion_turns}
pub use Rattle.operator_code.proofs.Typing.{shift_typed, unary_typed, conversion_typed}
