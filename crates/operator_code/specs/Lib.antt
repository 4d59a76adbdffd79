pub mod Operands
pub mod Operators
pub mod Conversions
pub mod Promises
