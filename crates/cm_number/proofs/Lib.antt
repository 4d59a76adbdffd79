pub mod Public
mod Modulus
mod Conversions
mod Ranges
mod Divisions
mod Shifts
mod Opcodes
mod Results
mod Calls
mod Rows
