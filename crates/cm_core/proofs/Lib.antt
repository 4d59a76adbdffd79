mod Build
mod Rows
mod CodeRows
mod SizeRows
mod LawfulRows
pub mod Steady
pub mod Runs
pub mod Depth
pub mod Keeps
pub mod Deep
pub mod Typed
pub mod Leveled
mod UnitRows
pub mod Leaves
mod LawfulUnit
pub mod Cases
mod ForwardRows
