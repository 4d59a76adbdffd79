pub mod Loops
pub mod Inverses
pub mod Locality
pub mod Parts
pub mod Turns
