pub mod Lawful
pub mod Parts
