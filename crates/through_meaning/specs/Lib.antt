pub mod Parts
pub mod Patches
