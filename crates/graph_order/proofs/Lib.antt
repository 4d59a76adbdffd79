pub mod Between
pub mod Placing
pub mod Cycles
pub mod Unique
