pub mod Ranges
pub mod Values
pub mod Preserved
pub mod Bounded
pub mod Reaching
