pub mod Bytes
pub mod Sizes
pub mod Reading
pub mod Writing
pub mod Back
