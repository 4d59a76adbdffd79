pub mod Samples
pub mod Reading
pub mod Fault
