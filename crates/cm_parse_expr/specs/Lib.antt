pub mod Reading
pub mod Starts
pub mod Tallness
pub mod Answer
