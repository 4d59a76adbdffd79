pub mod Rings
pub mod Code
pub mod Promises
