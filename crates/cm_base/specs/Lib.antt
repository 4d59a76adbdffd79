pub mod Answers
pub mod HostEnds
pub mod Parts
pub mod Players
pub mod Scripts
pub mod Tasks
