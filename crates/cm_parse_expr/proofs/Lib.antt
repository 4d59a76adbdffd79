pub mod Reach
pub mod Turns
pub mod Next
pub mod Complete
pub mod Sound
pub mod Faults
pub mod Types
mod Kept
mod Starting
mod Public
