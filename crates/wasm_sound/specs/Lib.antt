pub mod Kinds
pub mod Sound
pub mod Reached
pub mod Governed
pub mod Rooms
