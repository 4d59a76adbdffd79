pub mod Shape
pub mod Files
pub mod Formed
pub mod Grown
pub mod Known
pub mod Sized
pub mod Steps
pub mod Words
