mod Operating
mod Shifting
mod Converting
mod Typing
pub mod Public
