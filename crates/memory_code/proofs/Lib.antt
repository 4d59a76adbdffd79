pub mod Bytes
pub mod Copying
pub mod Whole
pub mod Typing
