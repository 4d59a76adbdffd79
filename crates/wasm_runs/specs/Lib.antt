pub mod Blocks
pub mod Calling
pub mod Follows
