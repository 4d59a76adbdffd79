pub mod Blocks
pub mod Lowered
pub mod Orderly
pub mod Views
