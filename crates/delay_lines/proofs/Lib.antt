pub mod Lines
pub mod Reductions
pub mod Typing
pub mod Whole
pub mod Rows
