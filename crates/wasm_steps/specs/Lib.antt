pub mod Steps
pub mod Windows
pub mod Example
pub mod Laws
