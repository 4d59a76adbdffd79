pub mod Build
pub mod Example
pub mod Through
