pub mod Answer
pub mod Found
pub mod Moving
pub mod Scan
