pub mod Sound
pub mod Widths
