pub mod Hearing
pub mod Lines
pub mod Telling
