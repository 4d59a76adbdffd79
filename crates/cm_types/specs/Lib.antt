pub mod Lawful
pub mod Meant
