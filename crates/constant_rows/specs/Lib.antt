pub mod Lawful
pub mod Names
