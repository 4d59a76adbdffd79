pub mod Steps
pub mod Meant
pub mod Bodies
