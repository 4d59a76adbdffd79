pub mod Bytes
pub mod Held
pub mod Places
pub mod Views
