pub mod Fields
pub mod Held
pub mod Lists
pub mod Widening
