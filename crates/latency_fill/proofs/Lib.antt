pub mod Sources
pub mod Summing
pub mod Passes
pub mod Fitting
