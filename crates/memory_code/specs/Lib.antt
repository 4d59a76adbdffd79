pub mod Parts
pub mod Copies
pub mod Views
pub mod Fits
