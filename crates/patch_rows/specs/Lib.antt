pub mod Faultless
pub mod Measured
pub mod Programs
pub mod Readings
pub mod Source
pub mod Told
