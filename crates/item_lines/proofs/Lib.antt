pub mod Hears
pub mod Tracing
