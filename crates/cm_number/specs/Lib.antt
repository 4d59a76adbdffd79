pub mod Conversion
pub mod Division
pub mod Shift
pub mod Bitwise
