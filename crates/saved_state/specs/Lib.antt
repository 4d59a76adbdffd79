pub mod Applied
pub mod Finals
pub mod Reading
pub mod State
pub mod Version1
pub mod Version2
