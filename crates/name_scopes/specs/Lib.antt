pub mod Numbers
pub mod Stacks
pub mod Apart
pub mod Openings
pub mod Members
