mod Leaves
mod Returned
pub mod Runs
mod Steady
