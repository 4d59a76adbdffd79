pub mod Bytes
pub mod Hosts
pub mod Rules
pub mod Runs
pub mod Stops
pub mod Types
