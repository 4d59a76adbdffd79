pub mod Faults
pub mod Folders
pub mod Rows
pub mod Texts
