pub mod Manifest
pub mod SourceName
