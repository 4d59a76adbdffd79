pub mod Belongs
pub mod Ends
pub mod Found
pub mod OfKinds
pub mod OfSettings
pub mod OfStreams
pub mod Rows
pub mod Steps
