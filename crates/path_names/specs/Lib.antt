pub mod Found
pub mod Ids
pub mod Walking
pub mod Rising
