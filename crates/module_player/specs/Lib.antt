pub mod Coming
pub mod Cursors
pub mod Emitting
pub mod Given
pub mod Playing
pub mod Rooms
pub mod Telling
pub mod Writing
