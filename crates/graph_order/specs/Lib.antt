pub mod Before
pub mod Order
pub mod Cycle
pub mod Edges
