pub mod Form
pub mod Value
