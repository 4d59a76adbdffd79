pub mod Answer
pub mod Form
pub mod Phases
pub mod Reading
pub mod Spans
