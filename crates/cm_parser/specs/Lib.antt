pub mod Parts
pub mod StmtStarts
pub mod DeclStarts
pub mod Answer
