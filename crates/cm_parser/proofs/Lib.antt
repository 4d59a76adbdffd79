mod Nexts
mod StmtStarts
mod DeclStarts
pub mod FileLemmas
