pub mod Words
pub mod Simples
pub mod Stmts
pub mod Members
pub mod Files
