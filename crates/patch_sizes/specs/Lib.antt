pub mod PatchSizes
pub mod Sizes
pub mod Splits
pub mod StmtSizes
