pub mod Description
pub mod SectionSizes
pub mod Size
pub mod Spelling
