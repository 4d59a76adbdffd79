pub mod Parsers
pub mod Lists
pub mod Local
