mod ControlLemmas
pub mod Imports
pub mod Offsets
pub mod PrefixCodes
pub mod SectionCodes
pub mod Refusals
