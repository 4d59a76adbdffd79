pub mod NumberLemmas
pub mod FoundLemmas
pub mod StandLemmas
pub mod RisingLemmas
pub mod PatchLemmas
