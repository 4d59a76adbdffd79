pub mod StepLemmas
pub mod LocalLemmas
pub mod ScopeLemmas
