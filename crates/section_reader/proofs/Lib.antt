pub mod ReadingLaws
pub mod RawLaws
pub mod PlaceLaws
