pub mod Every
pub mod SameEnds
pub mod Once
pub mod Sides
pub mod Owned
pub mod Trees
pub mod NamesApart
