pub mod Takes
pub mod Formats
pub mod Tails
pub mod Reading
pub mod Fronts
pub mod Widths
