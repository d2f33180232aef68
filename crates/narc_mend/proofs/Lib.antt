pub mod MendedSums
pub mod Differences
pub mod Holes
