pub mod Sequences
pub mod Measures
pub mod Gaps
