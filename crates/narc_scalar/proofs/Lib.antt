pub mod Words
pub mod FixedOctets
pub mod Flags
