pub mod WordValues
pub mod Assignments
pub mod Edited
pub mod Ranges
