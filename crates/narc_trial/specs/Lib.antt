pub mod Made
pub mod Hurt
pub mod Trying
pub mod Counting
