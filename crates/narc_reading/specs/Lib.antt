pub mod Parts
pub mod Reading
pub mod OptionParts
pub mod Digits
pub mod Readable
pub mod Laws
