pub mod Option
pub mod Laws
pub mod OptionOctets
