pub mod OptionSound
pub mod AreaSound
pub mod Spellings
pub mod OptionOctets
pub mod AreaRead
pub mod Areas
