pub mod Decimals
pub mod Refusals
pub mod Separated
pub mod DigitLanes
pub mod HexDigits
pub mod HexTexts
pub mod WordParts
pub mod FlagWords
mod OptionNames
pub mod OptionParts
pub mod OptionLoops
pub mod BlockLoops
pub mod SamePackets
pub mod WordsApart
pub mod PacketWords
pub mod PacketsApart
pub mod LineWords
