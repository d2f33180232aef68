mod Assigning
pub mod EditedWellFormed
mod Spellings
mod Guesses
