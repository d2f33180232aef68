pub mod Payloads
pub mod MadeWellFormed
pub mod Trials
