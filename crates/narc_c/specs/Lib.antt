pub mod Verdict
pub mod Seen
pub mod Places
pub mod Edits
