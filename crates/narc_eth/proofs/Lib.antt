pub mod HeaderLayout
pub mod ArpKind
pub mod ArpLayout
