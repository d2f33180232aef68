pub mod Change
pub mod Patched
pub mod Room
pub mod Laws
