pub mod Context
pub mod Udp
pub mod Tcp
pub mod Segment
pub mod Written
pub mod Laws
pub mod Parts
