pub mod Lamp
pub mod Sample
pub mod Vxlan
