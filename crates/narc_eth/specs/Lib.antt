pub mod EthernetHeader
pub mod ArpPacket
pub mod Laws
