pub mod Packets
pub mod Units
