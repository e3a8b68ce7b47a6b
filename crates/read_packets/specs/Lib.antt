pub mod Packets
pub mod Pair
