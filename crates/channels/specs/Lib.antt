pub mod Lamps
pub mod Channels
