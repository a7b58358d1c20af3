pub mod Layout
pub mod Parity
pub mod Word
