pub mod Gates
pub mod Adder
