pub mod Signed
pub mod Trips
