pub mod Trips
pub mod Promises
