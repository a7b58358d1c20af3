pub mod Masks
pub mod Odd
pub mod Trips
mod Sums
pub mod Promises
