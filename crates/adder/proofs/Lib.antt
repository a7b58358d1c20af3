pub mod Gates
pub mod Laws
pub mod Promises
