pub mod Turns
pub mod Isolation
pub mod Adding
pub mod Promises
