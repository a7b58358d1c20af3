pub mod Inside
pub mod Promises
