pub mod Texts
pub mod Rows
pub mod Promises
