mod Scan
pub mod Alike
pub mod Promises
