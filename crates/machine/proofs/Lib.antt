pub mod Cycles
pub mod Unread
pub mod Seven
pub mod Promises
pub mod Bytes
pub mod Fenced
