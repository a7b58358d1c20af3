pub mod Runs
pub mod Goes
pub mod Promises
pub mod Divided
pub mod Quiet
pub mod Unread
pub mod Seven
