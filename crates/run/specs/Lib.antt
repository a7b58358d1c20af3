pub mod Run
pub mod Divided
pub mod Unread
pub mod Seven
