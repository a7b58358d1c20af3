pub mod Sources
pub mod Branch
pub mod Status
pub mod Cycle
pub mod Unread
pub mod Seven
pub mod Fenced
