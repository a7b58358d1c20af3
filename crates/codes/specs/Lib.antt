pub mod Reading
pub mod Branches
pub mod Status
pub mod Modelled
pub mod Seven
