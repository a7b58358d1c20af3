pub mod Adds
pub mod Broken
pub mod Two
