pub mod Block
pub mod Lesson
pub mod Readings
pub mod Words
