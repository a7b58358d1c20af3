pub mod Opening
pub mod Turn
pub mod Boards
pub mod Isolation
pub mod Adding
