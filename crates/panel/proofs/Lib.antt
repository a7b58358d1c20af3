pub mod Calls
pub mod Decks
pub mod Trips
pub mod Promises
pub mod Traps
pub mod Buttons
