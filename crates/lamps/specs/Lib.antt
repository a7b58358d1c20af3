pub mod Columns
pub mod Line
pub mod Picture
pub mod Rows
pub mod Walk
pub mod Ending
