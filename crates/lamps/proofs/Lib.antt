pub mod Cells
pub mod Chain
pub mod Told
pub mod Rows
pub mod Lit
pub mod Promises
