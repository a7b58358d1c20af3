pub mod Program
pub mod Value
pub mod Entry
pub mod Promise
