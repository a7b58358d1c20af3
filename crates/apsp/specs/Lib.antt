pub mod Program
pub mod Numbers
pub mod Entry
pub mod Promise
