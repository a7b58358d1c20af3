pub mod Figures
pub mod Typed
