pub mod Area
pub mod Lists
pub mod Pointer
pub mod Layout
pub mod Positions
pub mod Touch
pub mod Room
