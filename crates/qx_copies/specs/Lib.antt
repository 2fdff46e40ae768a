pub mod Copies
pub mod Shown
pub mod Standing
pub mod ImageCopies
pub mod Examples
