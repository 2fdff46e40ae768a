pub mod Links
pub mod States
pub mod Standing
