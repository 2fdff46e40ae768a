pub use Rattle.qx_outside.specs.Calls
pub use Rattle.qx_blockset.specs.Members
pub use Rattle.qx_view.specs.Walk
pub mod Shown
pub mod Halts
pub mod Marks
pub mod Parts
pub mod Passage
