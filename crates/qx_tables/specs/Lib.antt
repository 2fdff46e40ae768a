pub use Rattle.qx_blockset.specs.Members
pub use Rattle.qx_pointers.specs.Shown
pub use Rattle.qx_pointers.specs.Halts
pub use Rattle.qx_pointers.specs.Parts
pub use Rattle.qx_view.specs.Walk
pub mod Tables
