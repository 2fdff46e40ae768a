pub use Rattle.qx_outside.specs.Calls
pub use Rattle.qx_pointers.specs.Shown
pub mod Verdicts
