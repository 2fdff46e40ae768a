pub use Rattle.qx_bytes.specs.Ranges
pub mod Number
