pub use Rattle.qx_fields.specs.Number
pub use Rattle.qx_geom.specs.Area
pub mod Checksum
pub mod RootNode
pub mod Superblock
pub mod Written
pub mod Active
