pub mod Blocks
pub mod NewVolume
pub mod Superblocks
pub mod Stages
pub mod Cut
pub mod Make
