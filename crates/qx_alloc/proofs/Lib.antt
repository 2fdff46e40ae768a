pub mod FreeBlocks
pub mod SpaceSteps
pub mod UserBlocks
