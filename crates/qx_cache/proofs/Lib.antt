pub mod BlockPlaces
pub mod Spaces
pub mod CoherentSteps
pub mod OrderSteps
pub mod BlockMeanings
pub mod BlockReads
pub mod FrozenWrites
