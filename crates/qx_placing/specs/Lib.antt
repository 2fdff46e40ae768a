pub mod PlannedEdits
pub mod WrittenLeaves
pub mod MovedNodes
pub mod Placed
pub mod Resized
