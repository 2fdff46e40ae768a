pub mod Nodes
pub mod Plans
pub mod Batches
pub mod Fittings
pub mod Changes
pub mod PutNodes
