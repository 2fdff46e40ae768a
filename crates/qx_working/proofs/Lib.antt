pub mod LaidNodes
pub mod SetLinks
