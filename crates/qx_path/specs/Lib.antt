pub mod Names
pub mod NamesLeft
pub mod PathParts
pub mod PathView
