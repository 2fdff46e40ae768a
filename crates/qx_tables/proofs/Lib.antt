pub mod FilledLeaves
pub mod KeptNames
pub mod LeafLists
pub mod LeafRuns
pub mod ListedInodes
pub mod LongLeaves
pub mod TableBytes
