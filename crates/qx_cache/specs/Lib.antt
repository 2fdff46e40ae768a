pub mod CacheState
pub mod Coherence
pub mod CacheView
pub mod Calls
pub mod ChangedKeys
pub mod Edits
