pub mod BlocksComeAndGo
pub mod EntriesComeAndGo
pub mod EntryMaps
pub mod OrderedEntries
