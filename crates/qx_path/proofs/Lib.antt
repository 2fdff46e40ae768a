pub mod FirstNames
pub mod JoinedNames
pub mod NamesOfPaths
