pub mod Looks
pub mod Answers
pub mod Walks
pub mod Turns
pub mod NamedPaths
pub mod Places
