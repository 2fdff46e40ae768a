pub mod ChangedCaches
pub mod WrittenNodes
pub mod PermittedChanges
pub mod Reasons
