pub mod FoundRows
pub mod FirstRows
pub mod WrittenRows
