pub mod SetInodes
pub mod RecordEdits
pub mod NameEdits
pub mod LinkEdits
pub mod PutContents
pub mod NewDirectories
pub mod UnnumberedEntries
pub mod RowSteps
