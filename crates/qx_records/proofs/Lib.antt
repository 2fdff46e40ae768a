pub mod RecordLists
pub mod WrittenRecords
pub mod WrittenInodes
