pub mod Made
pub mod PutBytes
pub mod Edited
