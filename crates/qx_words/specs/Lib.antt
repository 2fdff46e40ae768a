pub mod ByteWords
pub mod Numbers
pub mod Commands
pub mod Lines
pub mod Reading
pub mod Texts
pub mod Scripts
