pub mod CountedWords
pub mod FirstAbsent
pub mod MembersInWords
pub mod SetUnion
pub mod UnitedWords
pub mod BytesOfWords
