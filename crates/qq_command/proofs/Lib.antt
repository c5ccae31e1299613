mod Numbers
mod FieldLaws
mod CommandLaws
mod ShortEncodings
mod EntryLaws
mod FieldLengths
pub mod EntriesLaws
