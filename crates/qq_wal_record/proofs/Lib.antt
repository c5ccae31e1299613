mod FieldLaws
mod HeaderLaws
mod Lengths
pub mod Marks
mod Numbers
mod Places
mod RecordLaws
