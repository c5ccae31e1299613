pub mod Ahead
pub mod Encoding
pub mod Mark
pub mod Marked
pub mod Reading
pub mod Record
