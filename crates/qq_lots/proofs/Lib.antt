pub mod Between
pub mod Counts
pub mod Each
pub mod Finds
pub mod Writes
