pub mod Indices
pub mod Slots
