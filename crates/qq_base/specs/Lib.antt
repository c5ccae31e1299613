pub mod Causes
pub mod Fields
pub mod Fronts
pub mod Ids
