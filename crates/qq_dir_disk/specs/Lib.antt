pub mod Faults
pub mod Folder
pub mod Handles
pub mod Name
