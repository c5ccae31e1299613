pub mod Faults
pub mod FolderYard
pub mod Lines
pub mod MemYard
pub mod Memory
pub mod Shelf
pub mod Streams
pub mod Yard
