pub mod Blocks
pub mod Bytes
pub mod Eight
pub mod Four
pub mod Lengths
pub mod Shifts
