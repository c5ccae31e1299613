pub mod Faults
pub mod Moved
pub mod Moving
