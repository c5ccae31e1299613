pub mod Counted
pub mod Gated
pub mod Least
pub mod Reads
pub mod Views
pub mod Within
