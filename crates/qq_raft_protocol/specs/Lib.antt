pub mod Example
pub mod Facts
pub mod Moves
pub mod Safe
pub mod Starts
pub mod World
