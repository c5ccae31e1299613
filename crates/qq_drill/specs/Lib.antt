pub mod Draw
pub mod Drill
