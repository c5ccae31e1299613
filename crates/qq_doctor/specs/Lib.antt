pub mod Lanes
pub mod Reading
pub mod Report
pub mod Sorted
pub mod Verdicts
pub mod Words
