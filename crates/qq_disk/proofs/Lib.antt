pub mod Crashes
pub mod Moments
pub mod Named
pub mod Names
pub mod Stored
