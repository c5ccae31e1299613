mod Places
pub mod Sums
mod Changes
