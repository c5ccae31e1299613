mod Commits
mod Copies
pub mod Entries
mod Falls
mod Fitting
mod Flushes
mod Holding
mod Members
mod Pushes
mod Ranges
mod Said
mod Sendable
mod Waits
pub mod Undoing
