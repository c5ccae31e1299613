mod Records
mod Marks
mod Counted
mod ChainLaws
mod Again
mod Cleared
mod Removed
mod Numbered
mod Passing
mod Way
mod WayEnds
mod Quiet
mod NewestLaws
mod States
mod Tables
mod LogLaws
mod Lying
mod Handed
mod Settled
mod Starts
pub mod Promised
mod Begun
mod Carries
mod Prepared
mod Outcomes
pub mod Causes
pub mod Reread
pub mod GoingOn
pub mod Frames
