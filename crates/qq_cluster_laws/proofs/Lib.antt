pub mod Reached
pub mod Restarts
pub mod Supporting
pub mod Own
pub mod Waiting
pub mod Seats
pub mod Unseen
pub mod Links
pub mod Traces
pub mod Calls
pub mod Moments
pub mod Always
pub mod Serves
mod Answered
