mod AfterMoves
pub mod Appended
mod Changes
mod Dones
mod Elections
mod Example
pub mod Fewer
mod Grows
pub mod Kept
pub mod Leaders
mod Leads
pub mod Lists
pub mod Logs
pub mod Majorities
mod Promises
mod Refusal
mod Restarts
mod Roles
pub mod Runs
mod Settles
pub mod Shades
mod StartKept
mod Starts
mod Tops
mod Votes
mod Writes
