mod Applying
pub mod Causes
mod EventLaws
mod Events
mod Fitting
mod GroupCauses
mod Groups
mod Opened
mod Passing
mod Refused
mod Restarting
mod Returned
mod Rows
mod Senders
mod Sending
mod Servers
