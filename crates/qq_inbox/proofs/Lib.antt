pub mod HandOvers
mod Knowledge
pub mod Numbers
pub mod Rights
pub mod Seatings
