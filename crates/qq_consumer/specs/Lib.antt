pub mod Joined
pub mod Next
pub mod Numbers
pub mod Roster
pub mod Turns
