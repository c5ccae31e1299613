pub mod Seen
pub mod Takers
pub mod Seats
pub mod Noting
