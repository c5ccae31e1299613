pub mod Places
pub mod SeatLemmas
