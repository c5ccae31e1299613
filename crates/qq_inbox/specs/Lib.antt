pub mod HandOver
pub mod Inbox
pub mod Marks
pub mod Rights
pub mod Seats
pub mod Threads
