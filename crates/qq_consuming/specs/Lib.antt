pub mod Consuming
pub mod Received
pub mod Arrivals
pub mod Numerals
pub mod Fetched
pub mod Consumers
pub mod Known
