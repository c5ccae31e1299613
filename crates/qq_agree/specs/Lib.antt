pub mod Support
pub mod Tests
