pub mod Elections
pub mod Matches
pub mod Rises
pub mod Supports
pub mod Tests
pub mod Walks
