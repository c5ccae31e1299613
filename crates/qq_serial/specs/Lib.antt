pub mod Choice
pub mod Replay
pub mod Views
