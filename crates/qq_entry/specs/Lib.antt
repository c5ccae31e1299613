pub mod Answer
pub mod Command
pub mod Message
pub mod Queue
pub mod Range
pub mod Answers
pub mod Same
