pub mod Bodies
pub mod Arguments
pub mod Images
pub mod Commands
pub mod Lines
pub mod Names
pub mod Numbers
pub mod Words
