pub mod KeptLow
pub mod Known
pub mod Named
pub mod Opened
pub mod Rising
pub mod Row
