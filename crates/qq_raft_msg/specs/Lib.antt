pub mod Bag
pub mod Encoding
pub mod Queue
pub mod Reading
pub mod Rpc
