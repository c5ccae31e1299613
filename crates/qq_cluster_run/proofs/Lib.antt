pub mod Ahead
pub mod Answering
pub mod Audits
pub mod Beginnings
pub mod Checked
pub mod Closings
mod ExportRuns
pub mod Exports
pub mod FaultsTold
pub mod Feeds
pub mod Going
pub mod InputLines
pub mod Looping
pub mod Naming
pub mod Opening
pub mod Pieces
pub mod Prefixes
pub mod Plays
pub mod PrintedOnce
pub mod Printing
pub mod PlainRows
pub mod QueueRows
pub mod RefusalsTold
mod Said
pub mod Says
pub mod Serial
pub mod Statuses
pub mod Worked
