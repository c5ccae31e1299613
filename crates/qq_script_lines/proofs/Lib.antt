mod Causes
mod Counts
mod FirstWords
mod Reading
mod Sends
mod Writings
