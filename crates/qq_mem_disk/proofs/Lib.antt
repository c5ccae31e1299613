mod Listed
mod Moved
mod Newest
mod Steps
mod Undo
