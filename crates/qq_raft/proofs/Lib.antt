mod Entries
mod Rises
