mod Differing
mod Pairs
mod Reached
mod NodesRead
mod Refused
mod Saying
mod Sorting
