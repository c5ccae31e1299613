mod Bindings
mod Puts
mod Relation
mod Sets
mod Split
mod Walks
