-- The definitions that the examples compute with.
pub mod Open
