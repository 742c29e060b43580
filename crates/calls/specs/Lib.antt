-- The calls and what refuses them.
pub mod Calls
