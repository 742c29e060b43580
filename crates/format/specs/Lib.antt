-- The chart file's rules, in document 01's order: the first number that fails a test, load's input
-- checks.
pub mod Search
pub mod File
