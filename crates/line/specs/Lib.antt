-- The run program's lines, read as numbers.
pub mod Parsing
