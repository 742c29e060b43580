-- The box at a place of the table, and what it does.
pub mod Decode
