-- What a place of the table holds.
pub mod Decoded
