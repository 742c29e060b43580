-- Decimals as std's, and texts at the front of a buffer.
pub mod Decimals
pub mod Fronts
