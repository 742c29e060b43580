-- The tables, by computation.
pub mod Computed
