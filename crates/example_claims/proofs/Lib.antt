-- The theorems of these examples, by computation.
pub mod Witnesses
pub mod Refuted
