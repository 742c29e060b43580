-- The operations and the comparisons.
pub mod Operation
