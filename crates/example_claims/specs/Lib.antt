-- What claims of the calls do not hold, and instances of demand 3, of a conversion and of a
-- rewriting.
pub mod Refuted
pub mod Witnesses
