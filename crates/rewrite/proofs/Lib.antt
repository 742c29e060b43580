-- Laws that the proofs cite.
pub mod Copies
pub mod Replaced
pub mod Halfway
