-- Laws of the definitions in specs/ that the proofs cite.
pub mod Sums
pub mod Seals
