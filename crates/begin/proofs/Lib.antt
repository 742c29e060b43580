-- Laws of the definitions in specs/ that the proofs cite.
pub mod Begins
pub mod Fill
