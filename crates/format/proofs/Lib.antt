-- Laws of the definitions in specs/ that the proofs cite.
pub mod Search
pub mod Seals
pub mod Places
pub mod Checks
pub mod Ranges
pub mod Passes
