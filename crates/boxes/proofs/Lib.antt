-- Laws that the proofs cite.
pub mod Bools
pub mod Zeros
pub mod Formed
pub mod Places
