-- Laws that the proofs cite.
pub mod Lists
pub mod Joined
pub mod Blocks
pub mod Writes
pub mod Shows
