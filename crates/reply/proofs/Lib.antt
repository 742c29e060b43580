-- Laws that the proofs of what is printed cite.
pub mod Responses
