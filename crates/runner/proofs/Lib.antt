-- Laws that the proofs of the methods and of the claims cite: what a state says, the outcome of each
-- call, and the loop of advance.
pub mod States
pub mod Outcomes
pub mod Boxes
